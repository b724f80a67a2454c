-- When a text describes a rig.
use Rattle.std.specs.Prelude.{◌≡◌, ℕ, ◌≤◌, ◌↔◌, List, [], ◌∷◌, ◌++◌, length, None, Ok}
use Rattle.std.specs.List.{AllByRecursion}
use Rattle.drawing.specs.declared.Mark.TheVariants.{Plain}
use Rattle.drawing.specs.declared.Run.{Run}
use Rattle.drawing.specs.Counts.{Within}
use Rattle.drawing.specs.Drawings.{Network, point_count, point, LawfulRun}
use Rattle.rig_drawing.specs.Bounds.{Bounded}
use Rattle.rig_lines.specs.declared.Form.{Form}
use Rattle.rig_lines.specs.declared.Form.TheVariants.{Rig, Max}
use Rattle.rig_lines.specs.declared.Role.{Role}
use Rattle.rig_lines.specs.declared.Item.{Item}
use Rattle.rig_lines.specs.declared.Item.TheVariants as item
use Rattle.rig_lines.specs.Spelling.{Spelled}
use Rattle.reading.specs.Lines.{lines_of}
use Rattle.reading.specs.Given.{lead_of, link_of, marks_in, limits_in, runs_in, points_given, last_or}
use Rattle.reading.specs.Reading.{read_text}

abbrev pub IsComment : Item → Type 0
IsComment item.Comment = Unit {0}
IsComment (item.Head f n m) = ⊥
IsComment (item.Role v r) = ⊥
IsComment (item.Limit v c) = ⊥
IsComment (item.Lead t h lo up) = ⊥
IsComment (item.PlainLead t h up) = ⊥
IsComment (item.Link t h up) = ⊥

-- The lines that a form has after its head: `p rig` comments, n, l, a with a lower, e; `p max` comments, n, a without a lower.
abbrev pub Knows : Form → Item → Type 0
Knows f item.Comment = Unit {0}
Knows f (item.Head g n m) = ⊥
Knows f (item.Role v r) = Unit {0}
Knows f (item.Limit v c) = f ≡ Rig
Knows f (item.Lead t h lo up) = f ≡ Rig
Knows f (item.PlainLead t h up) = f ≡ Max
Knows f (item.Link t h up) = f ≡ Rig

-- a run that a rig of n points may have
abbrev pub RigRun : ℕ → Run → Type 0
RigRun n r = LawfulRun n r × (r.upper ≤ 9999)

-- a line that keeps a rig of n points within its bounds
abbrev pub InBounds : ℕ → Item → Type 0
InBounds n item.Comment = Unit {0}
InBounds n (item.Head f k m) = Unit {0}
InBounds n (item.Role v r) = Within n v
InBounds n (item.Limit v c) = Within n v × (c ≤ 9999)
InBounds n (item.Lead t h lo up) = RigRun n (lead_of t h lo up)
InBounds n (item.PlainLead t h up) = RigRun n (lead_of t h 0 up)
InBounds n (item.Link t h up) = RigRun n (link_of t h up)

-- each line spells the item at its place, and there are as many of both
unfoldable pub Spell : List (List ℕ) → List Item → Type 0
Spell [] [] = Unit {0}
Spell [] (x ∷ xs) = ⊥
Spell (l ∷ ls) [] = ⊥
Spell (l ∷ ls) (x ∷ xs) = Spelled l x × Spell ls xs

-- The text describes the rig.
pub record Describes (t : List ℕ) (d : Network) : Type 0 where
  -- what its lines say before the head; the head's form, number of points and number of runs; what its lines say after the head
  pub before : List Item
  pub form : Form
  pub n : ℕ
  pub m : ℕ
  pub after : List Item
  -- the lines say that, in at most 16,384 bytes
  pub short : length t ≤ 16384
  pub lines : Spell (lines_of t) (before ++ (item.Head form n m ∷ after))
  -- only comments stand before the head, and it names 1 to 60 points and at most 160 runs
  pub comments : AllByRecursion IsComment before
  pub point_range : Within 60 n
  pub run_range : m ≤ 160
  -- the lines after it are of its form and in bounds; a point has at most one n line and one l line, and there are as many runs as announced
  pub known : AllByRecursion (Knows form) after
  pub bounded : AllByRecursion (InBounds n) after
  pub marked_once : (v : ℕ) → length (marks_in after v) ≤ 1
  pub limited_once : (v : ℕ) → length (limits_in after v) ≤ 1
  pub announced : length (runs_in after) ≡ m
  -- `p max` has just one line with s and one with t
  pub terminals : form ≡ Max → (r : Role) → length (points_given after r) ≡ 1
  -- the rig has n points, each with the mark of its n line, plain where it has none,
  -- and with the limit of its l line, none where it has none; and its runs are those that lines lay, in order
  pub points : point_count d ≡ n
  pub marks : (v : ℕ) → Within n v → (point d v).mark ≡ last_or Plain (marks_in after v)
  pub limits : (v : ℕ) → Within n v → (point d v).limit ≡ last_or None (limits_in after v)
  pub runs : d.runs ≡ runs_in after

-- a text is read as just the rig that it describes
abbrev pub ReadsExactly : Type 0
ReadsExactly = (t : List ℕ) (d : Network) → (read_text t ≡ Ok d) ↔ Describes t d

-- and that rig keeps the bounds of rigs
abbrev pub ReadBounded : Type 0
ReadBounded = (t : List ℕ) (d : Network) → read_text t ≡ Ok d → Bounded d
