-- A line as its kind with its fields.
use Rattle.std.specs.Prelude.{ℕ, ◌+◌, ◌-◌, min, cond, ◌&&◌, List, length, take, drop, Some, None, Option, nat_le}
use Rattle.std.specs.Option.{option_map, option_or}
use Rattle.std.specs.Bool.{then_some}
use Rattle.rig_lines.specs.declared.Field.{Field}
use Rattle.rig_lines.specs.declared.Line.{Line}
use Rattle.rig_lines.specs.declared.Line.TheVariants as line
use Rattle.rig_lines.specs.declared.LineKind.{LineKind}
use Rattle.rig_lines.specs.declared.LineKind.TheVariants as kind
use Rattle.rig_lines.specs.Codes.{kind_of}
use Rattle.rig_lines.specs.Fields.{Part, next, word_at, part_at, ends_at, lone}

-- the cases of `Line`, with what its fields hold
pub data Shape : Type 0 where
  comment : Part → Shape
  header : Part → Part → Part → Shape
  role : Part → Part → Shape
  limit : Part → Part → Shape
  lead : Part → Part → Part → Part → Shape
  plain_lead : Part → Part → Part → Shape
  link : Part → Part → Part → Shape

-- what a field of the code holds
abbrev pub part : Field → Part
part f = record { bytes = f.bytes.now; at = f.at }

-- what a line of the code holds
abbrev pub shape : Line → Shape
shape (line.Comment a) = comment (part a)
shape (line.Head a b c) = header (part a) (part b) (part c)
shape (line.Role a b) = role (part a) (part b)
shape (line.Limit a b) = limit (part a) (part b)
shape (line.Lead a b c d) = lead (part a) (part b) (part c) (part d)
shape (line.PlainLead a b c) = plain_lead (part a) (part b) (part c)
shape (line.Link a b c) = link (part a) (part b) (part c)

-- what follows from the value, where there is one
abbrev pub and_then : {A B : Type 0} → Option A → (A → Option B) → Option B
and_then None f = None
and_then (Some a) f = f a

-- the place of the first field after the letter
abbrev pub first : List ℕ → ℕ
first l = next l 0

-- and of the second
abbrev pub second : List ℕ → ℕ
second l = next l (first l)

-- and of the third
abbrev pub third : List ℕ → ℕ
third l = next l (second l)

-- and of the fourth
abbrev pub fourth : List ℕ → ℕ
fourth l = next l (third l)

-- the fields after the letter, where there are just two: the second ends the line
unfoldable pub two_parts : ℕ → List ℕ → Option (Part × Part)
two_parts start l = then_some (ends_at l (second l)) (part_at start l (first l), part_at start l (second l))

-- the fields after the letter, where there are just three
unfoldable pub three_parts : ℕ → List ℕ → Option (Part × Part × Part)
three_parts start l = then_some (ends_at l (third l)) (part_at start l (first l), part_at start l (second l), part_at start l (third l))

-- the fields after the letter, where there are just four
unfoldable pub four_parts : ℕ → List ℕ → Option (Part × Part × Part × Part)
four_parts start l =
    then_some (ends_at l (fourth l)) (part_at start l (first l), part_at start l (second l), part_at start l (third l), part_at start l (fourth l))

-- what stands after the letter and one space
abbrev pub remark_of : ℕ → List ℕ → Part
remark_of start l = record { bytes = drop 2 l; at = start + min 2 (length l) }

-- a comment has any bytes after its letter, a line of another kind just the fields of the kind
abbrev pub of_kind : LineKind → ℕ → List ℕ → Option Shape
of_kind kind.Comment start l = Some (comment (remark_of start l))
of_kind kind.Head start l = option_map (λ p. header p.0 p.1 p.2) (three_parts start l)
of_kind kind.Role start l = option_map (λ p. role p.0 p.1) (two_parts start l)
of_kind kind.Limit start l = option_map (λ p. limit p.0 p.1) (two_parts start l)
of_kind kind.Lead start l =
    option_or (option_map (λ p. plain_lead p.0 p.1 p.2) (three_parts start l)) (option_map (λ p. lead p.0 p.1 p.2 p.3) (four_parts start l))
of_kind kind.Link start l = option_map (λ p. link p.0 p.1 p.2) (three_parts start l)

-- the line that begins at the place start; none where the first field is not one letter that names a kind
unfoldable pub shape_of : ℕ → List ℕ → Option Shape
shape_of start l = and_then (and_then (lone (word_at l 0)) kind_of) (λ k. of_kind k start l)

-- the line between two places of a text; none where they are not in order or not in the text
abbrev pub line_at : List ℕ → ℕ → ℕ → Option Shape
line_at t start end = cond (nat_le start end && nat_le end (length t)) (shape_of start (take (end - start) (drop start t))) None

-- a line that the code answers, with what its fields hold
abbrev pub shapes : Option Line → Option Shape
shapes r = option_map shape r

-- and so two, three or four fields
abbrev pub parts2 : Option (Field × Field) → Option (Part × Part)
parts2 r = option_map (λ f. (part f.0, part f.1)) r

abbrev pub parts3 : Option (Field × Field × Field) → Option (Part × Part × Part)
parts3 r = option_map (λ f. (part f.0, part f.1, part f.2)) r

abbrev pub parts4 : Option (Field × Field × Field × Field) → Option (Part × Part × Part × Part)
parts4 r = option_map (λ f. (part f.0, part f.1, part f.2, part f.3)) r
