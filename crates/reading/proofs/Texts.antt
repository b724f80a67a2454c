-- A text is read as just the rig that it describes.
use Rattle.std.proofs.Common.{◌≡◌, ℕ, zero, suc, ◌+◌, ◌≤◌, Bool, true, false, cond, List, length, get_or, replicate, is_some, None, Ok, Err, Result, sym, refl, ap, ◌∙◌, subst, subst₂, zero-add}
use Rattle.std.specs.List.{AllByRecursion}
use Rattle.std.proofs.lemmas.List.{length-replicate}
use Rattle.std.proofs.lemmas.Bool.{leb-true, le-leb}
use Rattle.drawing.specs.declared.Mark.TheVariants.{Plain}
use Rattle.drawing.specs.Counts.{only}
use Rattle.drawing.specs.Drawings.{Network, point, no_point, is_rack, is_bar}
use Rattle.drawing.proofs.Sums.{sum_none}
use Rattle.rig_drawing.specs.Changes.{plain_rig}
use Rattle.rig_lines.specs.declared.Role.{Role}
use Rattle.rig_lines.specs.declared.Role.TheVariants as role
use Rattle.rig_lines.specs.declared.Item.{Item}
use Rattle.reading.specs.declared.Fault.{Fault}
use Rattle.reading.specs.Lines.{lines_of}
use Rattle.reading.specs.Given.{marks_in, limits_in, runs_in, points_given, last_or}
use Rattle.reading.specs.Reading.{is_marked, role_count}
use Rattle.reading.specs.Describing.{InBounds, Describes, ReadsExactly, ReadBounded}
use Rattle.reading.proofs.Accepting.{head_accepted, head_accepts}
use Rattle.reading.proofs.Loads.{Load, load, same_load}
use Rattle.reading.proofs.Following.{Fits, leaves_follows, follows_leaves}
use Rattle.reading.proofs.Lines.{Headed, reads_headed, reads_from, err_not_ok}
use Rattle.reading.proofs.Bounding.{headed_bounded}

-- a rig as its head leaves it holds nothing
plain_get_or : (n i : ℕ) → get_or (replicate n no_point) i no_point ≡ no_point
plain_get_or zero i = refl
plain_get_or (suc n) zero = refl
plain_get_or (suc n) (suc i) = plain_get_or n i

plain_point : (n v : ℕ) → point (plain_rig n) v ≡ no_point
plain_point n zero = refl
plain_point n (suc v) = plain_get_or n v

plain_roles : (n : ℕ) (r : Role) → role_count r (plain_rig n) ≡ 0
plain_roles n role.Rack = sum_none _ _ (λ v w. ap (λ p. only (is_rack p.mark) 1) (plain_point n v))
plain_roles n role.Bar = sum_none _ _ (λ v w. ap (λ p. only (is_bar p.mark) 1) (plain_point n v))

-- what lines say by themselves
abbrev said : List Item → Load
said xs = record {
  marked = λ v. length (marks_in xs v);
  limited = λ v. length (limits_in xs v);
  roles = λ r. length (points_given xs r);
  mark = λ v. last_or Plain (marks_in xs v);
  limit = λ v. last_or None (limits_in xs v);
  runs = runs_in xs;
}

plain_load : (n : ℕ) (xs : List Item) → load (plain_rig n) xs ≡ said xs
plain_load n xs =
    same_load _ _
    (λ v. ap (λ p. only (is_marked p.mark) 1 + length (marks_in xs v)) (plain_point n v) ∙ zero-add _)
    (λ v. ap (λ p. only (is_some p.limit) 1 + length (limits_in xs v)) (plain_point n v) ∙ zero-add _)
    (λ r. ap (λ k. k + length (points_given xs r)) (plain_roles n r) ∙ zero-add _)
    (λ v. ap (λ p. last_or p.mark (marks_in xs v)) (plain_point n v))
    (λ v. ap (λ p. last_or p.limit (limits_in xs v)) (plain_point n v))
    refl

headed_describes : (t : List ℕ) (d : Network) → length t ≤ 16384 → Headed (lines_of t) d → Describes t d
headed_describes t d short h =
    let (few, range) = head_accepted h.n h.m h.head in
    let follows = leaves_follows h.form h.m (plain_rig h.n) h.after d h.leaves in
    let count = length-replicate h.n no_point in
    let fits = subst₂ (λ k l. Fits h.form h.m k l d) count (plain_load h.n h.after) follows.fits in
    record {
      before = h.before;
      form = h.form;
      n = h.n;
      m = h.m;
      after = h.after;
      short = short;
      lines = h.spell;
      comments = h.comments;
      point_range = range;
      run_range = few;
      known = follows.known;
      bounded = subst (λ k. AllByRecursion (InBounds k) h.after) count follows.bounded;
      marked_once = fits.marked_once;
      limited_once = fits.limited_once;
      announced = fits.announced;
      terminals = fits.terminals;
      points = fits.points;
      marks = fits.marks;
      limits = fits.limits;
      runs = fits.runs;
    }

describes_headed : (t : List ℕ) (d : Network) → Describes t d → Headed (lines_of t) d
describes_headed t d h =
    let count = sym (length-replicate h.n no_point) in
    let fits : Fits h.form h.m h.n (said h.after) d = record {
      marked_once = h.marked_once;
      limited_once = h.limited_once;
      announced = h.announced;
      terminals = h.terminals;
      points = h.points;
      marks = h.marks;
      limits = h.limits;
      runs = h.runs;
    } in
    record {
      before = h.before;
      form = h.form;
      n = h.n;
      m = h.m;
      after = h.after;
      spell = h.lines;
      comments = h.comments;
      head = head_accepts h.n h.m h.run_range h.point_range;
      leaves = follows_leaves h.form h.m (plain_rig h.n) h.after d h.run_range (record {
        known = h.known;
        bounded = subst (λ k. AllByRecursion (InBounds k) h.after) count h.bounded;
        fits = subst₂ (λ k l. Fits h.form h.m k l d) count (sym (plain_load h.n h.after)) fits;
      });
    }

-- the text's length
text_parts : (b : Bool) (r : Result Network Fault) (e : Fault) (d : Network) → cond b r (Err e) ≡ Ok d → (b ≡ true) × (r ≡ Ok d)
text_parts true r e d h = (refl, h)
text_parts false r e d h = err_not_ok e d h

pub reads_exactly : ReadsExactly
reads_exactly t d = (
  λ h. let (short, reads) = text_parts _ _ _ d h in headed_describes t d (leb-true _ _ short) (reads_headed (lines_of t) 1 d reads),
  λ h. rw (le-leb (length t) 16384 h.short) (reads_from (lines_of t) 1 d (describes_headed t d h)),
)

pub read_bounded : ReadBounded
read_bounded t d h = headed_bounded (lines_of t) d (reads_headed (lines_of t) 1 d (text_parts _ _ _ d h).1)
