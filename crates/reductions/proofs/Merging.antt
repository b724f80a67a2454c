-- What one run, one lead for a limit and one point of the limits layer have to do with the labels read.
use Rattle.std.proofs.Common.{◌≡◌, ℕ, ◌+◌, ◌≤◌, Bool, true, false, cond, ◌&&◌, is_some, Some, None, Option, refl, arith}
use Rattle.drawing.specs.declared.Mark.{Mark}
use Rattle.drawing.specs.declared.Mark.TheVariants.{Plain, Bar}
use Rattle.drawing.specs.declared.Kind.{Kind}
use Rattle.drawing.specs.declared.Kind.TheVariants.{Lead}
use Rattle.drawing.specs.declared.Label.{Label}
use Rattle.drawing.specs.Counts.{only}
use Rattle.drawing.specs.Drawings.{is_link, is_rack, is_bar, limit_of}
use Rattle.drawing.specs.Plans.{Under}
use Rattle.drawing.specs.Labels.{is_near, is_tight, is_far, adds, deducts}
use Rattle.reductions.specs.Limits.{merged}

abbrev pub read : Bool → Label → Label → Label
read l a b = cond l (merged a b) a

pub merged_run : (k : Kind) (l i : Bool) (a b c e : Label) (lo up : ℕ) → is_link k ≡ false
    → is_tight a ≡ false → is_tight b ≡ false → is_tight c ≡ false → is_tight e ≡ false
    → adds k (read l a b) (read i c e) up + deducts k (cond l b a) c lo ≤ adds k (cond l b a) c up + deducts k (read l a b) (read i c e) lo
merged_run k l i a b c e lo up p q r s t = grind arith

pub merged_limit : (l : Bool) (a b : Label) (x : ℕ) → is_tight a ≡ false → is_tight b ≡ false → only l (adds Lead a b x) ≡ only (is_tight (read l a b)) x
merged_limit l a b x p q = grind arith

pub merged_tight : (l : Bool) (a b : Label) → is_tight a ≡ false → is_tight (read l a b) ≡ true → l ≡ true
merged_tight l a b p q = grind arith

-- a rack that is not far is read as not far, and a bar that is not near as not near
pub merged_rack : (k : Mark) (l : Bool) (a b : Label) → is_tight a ≡ false → (is_rack (cond (l && is_bar k) Plain k) && is_far a) ≡ false → (is_rack k && is_far (read l a b)) ≡ false
merged_rack k l a b p q = grind arith

pub merged_bar : (k : Mark) (l : Bool) (a b : Label) → (is_bar (cond (l && is_bar k) Plain k) && is_near a) ≡ false → (is_bar (cond (l && is_bar k) Bar Plain) && is_near b) ≡ false → (is_bar k && is_near (read l a b)) ≡ false
merged_bar k l a b p q = grind arith

pub entry_rack : (k : Mark) (l : Bool) → is_rack k ≡ false → is_rack (cond (l && is_bar k) Plain k) ≡ false
entry_rack k l e = grind arith

pub entry_bar : (k : Mark) (l : Bool) → l ≡ true → is_bar (cond (l && is_bar k) Plain k) ≡ false
entry_bar k l e = grind arith

pub entry_no_bar : (k : Mark) (l : Bool) → is_bar k ≡ false → is_bar (cond (l && is_bar k) Plain k) ≡ false
entry_no_bar k l e = grind arith

pub beyond_rack : (k : Mark) (l : Bool) → is_rack (cond (l && is_bar k) Bar Plain) ≡ false
beyond_rack k l = grind arith

pub beyond_bar : (k : Mark) (l : Bool) → is_bar k ≡ false → is_bar (cond (l && is_bar k) Bar Plain) ≡ false
beyond_bar k l e = grind arith

pub under_by : (o : Option ℕ) (x : ℕ) → (is_some o ≡ true → x ≤ limit_of o) → Under o x
under_by None x h = tt
under_by (Some l) x h = h refl
