-- What reading a far end as near, or a near end as far, does to what one run adds and deducts.
use Rattle.std.proofs.Common.{◌≡◌, ℕ, ◌+◌, ◌≤◌, Bool, true, false, cond, ◌&&◌, ◌||◌, refl, arith}
use Rattle.drawing.specs.declared.Kind.{Kind}
use Rattle.drawing.specs.declared.Kind.TheVariants.{Lead}
use Rattle.drawing.specs.declared.Label.{Label}
use Rattle.drawing.specs.declared.Label.TheVariants.{Near, Far}
use Rattle.drawing.specs.Counts.{only}
use Rattle.drawing.specs.declared.Mark.{Mark}
use Rattle.drawing.specs.declared.Mark.TheVariants.{Plain, Rack, Bar}
use Rattle.drawing.specs.declared.Run.{Run}
use Rattle.drawing.specs.Drawings.{is_link, is_rack, is_bar}
use Rattle.drawing.specs.Labels.{is_near, is_tight, is_far, adds, deducts}
use Rattle.drawing.proofs.Sums.{only_zero}

-- far is read as near where x, near is read as far where y
abbrev pub reading : Label → Bool → Bool → Label
reading l x y = cond (is_far l && x) Near (cond (is_near l && y) Far l)

pub relabelled : (k : Kind) (a b : Label) (x y z w : Bool) (lo up : ℕ) → lo ≤ up
    → adds k (reading a x y) (reading b z w) up + deducts k a b lo
    ≤ adds k a b up + deducts k (reading a x y) (reading b z w) lo
    + (only (is_far a && x) up + only (is_far b && z) (only (is_link k) up))
    + (only (is_near b && w) up + only (is_near a && y) (only (is_link k) up))
relabelled k a b x y z w lo up h = grind arith

pub reading_tight : (l : Label) (x y : Bool) → is_tight (reading l x y) ≡ is_tight l
reading_tight l x y = grind arith

-- what the lead of an old terminal adds
plain_adds : (p q l : Label) (x y : ℕ) → 0 ≡ only (is_far l && (false && is_near p)) x + only (is_near l && (false && is_far q)) y
plain_adds p q l x y = grind arith

rack_adds : (p q l : Label) (x y : ℕ) → only (is_near p && is_far l) x ≡ only (is_far l && (true && is_near p)) x + only (is_near l && (false && is_far q)) y
rack_adds p q l x y = grind arith

bar_adds : (p q l : Label) (x y : ℕ) → only (is_near l && is_far q) y ≡ only (is_far l && (false && is_near p)) x + only (is_near l && (true && is_far q)) y
bar_adds p q l x y = grind arith

pub lead_adds : (k : Mark) (r b u x y : ℕ) (f : ℕ → Label)
    → only (is_rack k || is_bar k) (let l : Run = cond (is_rack k) (record { kind = Lead; tail = r; head = u; lower = 0; upper = x }) (record { kind = Lead; tail = u; head = b; lower = 0; upper = y }) in adds l.kind (f l.tail) (f l.head) l.upper)
    ≡ only (is_far (f u) && (is_rack k && is_near (f r))) x + only (is_near (f u) && (is_bar k && is_far (f b))) y
lead_adds Plain r b u x y f = plain_adds (f r) (f b) (f u) x y
lead_adds Rack r b u x y f = rack_adds (f r) (f b) (f u) x y
lead_adds Bar r b u x y f = bar_adds (f r) (f b) (f u) x y

pub lead_deducts : (k : Mark) (r b u x y : ℕ) (f : ℕ → Label)
    → only (is_rack k || is_bar k) (let l : Run = cond (is_rack k) (record { kind = Lead; tail = r; head = u; lower = 0; upper = x }) (record { kind = Lead; tail = u; head = b; lower = 0; upper = y }) in deducts l.kind (f l.tail) (f l.head) l.lower) ≡ 0
lead_deducts Plain r b u x y f = refl
lead_deducts Rack r b u x y f = only_zero _
lead_deducts Bar r b u x y f = only_zero _

pub rack_read : (k : Mark) (l : Label) (p q : Bool) → p ≡ true → (is_rack k && is_far (reading l (is_rack k && p) (is_bar k && q))) ≡ false
rack_read k l p q e = grind arith

pub bar_read : (k : Mark) (l : Label) (p q : Bool) → q ≡ true → (is_bar k && is_near (reading l (is_rack k && p) (is_bar k && q))) ≡ false
bar_read k l p q e = grind arith

pub then_near : (l : Label) → is_far l ≡ false → is_tight l ≡ false → is_near l ≡ true
then_near l f t = grind arith

pub then_far : (l : Label) → is_near l ≡ false → is_tight l ≡ false → is_far l ≡ true
then_far l f t = grind arith
