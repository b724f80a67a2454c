-- What one point and one run have to do with a labelling.
use Rattle.std.proofs.Common.{◌≡◌, ℕ, ◌+◌, ◌≤◌, Bool, true, not, ℤ, pos, negsuc, is_some, Some, None, Option, refl, arith}
use mathlib.Core.Bool.{false≢true}
use Rattle.std.proofs.lemmas.Int.{ints}
use Rattle.drawing.specs.declared.Kind.{Kind}
use Rattle.drawing.specs.declared.Kind.TheVariants.{Lead, Link}
use Rattle.drawing.specs.declared.Label.{Label}
use Rattle.drawing.specs.declared.Label.TheVariants.{Near, Tight, Far}
use Rattle.drawing.specs.Counts.{only}
use Rattle.drawing.specs.Drawings.{limit_of}
use Rattle.drawing.specs.Plans.{forth, back, InRange, Under}
use Rattle.drawing.specs.Labels.{is_near, is_tight, is_far, adds, deducts}

-- near or tight
abbrev pub inside : Label → Bool
inside l = not (is_far l)

pub at_point : (l : Label) (o : Option ℕ) (e s u t : ℕ) → e + s ≡ u + t → Under o (e + s) → (is_tight l ≡ true → is_some o ≡ true)
    → only (inside l) e + only (inside l) s ≤ only (is_near l) u + only (is_near l) t + only (is_tight l) (limit_of o)
at_point Near o e s u t b h g = omega arith
at_point Tight None e s u t b h g = absurd (false≢true (g refl))
at_point Tight (Some l) e s u t b h g = omega arith
at_point Far o e s u t b h g = omega arith

pub lead_flow : (lo up : ℕ) (f : ℤ) → InRange Lead lo up f → (lo ≤ forth f) × (forth f ≤ up) × (back f ≡ 0)
lead_flow lo up (pos x) h = omega (arith, ints)
lead_flow lo up (negsuc x) h = omega (arith, ints)

pub link_flow : (lo up : ℕ) (f : ℤ) → InRange Link lo up f → forth f + back f ≤ up
link_flow lo up (pos x) h = omega arith
link_flow lo up (negsuc x) h = omega arith

-- what leaves the near side by a run, and what the run takes from the worth, is no more than what comes in by it and what it adds
at_lead : (a b : Label) (lo up x y : ℕ) → (lo ≤ x) × (x ≤ up) × (y ≡ 0)
    → only (is_near a) x + only (is_near b) y + deducts Lead a b lo ≤ only (inside b) x + only (inside a) y + adds Lead a b up
at_lead a b lo up x y h = grind arith

at_link : (a b : Label) (lo up x y : ℕ) → x + y ≤ up
    → only (is_near a) x + only (is_near b) y + deducts Link a b lo ≤ only (inside b) x + only (inside a) y + adds Link a b up
at_link a b lo up x y h = grind arith

pub at_run : (k : Kind) (a b : Label) (lo up : ℕ) (f : ℤ) → InRange k lo up f
    → only (is_near a) (forth f) + only (is_near b) (back f) + deducts k a b lo ≤ only (inside b) (forth f) + only (inside a) (back f) + adds k a b up
at_run Lead a b lo up f h = at_lead a b lo up (forth f) (back f) (lead_flow lo up f h)
at_run Link a b lo up f h = at_link a b lo up (forth f) (back f) (link_flow lo up f h)
