-- What is read: at a place counted from 1, by the place counted from 0; and within which bounds.
use Rattle.std.proofs.Common.{◌≡◌, ℕ, zero, suc, ◌+◌, ◌-◌, ◌≤◌, false, List, get_or, ℤ, pos, ◌-ℤ◌, ◌≤ℤ◌, ap, subst, true≢false, arith}
use Rattle.std.proofs.lemmas.Int.{ints}
use Rattle.drawing.specs.declared.Feature.TheVariants.{Links}
use Rattle.drawing.specs.declared.Kind.{Kind}
use Rattle.drawing.specs.declared.Kind.TheVariants.{Lead, Link}
use Rattle.drawing.specs.declared.Label.{Label}
use Rattle.drawing.specs.Answers.{Short}
use Rattle.drawing.specs.Counts.{Within, only, nth}
use Rattle.drawing.specs.Drawings.{Network, point_count, run_count, point, run, is_link, limit_of, units, uses}
use Rattle.drawing.specs.Labels.{is_tight, label, adds, worth}
use Rattle.drawing.specs.Plans.{Plan, Feasible, InRange}
use Rattle.drawing.specs.Records.{Contents, filed}
use Rattle.drawing.proofs.Sums.{sum_below, only_le}
use Rattle.duality.proofs.Duality.{none_to}
use Rattle.reductions.specs.LowerBounds.{raised_flow, raised_plan}
use Rattle.reductions.proofs.Places.{nth_made, sum_longer}

pub before : {X : Type 0} (xs : List X) (r v : ℕ) (d : X) → r ≡ v → 1 ≤ v → get_or xs (r - 1) d ≡ nth xs v d
before xs r zero d e h = let no_such : ⊥ = omega arith in absurd no_such
before xs r (suc k) d e h = let q : r - 1 ≡ k = omega arith in ap (λ n. get_or xs n d) q

pub beyond : {X : Type 0} (xs : List X) (m n k : ℕ) (d : X) → m ≡ n → get_or xs (m + k) d ≡ nth xs (n + suc k) d
beyond xs m n k d e = let q : suc (m + k) ≡ n + suc k = omega arith in ap (λ n. nth xs n d) q

-- the worth of a labelling is at most the units
adds_le : (k : Kind) (a b : Label) (u : ℕ) → adds k a b u ≤ u
adds_le Lead a b u = only_le _ u
adds_le Link a b u = only_le _ u

pub worth_bounded : (d : Network) (ls : List Label) (t : ℕ) → worth d ls ≡ pos t → t ≤ units d
worth_bounded d ls t e =
    let runs = sum_below (run_count d) (λ k. adds (run d k).kind (label ls (run d k).tail) (label ls (run d k).head) (run d k).upper) (λ k. (run d k).upper) (λ k w. adds_le (run d k).kind _ _ _) in
    let points = sum_below (point_count d) (λ v. only (is_tight (label ls v)) (limit_of (point d v).limit)) (λ v. limit_of (point d v).limit) (λ v w. only_le (is_tight (label ls v)) (limit_of (point d v).limit)) in
    omega (arith, ints, e, runs, points)

-- and so is an upper
upper_bounded : (d : Network) (k : ℕ) → Within (run_count d) k → (run d k).upper ≤ units d
upper_bounded d zero w = let no_such : ⊥ = omega arith in absurd no_such
upper_bounded d (suc k) w = omega (arith, sum_longer (run_count d) (suc k) (λ i. (run d i).upper) w.1)

-- the flows of a feasible plan of leads
lead_range : (k : Kind) (lo up most : ℕ) (f : ℤ) → is_link k ≡ false → InRange k lo up f → up ≤ most → (pos 0 ≤ℤ f) × (f ≤ℤ pos most)
lead_range Lead lo up most f e (h, i) m = (omega (arith, ints, h), omega (arith, ints, i))
lead_range Link lo up most f e h m = absurd (true≢false e)

pub raised_fits : (d : Network) (p p₂ : Plan) (t most : ℕ) → uses d Links ≡ false → Feasible d (raised_plan d p p₂ t) → units d ≤ most → (k : ℕ) → Within (run_count d) k
    → (pos 0 ≤ℤ raised_flow d p p₂ k) × (raised_flow d p p₂ k ≤ℤ pos most)
raised_fits d p p₂ t most links ok few k w =
    subst (λ f. (pos 0 ≤ℤ f) × (f ≤ℤ pos most)) (nth_made (raised_flow d p p₂) (run_count d) k (pos 0) w)
    (lead_range (run d k).kind (run d k).lower (run d k).upper most _ (none_to (run_count d) _ links k w) (ok.in_range k w) (omega (arith, upper_bounded d k w)))

-- the same of the parts of a flow, as code adds them
pub sum_fits : (a b most : ℕ) → pos 0 ≤ℤ (pos a -ℤ pos b) → (pos a -ℤ pos b) ≤ℤ pos most → (b ≤ a) × (a ≤ b + most)
sum_fits a b most h i = (omega (arith, ints, h), omega (arith, ints, i))

-- a shortage with other labels
pub short_relabelled : (k : Contents) (ls ls' : List Label) → k ≡ filed (Short ls)
    → ◌≡◌ {A = Contents} (record { verdict = k.verdict; flows = k.flows; supplies = k.supplies; deliveries = k.deliveries; total = k.total; labels = ls' }) (filed (Short ls'))
short_relabelled k ls ls' e = ap (λ (c : Contents). let r : Contents = record { verdict = c.verdict; flows = c.flows; supplies = c.supplies; deliveries = c.deliveries; total = c.total; labels = ls' } in r) e
