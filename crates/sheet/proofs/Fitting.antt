-- Every number of a rig's sheet has at most seven digits.
use Rattle.std.proofs.Common.{◌≡◌, ℕ, zero, suc, ◌+◌, ◌*◌, ◌^◌, ◌<◌, ◌≤◌, List, ℤ, pos, ◌-ℤ◌, nat_abs, ap, le_trans, mul-suc, arith}
use Rattle.std.specs.List.{AllByRecursion}
use Rattle.std.proofs.lemmas.Int.{ints}
use Rattle.drawing.specs.declared.Kind.{Kind}
use Rattle.drawing.specs.declared.Kind.TheVariants.{Lead, Link}
use Rattle.drawing.specs.declared.Label.{Label}
use Rattle.drawing.specs.Counts.{Within, sum_to}
use Rattle.drawing.specs.Drawings.{Network, Admissible, point_count, run_count, point, run, limit_of}
use Rattle.drawing.specs.Plans.{Plan, Feasible, InRange, flow}
use Rattle.drawing.specs.Labels.{is_tight, label, adds, deducts, crossing, throttled, forced, worth}
use Rattle.drawing.proofs.Sums.{earlier, last, only_le}
use Rattle.drawing.specs.Records.{network}
use Rattle.rig_drawing.specs.declared.bounded.RigDrawing.{RigDrawing}
use Rattle.rig_drawing.specs.Bounds.{Bounded}
use Rattle.rig_drawing.proofs.Bounding.{decides_bounded}
use Rattle.sheet.specs.Columns.{Small}
use Rattle.sheet.specs.Sheets.{run_numbers}

-- a rig's drawing keeps a rig's bounds
pub rig_bounded : (r : RigDrawing) → Bounded (network r.drawing)
rig_bounded r = (decides_bounded (network r.drawing)).0 r.bounds

-- n numbers that are at most b each
pub sum_at_most : (n b : ℕ) (f : ℕ → ℕ) → ((k : ℕ) → Within n k → f k ≤ b) → sum_to n f ≤ b * n
sum_at_most zero b f h = omega arith
sum_at_most (suc n) b f h =
    let below : sum_to n f ≤ b * n = sum_at_most n b f (λ k w. h k (earlier w)) in
    rw mul-suc (omega (arith, below, h (suc n) (last n)))

-- a run adds at most its upper, and takes away at most its lower
adds_at_most : (k : Kind) (a b : Label) (upper : ℕ) → adds k a b upper ≤ upper
adds_at_most Lead a b upper = only_le _ upper
adds_at_most Link a b upper = only_le _ upper

deducts_at_most : (k : Kind) (a b : Label) (lower : ℕ) → deducts k a b lower ≤ lower
deducts_at_most Lead a b lower = only_le _ lower
deducts_at_most Link a b lower = omega arith

-- the size of a flow is at most its run's upper
flow_at_most : (k : Kind) (lower upper : ℕ) (f : ℤ) → InRange k lower upper f → nat_abs f ≤ upper
flow_at_most Lead lower upper f h = grind (arith, ints)
flow_at_most Link lower upper f h = h

difference : (a b : ℕ) → a < 10 ^ 7 → b < 10 ^ 7 → Small (pos a -ℤ pos b)
difference a b p q = grind (arith, ints)

module _ (d : Network) (bounded : Bounded d) where
  pub admissible : Admissible d
  admissible = record { lawful = bounded.lawful; few_points = omega (arith, bounded.few_points); few_runs = omega (arith, bounded.few_runs) }

  crossing_at_most : (ls : List Label) → crossing d ls ≤ 9999 * run_count d
  crossing_at_most ls = sum_at_most (run_count d) 9999 _ (λ k w.
      le_trans (adds_at_most (run d k).kind (label ls (run d k).tail) (label ls (run d k).head) (run d k).upper) (bounded.small_uppers k w))

  throttled_at_most : (ls : List Label) → throttled d ls ≤ 9999 * point_count d
  throttled_at_most ls = sum_at_most (point_count d) 9999 _ (λ v w. le_trans (only_le (is_tight (label ls v)) (limit_of (point d v).limit)) (bounded.small_limits v w))

  forced_at_most : (ls : List Label) → forced d ls ≤ 9999 * run_count d
  forced_at_most ls = sum_at_most (run_count d) 9999 _ (λ k w.
      le_trans (deducts_at_most (run d k).kind (label ls (run d k).tail) (label ls (run d k).head) (run d k).lower)
      (le_trans (bounded.lawful.each_run k w).ordered (bounded.small_uppers k w)))

  -- the worth of any labels
  pub small_worth : (ls : List Label) → Small (worth d ls)
  small_worth ls =
      difference (crossing d ls + throttled d ls) (forced d ls)
      (omega (arith, crossing_at_most ls, throttled_at_most ls, bounded.few_runs, bounded.few_points)) (omega (arith, forced_at_most ls, bounded.few_runs))

  -- a total, which is the worth of a cut
  pub small_total : (t : ℕ) (ls : List Label) → worth d ls ≡ pos t → Small (pos t)
  small_total t ls e = omega (arith, small_worth ls, ap nat_abs e)

  -- the numbers of a run's line
  pub small_run : (p : Plan) → Feasible d p → (k : ℕ) → Within (run_count d) k → AllByRecursion Small (run_numbers k (run d k) (flow p k))
  small_run p ok k w =
      let lawful = bounded.lawful.each_run k w in
      let points = bounded.few_points in
      let runs = bounded.few_runs in (
        omega arith,
        (
          omega (arith, lawful.tail_in),
          (
            omega (arith, lawful.head_in),
            (omega (arith, flow_at_most _ _ _ _ (ok.in_range k w), bounded.small_uppers k w), tt),
          ),
        ),
      )
