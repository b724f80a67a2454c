-- What a drawing that is carried gives to both solves, and which case of the answer each way of the solve writes.
use Rattle.std.proofs.Common.{◌≡◌, ℕ, ◌+◌, ◌*◌, ◌/◌, ◌≤◌, true, false, ltb, List, vec_items, sym, refl, ap, ◌∙◌, true≢false, arith}
use Rattle.std.proofs.lemmas.Bool.{cond-true, cond-false}
use Rattle.drawing.specs.declared.Label.{Label}
use Rattle.drawing.specs.declared.Statements.{Statements}
use Rattle.drawing.specs.declared.Verdict.{Verdict}
use Rattle.drawing.specs.declared.Verdict.TheVariants.{Plan as PlanVerdict, Shortage as ShortageVerdict}
use Rattle.drawing.specs.declared.record.Record.{Record}
use Rattle.drawing.specs.Answers.{Answer, Planned, Short}
use Rattle.drawing.specs.Drawings.{Network, point_count, run_count, run, units as units_of}
use Rattle.drawing.specs.Plans.{Plan, Feasible}
use Rattle.drawing.specs.Records.{plan_in, answer_in}
use Rattle.drawing.specs.Solvers.{Modest, Carried}
use Rattle.drawing.proofs.Sums.{sum_below, only_le}
use Rattle.reductions.specs.LowerBounds.{all_lowers, lowers_first, lowers_second, raised_answer, lowers_above, lowers_fit, lowers_states}
use Rattle.reductions.proofs.Carrying.{lowers_first_carried, lowers_second_carried}
use Rattle.reductions.proofs.LowersFirst.{run_count_lem}
use Rattle.reductions.proofs.LowersSecond.{run_count₂}
use Rattle.reductions.proofs.Terminals.{point_count_lem}
use Rattle.scratch.proofs.Filing.{answer_plan, answer_short}
use Rattle.lower_bounds.specs.Verdicts.{shows_shortage, shortage_shown}

-- sizes
module _ (b : Statements) (d : Network) (modest : Modest b) (c : Carried (lowers_states b) d) where
  pub few_units : units_of d ≤ 600000000
  few_units = omega (arith, c.few_units, only_le (lowers_fit b) (b.units / 3), modest.units)

  pub few_lowers : all_lowers d ≤ 600000000
  few_lowers = omega (arith, few_units, sum_below (run_count d) (λ k. (run d k).lower) (λ k. (run d k).upper) (λ k w. (c.admissible.lawful.each_run k w).ordered))

  pub first_room : (point_count d + 2 ≤ 128) × (run_count d + 2 * point_count d + 1 ≤ 1024)
  first_room =
      let e = lowers_first_carried b d modest c in
      (omega (arith, e.admissible.few_points, point_count_lem d), omega (arith, e.admissible.few_runs, run_count_lem d))

  pub second_room : (p : Plan) → Feasible (lowers_first d) p → 2 * run_count d ≤ 1024
  second_room p ok = omega (arith, (lowers_second_carried b d modest c p ok).admissible.few_runs, run_count₂ d p)

-- the two cases of the answer
pub planned : (d : Network) (r : Record) → shows_shortage d (answer_in r) ≡ false → answer_in r ≡ Planned (plan_in r) r.total (vec_items r.labels)
planned d r h = by r.verdict refl
  where
    by : (v : Verdict) → r.verdict ≡ v → answer_in r ≡ Planned (plan_in r) r.total (vec_items r.labels)
    by PlanVerdict e = answer_plan r e
    by ShortageVerdict e = absurd (true≢false (sym (ap (shows_shortage d) (answer_short r e)) ∙ h))

pub above_short : (d : Network) (a : Answer) (again : Network → Answer) → shows_shortage d a ≡ true → shortage_shown d a ≡ lowers_above d a again
above_short d (Planned p t ls) again h = sym (cond-true (ltb t (all_lowers d)) _ _ h)
above_short d (Short ls) again h = refl

pub above_raised : (d : Network) (p : Plan) (t : ℕ) (ls : List Label) (again : Network → Answer) → shows_shortage d (Planned p t ls) ≡ false
    → raised_answer d p (again (lowers_second d p)) ≡ lowers_above d (Planned p t ls) again
above_raised d p t ls again h = sym (cond-false (ltb t (all_lowers d)) _ _ h)
