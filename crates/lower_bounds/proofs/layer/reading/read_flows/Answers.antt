use Rattle.std.proofs.Common.{◌≡◌, suc, ◌+◌, ◌<◌, length, get_or, pos, ◌-ℤ◌, vec_items, ap, ◌∙◌, ap₂, arith, w32, SFits, rules}
use Rattle.std.proofs.lemmas.Int.{to_z-of_z}
use Rattle.drawing.specs.Drawings.{no_run, run_count}
use Rattle.drawing.specs.Plans.{flow, forth}
use Rattle.drawing.specs.Records.{network, plan_in}
use Rattle.reductions.specs.LowerBounds.{found as found_at, raised_flow}
use Rattle.reductions.proofs.Steps.{made_push}
use Rattle.lower_bounds.proofs.Reading.{beyond, sum_fits}
use Rattle.lower_bounds.proofs.layer.reading.read_flows.Goals as goal

pub raised-requires : goal.raised-requires
raised-requires c =
    let d = network c.args.drawing.now in
    let p = plan_in c.args.first.now in
    let p₂ = plan_in c.args.second.now in
    let k = c.loop-k.k in
    let runs = c.as_slice-runs.ensures.value in
    let lt : k < run_count d = omega (arith, ap length runs) in
    let lower = ap (λ l. (get_or l k no_run).lower) runs in
    let first = ap (λ l. forth (get_or l k (pos 0))) c.as_slice-found.ensures.value in
    let up = ap (λ l. forth (get_or l k (pos 0))) c.as_slice-flows.ensures.value in
    let down = ap (λ l. forth (get_or l (length c.as_slice-runs.result.now + k) (pos 0))) c.as_slice-flows.ensures.value
    ∙ ap forth (beyond p₂.flows _ (run_count d) k (pos 0) (ap length runs)) in
    let f : SFits w32 (get_or c.as_slice-found.result.now k (pos 0)) = search rules in
    let g : SFits w32 (get_or c.as_slice-flows.result.now k (pos 0)) = search rules in
    let h : SFits w32 (get_or c.as_slice-flows.result.now (length c.as_slice-runs.result.now + k) (pos 0)) = search rules in
    let (least, most) = c.requires.fits (suc k) (omega arith) in
    let (enough, few) = sum_fits (found_at d p (suc k) + forth (flow p₂ (suc k))) (forth (flow p₂ (run_count d + suc k))) 600000000 least most in
    simp to_z-of_z record { least = omega (arith, enough, lower, first, up, down); most = omega (arith, few, lower, first, up, down) }

pub loop-k-preserved : goal.loop-k-preserved
loop-k-preserved c =
    let d = network c.args.drawing.now in
    let p = plan_in c.args.first.now in
    let p₂ = plan_in c.args.second.now in
    let k = c.loop-k.k in
    let runs = c.as_slice-runs.ensures.value in
    let lower = ap (λ l. (get_or l k no_run).lower) runs in
    let first = ap (λ l. forth (get_or l k (pos 0))) c.as_slice-found.ensures.value in
    let up = ap (λ l. forth (get_or l k (pos 0))) c.as_slice-flows.ensures.value in
    let down = ap (λ l. forth (get_or l (length c.as_slice-runs.result.now + k) (pos 0))) c.as_slice-flows.ensures.value
    ∙ ap forth (beyond p₂.flows _ (run_count d) k (pos 0) (ap length runs)) in
    let f : SFits w32 (get_or c.as_slice-found.result.now k (pos 0)) = search rules in
    let g : SFits w32 (get_or c.as_slice-flows.result.now k (pos 0)) = search rules in
    let h : SFits w32 (get_or c.as_slice-flows.result.now (length c.as_slice-runs.result.now + k) (pos 0)) = search rules in
    let e : SFits w32 c.raised.result = search rules in
    let value : c.raised.result ≡ raised_flow d p p₂ (suc k) =
    simp to_z-of_z at c.raised.ensures ∙ ap₂ (λ a b. pos a -ℤ pos b) (ap₂ ◌+◌ (ap₂ ◌+◌ lower first) up) down in (
      made_push (vec_items c.loop-k.out) _ (raised_flow d p p₂) k _ (simp to_z-of_z at c.push_reserved.ensures.items) c.loop-k.invariant.0 value,
      omega arith,
      omega arith,
    )
