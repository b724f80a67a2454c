use Rattle.std.proofs.Common.{◌≡◌, suc, ◌+◌, length, get_or, pos, ap, ◌∙◌, arith, w32, SFits, rules}
use Rattle.std.proofs.lemmas.Int.{to_z-of_z}
use Rattle.drawing.specs.Drawings.{point_count, run_count}
use Rattle.drawing.specs.Plans.{forth, flow}
use Rattle.drawing.specs.Records.{network, plan_in}
use Rattle.reductions.proofs.LowersFirst.{run_count_lem}
use Rattle.lower_bounds.proofs.layer.reading.last_flow.Goals as goal

pub bounds-flows-len : goal.bounds-flows-len
bounds-flows-len c =
    let d = network c.args.drawing.now in
    omega (arith, run_count_lem d, c.requires.feasible.flow_count, ap length c.as_slice-flows.ensures.value, c.args.drawing.now.points.ok.0, c.args.drawing.now.runs.ok.0)

pub returns : goal.returns
returns c =
    let d = network c.args.drawing.now in
    let at = c.len.result + c.len-n.result + c.len-n.result in
    let f : SFits w32 (get_or c.as_slice-flows.result.now at (pos 0)) = search rules in
    let last : suc at ≡ run_count d + (point_count d + point_count d + 1) = omega (arith, c.len.ensures, c.len-n.ensures, c.args.drawing.now.points.ok.0, c.args.drawing.now.runs.ok.0) in
    simp to_z-of_z at c.forth.ensures ∙ ap (λ l. forth (get_or l at (pos 0))) c.as_slice-flows.ensures.value ∙ ap (λ k. forth (flow (plan_in c.args.first.now) k)) last
