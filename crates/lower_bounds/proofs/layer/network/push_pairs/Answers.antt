use Rattle.std.proofs.Common.{◌≡◌, ◌+◌, vec_items, ap, ◌∙◌, arith}
use Rattle.drawing.specs.Drawings.{point_count}
use Rattle.drawing.specs.Records.{network}
use Rattle.reductions.specs.LowerBounds.{lowers_in, lowers_out, supply_lead, demand_lead}
use Rattle.lower_bounds.specs.Parts.{runs_only}
use Rattle.lower_bounds.proofs.Writing.{supply_lead_lem, demand_lead_lem, pair_pushed}
use Rattle.lower_bounds.proofs.layer.network.push_pairs.Goals as goal

pub loop-i-preserved : goal.loop-i-preserved
loop-i-preserved c =
    let d = network c.args.drawing.now in
    let i = c.loop-i.i in
    let value = c.as_slice-runs.ensures.value in
    let n : c.len-n.result ≡ point_count d = omega (arith, c.len-n.ensures, c.args.drawing.now.points.ok.0) in (
      pair_pushed (vec_items c.loop-i.out) _ _ (vec_items c.args.out.now) (supply_lead d) (demand_lead d) i _ _
          c.push_reserved.ensures.items c.push_reserved-in-loop-i.ensures.items c.loop-i.invariant.0
          (c.lead.ensures ∙ supply_lead_lem d i _ _ n (c.lowers_entering-entering.ensures ∙ ap (λ l. lowers_in (runs_only l) (i + 1)) value))
          (c.lead-in-loop-i.ensures ∙ demand_lead_lem d i _ _ n (c.lowers_leaving-leaving.ensures ∙ ap (λ l. lowers_out (runs_only l) (i + 1)) value)),
      omega arith,
      omega arith,
    )
