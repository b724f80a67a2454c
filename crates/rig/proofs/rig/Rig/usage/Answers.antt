use Rattle.std.proofs.Common.{◌≡◌, ◌-◌, pos, vec_items, ap, ◌∙◌, arith, w32, SFits, to_z, of_z, rules}
use Rattle.std.proofs.lemmas.Int.{to_z-of_z}
use Rattle.drawing.specs.Drawings.{run_count, no_run}
use Rattle.drawing.specs.Records.{network}
use Rattle.ledger.proofs.Asking.{read_nth, within, planned_flows, planned_use}
use Rattle.rig.proofs.rig.Rig.usage.Goals as goal

pub index-flow-requires : goal.index-flow-requires
index-flow-requires c =
    let was = c.args.self.now in
    omega (arith, c.in_ok-i.ensures.within, planned_flows (network was.drawing.drawing) was.answer was.standing c.in-Planned.is was.sound)

pub returns-in-Planned : goal.returns-in-Planned
returns-in-Planned c =
    let was = c.args.self.now in
    let d = network was.drawing.drawing in
    let (next, last) = c.in_ok-i.ensures.within in
    let long = planned_flows d was.answer was.standing c.in-Planned.is was.sound in
    let f : SFits w32 c.index-flow.result.now = search rules in
    let same : to_z w32 (of_z w32 c.index-flow.result.now) ≡ c.index-flow.result.now = to_z-of_z _ _ f in
    planned_use d was.answer was.standing c.args.k _ c.saturating_sub.result c.index.result.now c.in-Planned.is (within (run_count d) _ c.args.k next last)
    (same ∙ read_nth (vec_items was.answer.flows) _ c.args.k _ (pos 0) next (omega (arith, next, last, long)) c.index-flow.ensures)
    (read_nth (vec_items was.drawing.drawing.runs) _ c.args.k _ no_run next (omega (arith, next, last)) c.index.ensures)
    (c.saturating_sub.ensures ∙ ap (λ n. c.index.result.now.upper - n) c.unsigned_abs.ensures.value)
