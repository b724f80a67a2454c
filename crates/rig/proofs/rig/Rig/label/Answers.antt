use Rattle.std.proofs.Common.{vec_items, arith}
use Rattle.drawing.specs.declared.Label.TheVariants.{Near}
use Rattle.drawing.specs.Drawings.{point_count}
use Rattle.drawing.specs.Records.{network}
use Rattle.ledger.proofs.Asking.{read_nth, within, solved_labels, solved_label}
use Rattle.rig.proofs.rig.Rig.label.Goals as goal

pub index-requires : goal.index-requires
index-requires c =
    let was = c.args.self.now in
    omega (arith, c.in_ok-i.ensures.within, solved_labels (network was.drawing.drawing) was.answer was.standing c.in-Planned.is was.sound)

pub returns-in-Planned : goal.returns-in-Planned
returns-in-Planned c =
    let was = c.args.self.now in
    let d = network was.drawing.drawing in
    let (next, last) = c.in_ok-i.ensures.within in
    let long = solved_labels d was.answer was.standing c.in-Planned.is was.sound in
    solved_label d was.answer was.standing c.args.v _ c.in-Planned.is (within (point_count d) _ c.args.v next last)
    (read_nth (vec_items was.answer.labels) _ c.args.v _ Near next (omega (arith, next, last, long)) c.index.ensures)
