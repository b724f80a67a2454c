use Rattle.std.proofs.Common.{sym, subst}
use Rattle.drawing.specs.Labels.{Shortage}
use Rattle.drawing.specs.Records.{network}
use Rattle.rig_drawing.proofs.Bounding.{decides_bounded}
use Rattle.ledger.proofs.Asking.{short_right}
use Rattle.rig.proofs.rig.Rig.worth.Goals as goal

pub short_worth-requires : goal.short_worth-requires
short_worth-requires c =
    let was = c.args.self.now in
    let d = network was.drawing.drawing in
    record {
      bounded = (decides_bounded d).0 was.drawing.bounds;
      right = subst (Shortage d) (sym c.as_slice.ensures.value) (short_right d was.answer was.standing c.in-Short.is was.sound);
    }
