use Rattle.std.proofs.Common.{arith}
use Rattle.rig_drawing.proofs.Bounding.{point_set_held, limit_held}
use Rattle.rig_drawing.proofs.bounded.RigDrawing.mark.Goals as goal

pub invariant_of-self : goal.invariant_of-self
invariant_of-self c =
    let was = c.args.self.now.bounds in
    record { bounds = point_set_held _ _ was _ _ (limit_held _ _ was _ _ (omega (arith, c.in_ok-i.ensures.within)) c.index_mut.ensures.value); point_room = c.args.self.now.point_room; run_room = c.args.self.now.run_room }
