use Rattle.std.proofs.Common.{arith}
use Rattle.rig_drawing.proofs.Bounding.{plain_held}
use Rattle.rig_drawing.proofs.bounded.RigDrawing.restart.Goals as goal

pub invariant_of-self : goal.invariant_of-self
invariant_of-self c = record { bounds = plain_held _ _ _ c.restore.ensures.items c.clear.ensures.items (omega (arith, c.in_ok-check_count.ensures.within)) (omega (arith, c.in_ok-check_count.ensures.within)); point_room = omega arith; run_room = omega arith }
