use Rattle.std.proofs.Common.{arith}
use Rattle.rig_drawing.proofs.Bounding.{plain_held}
use Rattle.rig_drawing.proofs.bounded.making.assemble.Goals as goal

pub invariant_of-result : goal.invariant_of-result
invariant_of-result c =
    let points = c.in_ok-points.ensures in
    let runs = c.in_ok-runs.ensures in
    record { bounds = plain_held _ _ _ c.restore.ensures.items runs.items (omega arith) (omega arith); point_room = omega arith; run_room = runs.capacity }
