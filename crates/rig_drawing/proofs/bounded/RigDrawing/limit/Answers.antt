use Rattle.std.proofs.Common.{sym, ◌∙◌}
use Rattle.rig_drawing.proofs.Bounding.{point_set_held}
use Rattle.rig_drawing.proofs.bounded.RigDrawing.limit.Goals as goal

pub invariant_of-self : goal.invariant_of-self
invariant_of-self c = record { bounds = point_set_held _ _ c.args.self.now.bounds _ _ (sym c.limit_in_range.ensures ∙ c.if-not-limit_in_range.false); point_room = c.args.self.now.point_room; run_room = c.args.self.now.run_room }
