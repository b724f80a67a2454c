use Rattle.std.proofs.Common.{◌≡◌, true, vec_items, sym, ◌∙◌, subst, arith}
use Rattle.rig_drawing.specs.Bounds.{is_bounded}
use Rattle.rig_drawing.proofs.Bounding.{run_more_held}
use Rattle.rig_drawing.proofs.bounded.RigDrawing.lay.Goals as goal

pub invariant_of-self : goal.invariant_of-self
invariant_of-self c =
    let laid = run_more_held _ _ c.args.self.now.bounds c.args.run (omega (arith, c.in_ok-point_index.ensures.within)) (omega (arith, c.in_ok-point_index-2.ensures.within)) (omega arith) (sym c.in_range.ensures ∙ c.if-not-in_range.false) (omega arith) in record {
      bounds = subst (λ rs. is_bounded (record { points = vec_items c.args.self.now.drawing.points; runs = rs }) ≡ true) (sym c.push_reserved.ensures.items) laid;
      point_room = c.args.self.now.point_room;
      run_room = omega (arith, c.args.self.now.run_room);
    }
