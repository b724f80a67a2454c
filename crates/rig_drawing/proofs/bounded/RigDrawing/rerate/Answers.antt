use Rattle.std.proofs.Common.{vec_items, sym, ap, ◌∙◌, arith}
use Rattle.rig_drawing.specs.Changes.{is_range}
use Rattle.rig_drawing.proofs.Bounding.{run_set_held, same_place}
use Rattle.rig_drawing.proofs.bounded.RigDrawing.rerate.Goals as goal

pub invariant_of-self : goal.invariant_of-self
invariant_of-self c =
    let same = same_place (vec_items c.args.self.now.drawing.runs) c.in_ok-i.i _ _ (omega (arith, c.in_ok-i.ensures.within)) c.in-Some.ensures.value c.index.ensures in
    let fits = ap (λ r. is_range r.kind c.args.lower c.args.upper) same ∙ sym c.in_range.ensures ∙ c.if-not-in_range.false in
    record { bounds = run_set_held _ _ c.args.self.now.bounds _ _ _ _ (omega (arith, c.in_ok-i.ensures.within)) c.in-Some.ensures.value fits; point_room = c.args.self.now.point_room; run_room = c.args.self.now.run_room }
