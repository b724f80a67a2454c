use Rattle.std.proofs.Common.{◌≡◌, suc, ap, ◌∙◌, sym, arith, rules}
use Rattle.drawing.specs.Counts.{only, nth}
use Rattle.drawing.specs.Drawings.{no_point}
use Rattle.filing.specs.Marks.{is_marked}
use Rattle.filing.proofs.Making.{made_more, marked_yes, marked_no}
use Rattle.filing.proofs.records.write_amounts.Goals as goal
use Rattle.filing.proofs.records.write_amounts.Goals.{then-eq, else-eq}

pub loop-point-preserved : goal.loop-point-preserved
loop-point-preserved c =
    let m = (nth c.args.points.now (suc c.loop-point.point-index) no_point).mark in
    let y : c.if-eq.push_reserved ≡ only (is_marked c.args.wanted m) c.args.total =
    elim c.if-eq.branch [
      | then-eq w ↦ w.push_reserved-is ∙ sym (ap (λ b. only b c.args.total) (marked_yes c.args.wanted m (search (rules, w.if-eq.true, c.eq.ensures))))
      | else-eq w ↦ w.push_reserved-is ∙ sym (ap (λ b. only b c.args.total) (marked_no c.args.wanted m (search (rules, w.if-eq.false, c.eq.ensures))))
    ] in
    (made_more _ c.loop-point.point-index _ _ _ c.loop-point.invariant.0 c.push_reserved.ensures.items y, omega arith, omega arith, omega arith)
