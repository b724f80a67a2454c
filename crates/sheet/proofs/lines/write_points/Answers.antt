use Rattle.std.proofs.Common.{suc, ◌+◌, ◌*◌, length, ap, ◌∙◌, add-one, arith}
use Rattle.drawing.specs.Labels.{label}
use Rattle.sheet.specs.Columns.{placed}
use Rattle.sheet.specs.Sheets.{point_line}
use Rattle.sheet.proofs.Lengths.{length_point_line}
use Rattle.sheet.proofs.Placing.{placed_none, text_more}
use Rattle.sheet.proofs.lines.write_points.Goals as goal

pub loop-i-init : goal.loop-i-init
loop-i-init c = placed_none c.args.out.now c.args.a

pub loop-i-preserved : goal.loop-i-preserved
loop-i-preserved c =
    let i = c.loop-i.i in
    let ls = c.args.labels.now in
    text_more 12 (length ls) (λ v. point_line v (label ls v)) (λ v w. length_point_line v (label ls v) (omega arith))
    c.args.out.now c.loop-i.out _ c.args.a i c.loop-i-test.true (omega arith) c.loop-i.invariant
    (c.write_point.ensures ∙ ap (λ v. placed c.loop-i.out (c.args.a + 12 * i) (point_line v (label ls (suc i)))) (add-one i))
