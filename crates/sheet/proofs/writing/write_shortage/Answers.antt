use Rattle.std.proofs.Common.{refl, ap, ◌∙◌, arith}
use Rattle.drawing.specs.Labels.{worth}
use Rattle.drawing.specs.Records.{network}
use Rattle.sheet.specs.Columns.{placed}
use Rattle.sheet.specs.Sheets.{worth_line, point_lines, sheet_text}
use Rattle.sheet.proofs.Assembling.{two_texts, all_points}
use Rattle.sheet.proofs.Fitting.{rig_bounded, small_worth}
use Rattle.sheet.proofs.Lengths.{length_figure}
use Rattle.sheet.proofs.Passing.{passed_on}
use Rattle.sheet.proofs.writing.write_shortage.Goals as goal

pub returns : goal.returns
unfolding sheet_text
returns c =
    let d = network c.args.rig.now.drawing in
    let ls = c.args.labels.now in
    let xs = c.args.out.now in
    let small = small_worth d (rig_bounded c.args.rig.now) ls in
    two_texts xs c.write_worth.new.out c.write_points.new.out (worth_line (worth d ls)) (point_lines d ls) 10
    (length_figure 104 (worth d ls) small) (omega arith)
    (c.write_worth.ensures ∙ ap (λ z. placed xs 0 (worth_line z)) (passed_on _ _ c.short_worth.ensures.value small))
    (all_points d ls ls c.write_worth.new.out _ 10 refl c.requires.right.labelled.label_count c.write_points.ensures)
