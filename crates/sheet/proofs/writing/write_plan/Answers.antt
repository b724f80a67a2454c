use Rattle.std.proofs.Common.{pos, vec_items, arith}
use Rattle.drawing.specs.Records.{network, plan_in}
use Rattle.sheet.specs.Sheets.{total_line, run_lines, point_lines, sheet_text}
use Rattle.sheet.proofs.Assembling.{three_texts, all_runs, all_points, length_run_lines}
use Rattle.sheet.proofs.Fitting.{rig_bounded, small_total}
use Rattle.sheet.proofs.Lengths.{length_figure}
use Rattle.sheet.proofs.writing.write_plan.Goals as goal

pub write_total-requires : goal.write_total-requires
write_total-requires c = record {
  room = omega arith;
  small = small_total (network c.args.rig.now.drawing) (rig_bounded c.args.rig.now) c.args.answer.now.total (vec_items c.args.answer.now.labels) c.requires.right.3;
}

pub returns : goal.returns
unfolding sheet_text
returns c =
    let d = network c.args.rig.now.drawing in
    let bounded = rig_bounded c.args.rig.now in
    let p = plan_in c.args.answer.now in
    let t = c.args.answer.now.total in
    let ls = vec_items c.args.answer.now.labels in
    let xs = c.args.out.now in
    let small = small_total d bounded t ls c.requires.right.3 in
    three_texts xs c.write_total.new.out c.write_runs.new.out c.write_points.new.out (total_line t) (run_lines d p) (point_lines d ls) 10 _
    (length_figure 115 (pos t) small) (omega (arith, length_run_lines d bounded p c.requires.right.0)) (omega arith)
    c.write_total.ensures
    (all_runs d p _ _ c.write_total.new.out _ 10 c.as_slice.ensures.value c.as_slice-2.ensures.value c.write_runs.ensures)
    (all_points d ls _ c.write_runs.new.out _ _ c.as_slice-3.ensures.value c.requires.right.2.labelled.label_count c.write_points.ensures)
