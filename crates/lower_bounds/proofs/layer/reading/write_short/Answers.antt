use Rattle.std.proofs.Common.{length, vec_items, vec_capacity, sym, ap, ◌∙◌, ap₂, arith, rules}
use Rattle.drawing.specs.Answers.{Short}
use Rattle.drawing.specs.Records.{network, contents, filed}
use Rattle.reductions.specs.LowerBounds.{lowers_first, short_labels}
use Rattle.reductions.proofs.Terminals.{point_count_lem}
use Rattle.scratch.proofs.Filing.{copied, answer_plan, answer_short, labels_long}
use Rattle.lower_bounds.specs.Parts.{points_only}
use Rattle.lower_bounds.specs.Verdicts.{shortage_shown}
use Rattle.lower_bounds.proofs.Reading.{short_relabelled}
use Rattle.lower_bounds.proofs.layer.reading.write_short.Goals as goal

pub read_labels-requires : goal.read_labels-requires
read_labels-requires c =
    let d = network c.args.drawing.now in
    let long = labels_long (lowers_first d) c.args.first.now c.requires.right in
    let points = ap length c.deref.ensures.value in
    let labels = ap length c.deref-in-Plan.ensures.value in
    record {
      rack = search rules;
      bar = search rules;
      long = omega (arith, long, points, labels, point_count_lem d);
      room = omega (arith, points, point_count_lem d, c.requires.below.few_points, c.file_shortage.new.out.room);
    }

pub returns-in-Plan : goal.returns-in-Plan
returns-in-Plan c =
    let d = network c.args.drawing.now in
    let s = answer_plan c.args.first.now c.in-Plan.is in
    let labels = c.read_labels.ensures.items ∙ ap₂ (λ ps ls. short_labels (points_only ps) ls) c.deref.ensures.value c.deref-in-Plan.ensures.value in
    short_relabelled (contents c.file_shortage.new.out) _ _ c.file_shortage.ensures ∙ ap (λ l. filed (Short l)) labels ∙ ap (λ a. filed (shortage_shown d a)) (sym s)

pub returns-in-Shortage : goal.returns-in-Shortage
returns-in-Shortage c =
    let d = network c.args.drawing.now in
    let r = c.args.first.now in
    let s = answer_short r c.in-Shortage.is in
    let long = labels_long (lowers_first d) r c.requires.right in
    let o = c.file_shortage.new.out in
    let labels = copied _ _ (vec_items r.labels) (vec_capacity o.labels) c.copy_into.ensures.items c.deref-in-Shortage.ensures.value (omega (arith, long, c.requires.below.few_points, o.room)) in
    short_relabelled (contents o) _ _ c.file_shortage.ensures ∙ ap (λ l. filed (Short l)) labels ∙ ap (λ a. filed (shortage_shown d a)) (sym s)
