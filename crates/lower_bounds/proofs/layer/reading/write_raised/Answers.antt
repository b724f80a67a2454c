use Rattle.std.proofs.Common.{◌≡◌, ◌+◌, ◌≤◌, map, length, vec_items, vec_capacity, sym, ap, ◌∙◌, subst, arith, rules}
use Rattle.std.specs.List.{range_with_len}
use Rattle.drawing.specs.Answers.{Planned, Right, Short}
use Rattle.drawing.specs.Counts.{only}
use Rattle.drawing.specs.Drawings.{point, is_rack, is_bar}
use Rattle.drawing.specs.Records.{network, plan_in, filed}
use Rattle.reductions.specs.LowerBounds.{lowers_second, last_flow, raised_plan, raised_answer}
use Rattle.reductions.proofs.LowersFirst.{run_count_lem}
use Rattle.reductions.proofs.LowersSecond.{run_count₂}
use Rattle.scratch.proofs.Filing.{copied, plan_filed, answer_plan, answer_short, labels_long}
use Rattle.lower_bounds.specs.Parts.{points_only}
use Rattle.lower_bounds.proofs.Reading.{worth_bounded, raised_fits}
use Rattle.lower_bounds.proofs.layer.reading.write_raised.Goals as goal

pub overflow_add-total : goal.overflow_add-total
overflow_add-total c =
    let d = network c.args.drawing.now in
    let p = plan_in c.args.first.now in
    let r = c.args.second.now in
    let h = subst (λ a. Right d (raised_answer d p a)) (answer_plan r c.in-Plan.is) c.requires.right in
    let most : c.last_flow.result + r.total ≤ 600000000 = omega (arith, c.last_flow.ensures, worth_bounded d (vec_items r.labels) (last_flow d p + r.total) h.3, c.requires.given) in
    search rules

pub read_flows-requires : goal.read_flows-requires
read_flows-requires c =
    let d = network c.args.drawing.now in
    let q = c.args.first.now in
    let p = plan_in q in
    let r = c.args.second.now in
    let s = answer_plan r c.in-Plan.is in
    let h = subst (λ a. Right d (raised_answer d p a)) s c.requires.right in
    let b = subst (Right (lowers_second d p)) s c.requires.below in
    let m = c.args.drawing.now.runs.ok.0 in
    record {
      room = omega (arith, m, c.requires.admissible.few_runs, c.args.out.now.room);
      long = (omega (arith, m, q.flows.ok.0, run_count_lem d, c.requires.feasible.flow_count), omega (arith, m, r.flows.ok.0, run_count₂ d p, b.0.flow_count));
      fits = raised_fits d p (plan_in r) (last_flow d p + r.total) 600000000 c.requires.given.0 h.0 c.requires.given.1;
    }

pub returns-in-Plan : goal.returns-in-Plan
returns-in-Plan c =
    let d = network c.args.drawing.now in
    let p = plan_in c.args.first.now in
    let r = c.args.second.now in
    let o = c.args.out.now in
    let ls = vec_items r.labels in
    let t = c.last_flow.result + r.total in
    let e : t ≡ last_flow d p + r.total = ap (λ x. x + r.total) c.last_flow.ensures in
    let long = labels_long (lowers_second d p) r c.requires.below in
    let points = c.deref-in-Plan.ensures.value in
    plan_filed _ _ _ _ _ _ t _ ls
    c.read_flows.ensures.items
    (c.read_ends.ensures.supplied ∙ ap (λ l. map (λ v. only (is_rack (point (points_only l) v).mark) t) (range_with_len 1 (length l))) points)
    (c.read_ends.ensures.delivered ∙ ap (λ l. map (λ v. only (is_bar (point (points_only l) v).mark) t) (range_with_len 1 (length l))) points)
    (copied _ _ ls (vec_capacity o.labels) c.copy_into.ensures.items c.deref.ensures.value (omega (arith, long, c.requires.admissible.few_points, o.room)))
    ∙ ap (λ x. filed (Planned (raised_plan d p (plan_in r) x) x ls)) e
    ∙ ap (λ a. filed (raised_answer d p a)) (sym (answer_plan r c.in-Plan.is))

pub returns-in-Shortage : goal.returns-in-Shortage
returns-in-Shortage c =
    let d = network c.args.drawing.now in
    let p = plan_in c.args.first.now in
    let r = c.args.second.now in
    let o = c.args.out.now in
    let long = labels_long (lowers_second d p) r c.requires.below in
    let labels = copied _ _ (vec_items r.labels) (vec_capacity o.labels) c.copy_into.ensures.items c.deref.ensures.value (omega (arith, long, c.requires.admissible.few_points, o.room)) in
    c.file_shortage.ensures ∙ ap (λ l. filed (Short l)) labels ∙ ap (λ a. filed (raised_answer d p a)) (sym (answer_short r c.in-Shortage.is))
