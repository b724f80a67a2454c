use Rattle.std.proofs.Common.{◌≡◌, length, take, pos, vec_items, vec_capacity, sym, ap, ◌∙◌, subst, arith}
use Rattle.drawing.specs.Answers.{Right}
use Rattle.drawing.specs.Records.{network, plan_in, filed}
use Rattle.reductions.specs.Terminals.{terminals_below, terminals_above, terminals_labels}
use Rattle.reductions.proofs.Steps.{front_made}
use Rattle.reductions.proofs.Terminals.{point_count_lem, flows_below}
use Rattle.reductions.proofs.Carrying.{terminals_carried}
use Rattle.scratch.proofs.Filing.{copied, plan_filed, answer_plan, labels_long}
use Rattle.terminals.proofs.reduction.WithoutTerminalsReduction.write_above.Goals as goal

pub read_labels-requires : goal.read_labels-requires
read_labels-requires c =
    let d = network c.args.drawing.now in
    let r = c.args.found.now in
    let long = labels_long (terminals_below d) r c.requires.right in
    record {
      long = omega (arith, ap length c.deref.ensures.value, long, point_count_lem d, c.args.drawing.now.points.ok.0);
      room = omega (arith, c.requires.taken.2.admissible.few_points, c.args.drawing.now.points.ok.0, c.args.out.now.room);
    }

pub returns-in-Plan : goal.returns-in-Plan
returns-in-Plan c =
    let d = network c.args.drawing.now in
    let (b, m, k) = c.requires.taken in
    let below = (terminals_carried b d m k).admissible in
    let r = c.args.found.now in
    let s = answer_plan r c.in-Plan.is in
    let h = subst (Right (terminals_below d)) s c.requires.right in
    let o = c.args.out.now in
    let fs = vec_items r.flows in
    let all = copied _ _ fs (vec_capacity o.flows) c.copy_into.ensures.items c.deref-in-Plan.ensures.value (omega (arith, h.0.flow_count, below.few_runs, o.room)) in
    let m : c.len.result ≡ length d.runs = omega (arith, c.len.ensures, c.args.drawing.now.runs.ok.0) in
    let first = c.truncate.ensures.items ∙ ap (take _) all ∙ ap (λ n. take n fs) m ∙ front_made fs (pos 0) (length d.runs) (flows_below d (plan_in r) h.0) in
    plan_filed _ _ _ _ _ _ r.total _ _
    first
    c.read_ends.ensures.supplied
    c.read_ends.ensures.delivered
    (c.read_labels.ensures.items ∙ ap (terminals_labels d) c.deref.ensures.value)
    ∙ ap (λ a. filed (terminals_above d a)) (sym s)
