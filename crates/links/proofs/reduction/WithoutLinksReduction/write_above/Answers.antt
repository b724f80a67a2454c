use Rattle.std.proofs.Common.{vec_items, vec_capacity, sym, ap, ◌∙◌, subst, arith}
use Rattle.drawing.specs.Answers.{Short, Right}
use Rattle.drawing.specs.Records.{network, filed}
use Rattle.reductions.specs.Links.{links_below, links_above}
use Rattle.scratch.proofs.Filing.{copied, plan_filed, answer_plan, answer_short}
use Rattle.links.proofs.reduction.WithoutLinksReduction.write_above.Goals as goal

pub returns-in-Plan : goal.returns-in-Plan
returns-in-Plan c =
    let d = network c.args.drawing.now in
    let r = c.args.found.now in
    let s = answer_plan r c.in-Plan.is in
    let h = subst (Right (links_below d)) s c.requires.right in
    let o = c.args.out.now in
    plan_filed _ _ _ _ _ _ r.total _ _
    c.join_flows.ensures.items
    (copied _ _ (vec_items r.supplies) (vec_capacity o.supplies) c.copy_into-in-Plan.ensures.items c.deref-in-Plan.ensures.value (omega (arith, h.0.supply_count, c.requires.taken.2.admissible.few_points, o.room)))
    (copied _ _ (vec_items r.deliveries) (vec_capacity o.deliveries) c.copy_into-in-Plan-2.ensures.items c.deref-in-Plan-2.ensures.value (omega (arith, h.0.delivery_count, c.requires.taken.2.admissible.few_points, o.room)))
    (copied _ _ (vec_items r.labels) (vec_capacity o.labels) c.copy_into.ensures.items c.deref.ensures.value (omega (arith, h.2.labelled.label_count, c.requires.taken.2.admissible.few_points, o.room)))
    ∙ ap (λ a. filed (links_above d a)) (sym s)

pub returns-in-Shortage : goal.returns-in-Shortage
returns-in-Shortage c =
    let d = network c.args.drawing.now in
    let r = c.args.found.now in
    let s = answer_short r c.in-Shortage.is in
    let h = subst (Right (links_below d)) s c.requires.right in
    let o = c.args.out.now in
    let labels = copied _ _ (vec_items r.labels) (vec_capacity o.labels) c.copy_into.ensures.items c.deref.ensures.value (omega (arith, h.labelled.label_count, c.requires.taken.2.admissible.few_points, o.room)) in
    c.file_shortage.ensures ∙ ap (λ l. filed (Short l)) labels ∙ ap (λ a. filed (links_above d a)) (sym s)
