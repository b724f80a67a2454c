use Rattle.std.proofs.Common.{◌++◌, take, vec_items, vec_capacity, sym, ap, ◌∙◌}
use Rattle.std.proofs.iter.SoFar.{exit_by}
use Rattle.scratch.proofs.copying.push_within.Goals as goal

pub returns-clause-runs : goal.returns-clause-runs
returns-clause-runs g c =
    let started = c.into_iter-item-iterator.ensures.into_iter_gives in
    let all = exit_by g.I.Iterator.next_gives (c.loop-item.yielded, c.loop-item.yielded_by) _ c.in-None.ensures.steps in
    let out = c.args.out.now in
    (all.0, all.1 ∙ started, all.2, c.loop-item.invariant.0 ∙ ap (λ xs. take (vec_capacity out) (vec_items out ++ xs)) (sym all.3.0))
