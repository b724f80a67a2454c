use Rattle.std.proofs.Common.{suc, ◌<◌, map, length, get_or, vec_items, sym, ap, ◌∙◌, subst, arith, take_all}
use Rattle.drawing.specs.declared.Run.{Run}
use Rattle.drawing.specs.Counts.{Within}
use Rattle.drawing.specs.Drawings.{point_count, run_count, no_run}
use Rattle.drawing.specs.Records.{network}
use Rattle.reductions.specs.Limits.{moved}
use Rattle.reductions.proofs.Steps.{mapped_more}
use Rattle.limits.proofs.network.push_runs.Goals as goal

pub exit-tail-requires : goal.exit-tail-requires
exit-tail-requires c =
    let d = network c.args.drawing.now in
    let i = c.loop-r.r-index in
    let value = c.as_slice-runs.ensures.value in
    let lt : i < run_count d = omega (arith, ap length value) in
    record {
      within = subst (λ (l : _). Within (point_count d) (get_or l i no_run).tail) (sym value) (c.requires.lawful.each_run (suc i) (omega arith)).tail_in;
      small = c.requires.small;
    }

pub loop-r-preserved : goal.loop-r-preserved
loop-r-preserved c =
    let d = network c.args.drawing.now in
    let runs = c.as_slice-runs.result.now in
    let i = c.loop-r.r-index in
    let r = get_or runs i no_run in (
      mapped_more (moved d) runs i no_run (vec_items c.loop-r.out) _ _ c.loop-r-test.true c.push_reserved.ensures.items c.loop-r.invariant.0
          (ap (λ t. let x : Run = record { kind = r.kind; tail = t; head = r.head; lower = r.lower; upper = r.upper } in x) c.exit-tail.ensures),
      omega arith,
      omega arith,
    )

pub returns : goal.returns
returns c =
    let d = network c.args.drawing.now in
    let value = c.as_slice-runs.ensures.value in
    record {
      items = c.loop-r.invariant.0 ∙ ap (map (moved d)) (take_all _ _ c.loop-r-test.false ∙ value);
      len = omega (arith, ap length value, c.args.drawing.now.runs.ok.0);
      capacity = omega arith;
    }
