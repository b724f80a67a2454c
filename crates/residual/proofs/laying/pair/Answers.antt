use Rattle.std.proofs.Common.{◌≡◌, ◌+◌, ◌*◌, ◌<◌, length, get_or, refl, arith}
use Rattle.drawing.specs.Drawings.{no_run}
use Rattle.residual.proofs.Arcs.{laid_more, paired_is}
use Rattle.residual.proofs.laying.pair.Goals as goal

pub loop-k-preserved : goal.loop-k-preserved
loop-k-preserved c =
    let runs = c.args.runs.now in
    let i = c.loop-k.k in
    let a : 2 * i + 1 < length c.loop-k.head = omega arith in
    let b : 2 * i + 1 < length c.loop-k.left = omega arith in (
      laid_more (λ k. (get_or runs k no_run).head) (λ k. (get_or runs k no_run).tail) i _ _ c.loop-k.head a refl refl c.loop-k.invariant.0,
      laid_more (λ k. (get_or runs k no_run).upper) (λ k. 0) i _ _ c.loop-k.left b refl refl c.loop-k.invariant.1,
    )

pub returns : goal.returns
returns c =
    let runs = c.args.runs.now in
    let e : c.loop-k.k ≡ length runs = omega arith in
    let a : length c.loop-k.head ≡ 2 * length runs = omega arith in
    let b : length c.loop-k.left ≡ 2 * length runs = omega arith in
    record {
      heads = paired_is (λ k. (get_or runs k no_run).head) (λ k. (get_or runs k no_run).tail) (length runs) c.loop-k.head a (rw e at c.loop-k.invariant.0);
      room = paired_is (λ k. (get_or runs k no_run).upper) (λ k. 0) (length runs) c.loop-k.left b (rw e at c.loop-k.invariant.1);
    }
