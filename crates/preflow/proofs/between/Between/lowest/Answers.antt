use Rattle.std.proofs.Common.{length, sym, ap, ◌∙◌, arith}
use Rattle.residual.specs.Leavers.{leavers_left}
use Rattle.residual.proofs.Leavers.{leavers_within}
use Rattle.preflow.proofs.Steps.{lows_fold}
use Rattle.preflow.proofs.between.Between.lowest.Goals as goal

pub loop-a-init : goal.loop-a-init
loop-a-init c =
    let hs = c.args.self.net.head.now in
    let items = ap leavers_left c.into_iter-a-iterator.ensures.into_iter_gives ∙ c.leaving-a-items.ensures in
    rw items (tt, tt, leavers_within hs c.args.v (length hs) (length hs) (omega arith), omega arith, sym (lows_fold _ _ _ _ _ _))
