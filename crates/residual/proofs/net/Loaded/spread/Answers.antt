use Rattle.std.proofs.Common.{◌≡◌, ◌+◌, length, fold, sym, ap, ◌∙◌, arith}
use Rattle.residual.specs.Leavers.{leavers_left}
use Rattle.residual.specs.Search.{Marks, touch}
use Rattle.residual.proofs.Chains.{touch_yes, touch_shut, touch_had}
use Rattle.residual.proofs.Leavers.{leavers_within, spreads_fold}
use Rattle.residual.proofs.net.Loaded.spread.Goals as goal
use Rattle.residual.proofs.net.Loaded.spread.Goals.{else-self-a-gt0-via-then-self-a-gt0+else-level-w-eq0, else-self-a-gt0-via-else-self-a-gt0}

pub loop-a-init : goal.loop-a-init
loop-a-init c =
    let hs = c.args.self.net.head.now in
    let items = ap leavers_left c.into_iter-a-iterator.ensures.into_iter_gives ∙ c.leaving-a-items.ensures in
    rw items (tt, tt, leavers_within hs c.args.v (length hs) (length hs) (omega arith), sym (spreads_fold _ _ _ _ _ _))

pub loop-a-preserved-then-level-w-eq0 : goal.loop-a-preserved-then-level-w-eq0
loop-a-preserved-then-level-w-eq0 c =
    let hs = c.args.self.net.head.now in
    let rs = c.args.self.left.now in
    let lv = c.args.k + 1 in
    let a = c.in-Some.a in
    let i = (rw c.in-Some.ensures.steps at c.loop-a.invariant) in
    let t = touch_yes hs rs lv a c.loop-a.level c.loop-a.grew c.if-self-a-gt0.true c.if-level-w-eq0.true in
    (tt, tt, i.2.1, ap (λ (s : Marks). fold (λ s a. touch hs rs lv a s) s (leavers_left c.next.new.self)) (sym t) ∙ i.3)

pub loop-a-preserved : goal.loop-a-preserved
loop-a-preserved c =
    let hs = c.args.self.net.head.now in
    let rs = c.args.self.left.now in
    let lv = c.args.k + 1 in
    let a = c.in-Some.a in
    let i = (rw c.in-Some.ensures.steps at c.loop-a.invariant) in
    let t : touch hs rs lv a (c.loop-a.level, c.loop-a.grew) ≡ (c.loop-a.level, c.loop-a.grew) =
    elim c.else-self-a-gt0.branch [
      | else-self-a-gt0-via-then-self-a-gt0+else-level-w-eq0 w ↦ touch_had hs rs lv a c.loop-a.level c.loop-a.grew w.if-level-w-eq0.false
      | else-self-a-gt0-via-else-self-a-gt0 w ↦ touch_shut hs rs lv a (c.loop-a.level, c.loop-a.grew) w.if-self-a-gt0.false
    ] in
    (tt, tt, i.2.1, ap (λ (s : Marks). fold (λ s a. touch hs rs lv a s) s (leavers_left c.next.new.self)) (sym t) ∙ i.3)
