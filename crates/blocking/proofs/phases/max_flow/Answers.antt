use Rattle.std.proofs.Common.{◌≡◌, ℕ, suc, ◌+◌, ◌-◌, List, length, get_or, sym, ap, ◌∙◌, subst, arith}
use Rattle.residual.specs.Net.{Placed}
use Rattle.blocking.specs.Push.{pushes}
use Rattle.blocking.specs.Phases.{phases}
use Rattle.blocking.proofs.Turns.{started_placed, sent_bounded, run_layered, run_ended, run_sent, phases_stop, phases_on, phases_end}
use Rattle.blocking.proofs.phases.max_flow.Goals as goal

pub invariant_of-layers : goal.invariant_of-layers
invariant_of-layers c =
    let net = c.args.net in
    let la = (run_layered c.args.source c.args.sink net.chained net.started (omega arith) (omega arith) c.loop-turn.left c.search.new.level (length c.loop-turn.level) (omega arith) c.search.ensures).1 in
    let low = la.low c.args.sink in
    record { levels = omega arith; low = omega arith }

pub push-total-requires : goal.push-total-requires
push-total-requires c =
    let net = c.args.net in
    let rs = c.loop-turn.left in
    let l = c.search.new.level in
    let la = (run_layered c.args.source c.args.sink net.chained net.started (omega arith) (omega arith) rs l (length c.loop-turn.level) (omega arith) c.search.ensures).1 in
    let one = la.first in
    record {
      sizes = (omega arith, omega arith);
      here = (omega arith, omega arith);
      sound = (subst (Placed net.head.now) (sym c.copy_from_slice.ensures.after) (started_placed net.head.now net.first.now net.started), sent_bounded net.head.now c.args.source c.args.sink c.loop-turn.total c.args.left.now rs c.loop-turn.invariant.0 c.requires.sound.0);
    }

pub loop-turn-preserved : goal.loop-turn-preserved
loop-turn-preserved c =
    let hs = c.args.net.head.now in
    let fs = c.args.net.first.now in
    let source = c.args.source in
    let sink = c.args.sink in
    let rs = c.loop-turn.left in
    let l = c.search.new.level in
    let la = run_layered source sink c.args.net.chained c.args.net.started (omega arith) (omega arith) rs l (length c.loop-turn.level) (omega arith) c.search.ensures in
    let turn = c.loop-turn._turn in
    let f = 1800000001 - (turn + 1) in
    let more : 1800000001 - turn ≡ suc f = omega arith in
    let inv = ap (λ (x : ℕ). phases hs fs source sink x rs c.loop-turn.level c.loop-turn.total) (sym more) ∙ c.loop-turn.invariant.1 in
    let r = c.push-total.result in
    let rs' = c.push-total.new.left in
    let cs' = c.push-total.new.current in
    let out : pushes hs l sink (get_or l sink 0) (get_or l sink 0 - 1) source 1800000000 rs fs ≡ (rs', cs', 1800000000 - r) =
    subst (λ (x : List ℕ). pushes hs l sink (get_or l sink 0) (get_or l sink 0 - 1) source 1800000000 rs x ≡ (rs', cs', 1800000000 - r)) c.copy_from_slice.ensures.after c.push-total.ensures.out in (
      run_sent source sink c.args.net.chained c.args.net.started (omega arith) (omega arith) c.requires.ends.1.1 c.args.left.now rs rs' cs' l c.loop-turn.total r (omega arith) c.loop-turn.invariant.0 la.1 c.if-top-eq0.false c.push-total.ensures.most out,
      sym (phases_on hs fs source sink f rs c.loop-turn.level c.loop-turn.total l la.0 rs' cs' r c.if-top-eq0.false c.push-total.ensures.most out) ∙ inv,
    )

pub returns-after-loop-turn : goal.returns-after-loop-turn
returns-after-loop-turn c =
    let hs = c.args.net.head.now in
    let fs = c.args.net.first.now in
    let z : 1800000001 - c.loop-turn._turn ≡ 0 = omega arith in
    let out : phases hs fs c.args.source c.args.sink 1800000001 c.args.left.now c.args.level.now 0 ≡ (c.loop-turn.left, c.loop-turn.level, c.loop-turn.total) =
    sym c.loop-turn.invariant.1 ∙ phases_end hs fs c.args.source c.args.sink (1800000001 - c.loop-turn._turn) c.loop-turn.left c.loop-turn.level c.loop-turn.total z in
    record {
      out = out;
      ended = run_ended c.args.source c.args.sink c.args.net.chained c.args.net.started (omega arith) (omega arith) c.requires.ends.1.1 c.args.left.now c.args.level.now 1800000001 (omega arith) (omega arith) _ out;
    }

pub returns-then-top-eq0 : goal.returns-then-top-eq0
returns-then-top-eq0 c =
    let hs = c.args.net.head.now in
    let fs = c.args.net.first.now in
    let source = c.args.source in
    let sink = c.args.sink in
    let rs = c.loop-turn.left in
    let l = c.search.new.level in
    let la = run_layered source sink c.args.net.chained c.args.net.started (omega arith) (omega arith) rs l (length c.loop-turn.level) (omega arith) c.search.ensures in
    let turn = c.loop-turn._turn in
    let f = 1800000001 - (turn + 1) in
    let more : 1800000001 - turn ≡ suc f = omega arith in
    let inv = ap (λ (x : ℕ). phases hs fs source sink x rs c.loop-turn.level c.loop-turn.total) (sym more) ∙ c.loop-turn.invariant.1 in
    let out : phases hs fs source sink 1800000001 c.args.left.now c.args.level.now 0 ≡ (rs, l, c.loop-turn.total) =
    sym inv ∙ phases_stop hs fs source sink f rs c.loop-turn.level c.loop-turn.total l la.0 c.if-top-eq0.true in
    record {
      out = out;
      ended = run_ended source sink c.args.net.chained c.args.net.started (omega arith) (omega arith) c.requires.ends.1.1 c.args.left.now c.args.level.now 1800000001 (omega arith) (omega arith) _ out;
    }
