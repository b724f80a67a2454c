use Rattle.std.proofs.Common.{◌≡◌, ℕ, ◌+◌, List, [], length, get_or, set, replicate, deque_items, deque_capacity, sym, refl, ap, ◌∙◌, subst, arith}
use Rattle.preflow.specs.Push.{scans}
use Rattle.preflow.specs.Turns.{State, first_heights, first_excess, opening, after, states, turns_for, final}
use Rattle.preflow.specs.Preflow.{whole, Lined}
use Rattle.preflow.proofs.Lines.{active_parts}
use Rattle.preflow.proofs.Progress.{first_length, first_source, first_whole, first_lined, opening_is, after_none, after_front, ready, front_within, final_is}
use Rattle.preflow.proofs.turns.max_flow.Goals as goal
use Rattle.preflow.proofs.turns.max_flow.Goals.{else-loop-turn-test, then-loop-turn-test+in_default}

-- what the code fills in first
filled : (n m source x : ℕ) (xs : List ℕ) → xs ≡ replicate m 0 → m ≡ n + 1 → set xs source x ≡ set (replicate (n + 1) 0) source x
filled n m source x xs e l = ap (λ (y : List ℕ). set y source x) (e ∙ ap (λ (k : ℕ). replicate {A = ℕ} k 0) l)

pub drain-requires : goal.drain-requires
drain-requires c =
    let n = c.args.between.points in
    let source = c.args.between.source in
    let sink = c.args.between.sink in
    let en = c.args.between.ends in
    let lh : length c.args.height.now ≡ n + 1 = c.requires.points.1.1 in
    let le : length c.args.excess.now ≡ n + 1 = c.requires.points.1.0 in
    let D : set c.fill.new.self source n ≡ first_heights n source = filled n (length c.args.height.now) source n c.fill.new.self (c.fill.ensures.after (λ y h. h)) lh in
    let E : set c.fill-2.new.self source 1800000001 ≡ first_excess n source = filled n (length c.args.excess.now) source 1800000001 c.fill-2.new.self (c.fill-2.ensures.after (λ y h. h)) le in
    let lD = ap length D ∙ first_length n source sink en n in
    let lE = ap length E ∙ first_length n source sink en 1800000001 in
    let sE = ap (λ (y : List ℕ). get_or y source 0) E ∙ first_source n source sink en 1800000001 in
    let sD = ap (λ (y : List ℕ). get_or y source 0) D ∙ first_source n source sink en n in
    let wE = ap (λ (y : List ℕ). whole y n) E ∙ first_whole n source sink en in
    let some = en.source_some in
    let most = en.source_most in
    record {
      sizes = (c.requires.arcs.0, (lE, lD));
      here = (some, (most, (omega (arith, sE), λ q. omega (arith, q, sD, some, most))));
      sound = (c.requires.sound.0, omega (arith, wE));
      queue = (
        subst (Lined source sink source (set c.fill-2.new.self source 1800000001)) (sym c.clear.ensures.items) (subst (λ (y : List ℕ). Lined source sink source y []) (sym E) (first_lined n source sink en)),
        (let a = c.clear.ensures.capacity in let b = c.requires.room in omega (arith, a, b)),
      );
    }

pub loop-turn-init : goal.loop-turn-init
loop-turn-init c = (after_none _ _ _ _ _, refl)

-- the state that the loop starts from
begun_is : (hs : List ℕ) (n source sink : ℕ) (rs A B q rs' es' qs' : List ℕ) (mh me : ℕ) → A ≡ replicate mh 0 → mh ≡ n + 1 → B ≡ replicate me 0 → me ≡ n + 1 → q ≡ [] → scans hs (set A source n) source sink source 0 (length hs) rs (set B source 1800000001) q ≡ (rs', es', qs')
    → ◌≡◌ {A = State} (record { left = rs'; excess = es'; height = set A source n; queue = qs' }) (opening hs n source sink rs)
begun_is hs n source sink rs A B q rs' es' qs' mh me a ha b hb e o =
    opening_is hs n source sink rs (set A source n) (set B source 1800000001) q rs' es' qs' (filled n mh source n A a ha) (filled n me source 1800000001 B b hb) e o

-- and that which it has reached
reached_is : (hs : List ℕ) (n source sink : ℕ) (rs : List ℕ) (s s₀ : State) (k : ℕ) → s ≡ after hs n source sink s₀ k → s₀ ≡ opening hs n source sink rs → s ≡ states hs n source sink rs k
reached_is hs n source sink rs s s₀ k e o = e ∙ ap (λ (x : State). after hs n source sink x k) o

pub turn-requires : goal.turn-requires
turn-requires c =
    let hs = c.args.between.net.head.now in
    let n = c.args.between.points in
    let source = c.args.between.source in
    let sink = c.args.between.sink in
    let ar = c.args.between.arcs in
    let en = c.args.between.ends in
    let small = c.args.between.few in
    let rs₀ = c.args.left.now in
    let same : length rs₀ ≡ length hs = c.requires.arcs.0 in
    let s₀ : State = record { left = c.drain.new.left; excess = c.drain.new.excess; height = set c.fill.new.self source n; queue = deque_items c.drain.new.queue } in
    let s : State = record { left = c.loop-turn.left; excess = c.loop-turn.excess; height = c.loop-turn.height; queue = deque_items c.loop-turn.queue } in
    let o = begun_is hs n source sink rs₀ c.fill.new.self c.fill-2.new.self (deque_items c.clear.new.self) c.drain.new.left c.drain.new.excess (deque_items c.drain.new.queue) (length c.args.height.now) (length c.args.excess.now) (c.fill.ensures.after (λ y h. h)) c.requires.points.1.1 (c.fill-2.ensures.after (λ y h. h)) c.requires.points.1.0 c.clear.ensures.items c.drain.ensures.out in
    let e = reached_is hs n source sink rs₀ s s₀ c.loop-turn.turn c.loop-turn.invariant.0 o in
    let r = ready hs rs₀ n source sink ar en same small c.requires.sound.1 c.requires.sound.0 c.loop-turn.turn s e in
    let f = front_within hs rs₀ n source sink ar en same small s r.2 c.in-Some.v (deque_items c.leave.new.queue) c.in-Some.ensures.front in
    let act = (active_parts source sink c.loop-turn.excess c.in-Some.v f.1).0 in
    let ll = r.2.pre.same in
    let cap = c.in-Some.ensures.capacity in
    let cap0 = c.loop-turn.invariant.1 in
    let cap1 = c.drain.ensures.capacity in
    let cap2 = c.clear.ensures.capacity in
    let room = c.requires.room in
    let kb = c.loop-turn.auto.back in
    let kl = c.loop-turn.auto.level in
    let pb = c.requires.arcs.1 in
    let pl = c.requires.points.0 in
    record {
      arcs = (ll ∙ same, omega (arith, kb, pb));
      points = (omega (arith, kl, pl), (r.2.pre.points, r.2.pre.heights));
      here = (f.0.0, (f.0.1, act));
      sound = (r.0, r.1);
      queue = (f.2, omega (arith, cap, cap0, cap1, cap2, room));
    }

pub loop-turn-preserved : goal.loop-turn-preserved
loop-turn-preserved c =
    let hs = c.args.between.net.head.now in
    let n = c.args.between.points in
    let source = c.args.between.source in
    let sink = c.args.between.sink in
    let s₀ : State = record { left = c.drain.new.left; excess = c.drain.new.excess; height = set c.fill.new.self source n; queue = deque_items c.drain.new.queue } in
    let s : State = record { left = c.loop-turn.left; excess = c.loop-turn.excess; height = c.loop-turn.height; queue = deque_items c.loop-turn.queue } in
    let f = after_front hs n source sink s₀ c.loop-turn.turn s c.in-Some.v (deque_items c.leave.new.queue) c.loop-turn.invariant.0 c.in-Some.ensures.front in
    (sym (f ∙ c.turn.ensures.out), c.turn.ensures.capacity ∙ c.in-Some.ensures.capacity ∙ c.loop-turn.invariant.1)

pub returns : goal.returns
returns c =
    let hs = c.args.between.net.head.now in
    let n = c.args.between.points in
    let source = c.args.between.source in
    let sink = c.args.between.sink in
    let ar = c.args.between.arcs in
    let en = c.args.between.ends in
    let small = c.args.between.few in
    let rs₀ = c.args.left.now in
    let same : length rs₀ ≡ length hs = c.requires.arcs.0 in
    let turn = c.loop-turn.turn in
    let s₀ : State = record { left = c.drain.new.left; excess = c.drain.new.excess; height = set c.fill.new.self source n; queue = deque_items c.drain.new.queue } in
    let s : State = record { left = c.loop-turn.left; excess = c.loop-turn.excess; height = c.loop-turn.height; queue = deque_items c.loop-turn.queue } in
    let o = begun_is hs n source sink rs₀ c.fill.new.self c.fill-2.new.self (deque_items c.clear.new.self) c.drain.new.left c.drain.new.excess (deque_items c.drain.new.queue) (length c.args.height.now) (length c.args.excess.now) (c.fill.ensures.after (λ y h. h)) c.requires.points.1.1 (c.fill-2.ensures.after (λ y h. h)) c.requires.points.1.0 c.clear.ensures.items c.drain.ensures.out in
    let e : s ≡ states hs n source sink rs₀ turn = reached_is hs n source sink rs₀ s s₀ turn c.loop-turn.invariant.0 o in
    let end : final hs n source sink rs₀ ≡ s =
    elim c.loop-turn-test.branch [
      | else-loop-turn-test w ↦
          let l = w.loop-turn-test.false in
          let k = c.loop-turn.auto.turn-end in
          let t = c.turns_for-turn-end.ensures in
          let q : turn ≡ turns_for n = omega (arith, l, k, t) in
          ap (states hs n source sink rs₀) (sym q) ∙ sym e
      | then-loop-turn-test+in_default w ↦
          let l = w.loop-turn-test.true in
          let t = c.turns_for-turn-end.ensures in
          let idle : (states hs n source sink rs₀ turn).queue ≡ [] = ap (λ (x : State). x.queue) (sym e) ∙ w.in_default.ensures.front in
          final_is hs rs₀ n source sink ar en same small c.requires.sound.1 turn (omega (arith, l, t)) idle ∙ sym e
    ] in
    record {
      left = ap (λ (x : State). x.left) (sym end);
      level = c.aim.ensures;
      total = ap (λ (x : State). get_or x.excess sink 0) (sym end);
      capacity = elim c.loop-turn-test.branch [
        | else-loop-turn-test w ↦ ap (λ q. deque_capacity q) w.queue-is ∙ c.loop-turn.invariant.1 ∙ c.drain.ensures.capacity ∙ c.clear.ensures.capacity
        | then-loop-turn-test+in_default w ↦ ap (λ q. deque_capacity q) w.queue-is ∙ w.leave.ensures.capacity ∙ c.loop-turn.invariant.1 ∙ c.drain.ensures.capacity ∙ c.clear.ensures.capacity
      ];
    }
