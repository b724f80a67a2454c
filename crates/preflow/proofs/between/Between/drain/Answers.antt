use Rattle.std.proofs.Common.{◌≡◌, ℕ, ◌+◌, ◌-◌, List, ◌∷◌, length, get_or, set, deque_items, sym, refl, ap, ◌∙◌, subst, arith}
use Rattle.drawing.specs.Counts.{Within}
use Rattle.residual.specs.Net.{head_of, moved, Bounded}
use Rattle.residual.specs.Leavers.{leavers_left}
use Rattle.residual.proofs.Leavers.{leavers_within}
use Rattle.preflow.specs.Push.{shifted, joined}
use Rattle.preflow.specs.Preflow.{Lined}
use Rattle.preflow.proofs.Kept.{Kept}
use Rattle.preflow.proofs.Moving.{kept_bounded, push_kept, push_lined, join_fits, excess_fits}
use Rattle.preflow.proofs.Steps.{along, scans_along, along_shut, along_off, along_stop, along_more, along_end, shifted_is}
use Rattle.preflow.proofs.between.Between.drain.Goals as goal
use Rattle.preflow.proofs.between.Between.drain.Goals.{else-left-a-gt0-via-then-left-a-gt0+else-height-w, else-left-a-gt0-via-else-left-a-gt0}

pub loop-a-init : goal.loop-a-init
loop-a-init c =
    let hs = c.args.self.net.head.now in
    let items = ap leavers_left c.into_iter-a-iterator.ensures.into_iter_gives ∙ c.leaving-a-items.ensures in
    rw items (tt, tt, leavers_within hs c.args.v (length hs) (length hs) (omega arith), c.requires.sound.0, c.requires.sound.1, c.requires.here.1.1.0, c.requires.queue.0, refl, sym (scans_along _ _ _ _ _ _ _ _ _ _))

pub join-requires : goal.join-requires
join-requires c =
    let vin : Within c.args.self.points c.args.v = (c.requires.here.0, c.requires.here.1.0) in
    let i = (rw c.in-Some.ensures.steps at c.loop-a.invariant) in
    let q = c.loop-a.queue.ok.0 in
    let cap = i.7 in
    let room = c.requires.queue.1 in
    λ z.
    let f = join_fits c.loop-a.left c.args.height.now c.loop-a.excess c.args.self.arcs i.2.0 (omega arith) (omega arith) vin i.5 c.if-left-a-gt0.true c.if-height-w.true c.requires.here.1.1.1 c.min-most.ensures c.args.self.source c.args.self.sink (deque_items c.loop-a.queue) i.6 z in
    omega (arith, f, q, cap, room)

pub overflow_add-excess : goal.overflow_add-excess
overflow_add-excess c =
    let vin : Within c.args.self.points c.args.v = (c.requires.here.0, c.requires.here.1.0) in
    let i = (rw c.in-Some.ensures.steps at c.loop-a.invariant) in
    let f = excess_fits c.loop-a.left c.args.height.now c.loop-a.excess c.args.self.arcs i.2.0 (omega arith) (omega arith) vin i.5 c.if-left-a-gt0.true c.if-height-w.true c.requires.here.1.1.1 c.min-most.ensures i.4 (get_or c.loop-a.excess c.args.v 0 - c.min-most.result) in
    omega (arith, f)

pub loop-a-preserved-then-height-w : goal.loop-a-preserved-then-height-w
loop-a-preserved-then-height-w c =
    let hs = c.args.self.net.head.now in
    let ds = c.args.height.now in
    let n = c.args.self.points in
    let source = c.args.self.source in
    let sink = c.args.self.sink in
    let v = c.args.v in
    let low = c.args.low in
    let a = c.in-Some.a in
    let ks = leavers_left c.next.new.self in
    let rs = c.loop-a.left in
    let es = c.loop-a.excess in
    let qs : List ℕ = deque_items c.loop-a.queue in
    let i = (rw c.in-Some.ensures.steps at c.loop-a.invariant) in
    let vin : Within n v = (c.requires.here.0, c.requires.here.1.0) in
    let nv = c.requires.here.1.1.1 in
    let lr : length rs ≡ length hs = omega arith in
    let le : length es ≡ n + 1 = omega arith in
    let x = c.min-most.result in
    let hd = head_of hs a in
    let js : List ℕ = joined source sink (get_or es hd 0) hd qs in
    let k : Kept hs ds n v low rs es (moved rs a x) (shifted es v hd x) =
    push_kept rs ds es c.args.self.arcs i.2.0 lr le vin i.5 c.if-left-a-gt0.true c.if-height-w.true nv c.min-most.ensures in
    let l : Lined source sink v (shifted es v hd x) js =
    push_lined rs ds es c.args.self.arcs i.2.0 lr le vin i.5 c.if-left-a-gt0.true c.if-height-w.true nv c.min-most.ensures source sink qs i.6 in
    let m : c.carry.new.left ≡ moved rs a x = c.carry.ensures in
    let e : set (set es v (get_or es v 0 - x)) hd (get_or (set es v (get_or es v 0 - x)) hd 0 + x) ≡ shifted es v hd x = shifted_is es v hd x in
    let j : deque_items c.join.new.queue ≡ js = c.join.ensures.items in
    let nz : get_or (shifted es v hd x) v 0 ≡ 0 → ⊥ = λ z. c.if-excess-v-eq0.false (ap (λ (y : List ℕ). get_or y v 0) e ∙ z) in
    let more = along_more hs ds source sink v low a ks rs es qs x js c.if-left-a-gt0.true c.if-height-w.true c.min-most.ensures refl nz in
    rw e (
      tt,
      tt,
      i.2.1,
      subst Bounded (sym m) (kept_bounded hs ds n v low rs es _ _ k i.3),
      (let u = k.all in let w = i.4 in omega (arith, u, w)),
      omega (arith, nz),
      subst (Lined source sink v (shifted es v hd x)) (sym j) l,
      c.join.ensures.capacity ∙ i.7,
      ap (λ (y : List ℕ). along hs ds source sink v low ks y (shifted es v hd x) (deque_items c.join.new.queue)) m
          ∙ ap (along hs ds source sink v low ks (moved rs a x) (shifted es v hd x)) j
          ∙ sym more ∙ i.8,
    )

pub loop-a-preserved : goal.loop-a-preserved
loop-a-preserved c =
    let hs = c.args.self.net.head.now in
    let ds = c.args.height.now in
    let source = c.args.self.source in
    let sink = c.args.self.sink in
    let v = c.args.v in
    let low = c.args.low in
    let a = c.in-Some.a in
    let ks = leavers_left c.next.new.self in
    let rs = c.loop-a.left in
    let es = c.loop-a.excess in
    let qs : List ℕ = deque_items c.loop-a.queue in
    let i = (rw c.in-Some.ensures.steps at c.loop-a.invariant) in
    let same : along hs ds source sink v low (a ∷ ks) rs es qs ≡ along hs ds source sink v low ks rs es qs =
    elim c.else-left-a-gt0.branch [
      | else-left-a-gt0-via-then-left-a-gt0+else-height-w w ↦ along_off hs ds source sink v low a ks rs es qs w.if-height-w.false
      | else-left-a-gt0-via-else-left-a-gt0 w ↦ along_shut hs ds source sink v low a ks rs es qs w.if-left-a-gt0.false
    ] in
    (tt, tt, i.2.1, i.3, i.4, i.5, i.6, i.7, sym same ∙ i.8)

pub returns-in-None-clause-out : goal.returns-in-None-clause-out
returns-in-None-clause-out c =
    sym c.loop-a.invariant.8
    ∙ along_end c.args.self.net.head.now c.args.height.now c.args.self.source c.args.self.sink c.args.v c.args.low (leavers_left c.loop-a.a-iterator) c.loop-a.left c.loop-a.excess (deque_items c.loop-a.queue) c.in-None.ensures.steps.0

pub returns-then-excess-v-eq0-clause-out : goal.returns-then-excess-v-eq0-clause-out
returns-then-excess-v-eq0-clause-out c =
    let hs = c.args.self.net.head.now in
    let ds = c.args.height.now in
    let source = c.args.self.source in
    let sink = c.args.self.sink in
    let v = c.args.v in
    let low = c.args.low in
    let a = c.in-Some.a in
    let rs = c.loop-a.left in
    let es = c.loop-a.excess in
    let qs : List ℕ = deque_items c.loop-a.queue in
    let i = (rw c.in-Some.ensures.steps at c.loop-a.invariant) in
    let x = c.min-most.result in
    let hd = head_of hs a in
    let js : List ℕ = joined source sink (get_or es hd 0) hd qs in
    let e = shifted_is es v hd x in
    let z : get_or (shifted es v hd x) v 0 ≡ 0 = ap (λ (y : List ℕ). get_or y v 0) (sym e) ∙ c.if-excess-v-eq0.true in
    let stop = along_stop hs ds source sink v low a (leavers_left c.next.new.self) rs es qs x js c.if-left-a-gt0.true c.if-height-w.true c.min-most.ensures refl z in
    rw (e, c.carry.ensures, c.join.ensures.items) (sym i.8 ∙ stop)
