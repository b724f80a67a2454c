use Rattle.std.proofs.Common.{◌≡◌, ℕ, suc, ◌-◌, ◌%◌, ◌≤◌, eqb, List, ◌∷◌, length, get_or, set, sym, refl, ap, ◌∙◌, subst, arith}
use Rattle.std.proofs.lemmas.Bool.{cond-true, cond-false, eq-eqb, ne_eqb}
use Rattle.residual.specs.Net.{leavers, head_of, Bounded}
use Rattle.residual.specs.Leavers.{leavers_left}
use Rattle.blocking.specs.Push.{pushes}
use Rattle.residual.proofs.Leavers.{leavers_within}
use Rattle.blocking.proofs.Flows.{placed_at}
use Rattle.blocking.proofs.Scans.{after_call, pushes_on, pushes_at, along, scans_along, along_shut, along_off, along_stop, along_more, along_end}
use Rattle.blocking.proofs.layers.Layers.+push.Goals as goal
use Rattle.blocking.proofs.layers.Layers.+push.Goals.{else-left-a-gt0-via-then-left-a-gt0+else-self-w, else-left-a-gt0-via-else-left-a-gt0}
use Rattle.blocking.proofs.layers.Layers.+push.Goals.{in-None, in-Some+then-left-a-gt0+then-self-w+then-rest-eq0}

pub returns-then-v-self-clause-out : goal.returns-then-v-self-clause-out
returns-then-v-self-clause-out t c =
    let z : ◌≡◌ {A = ℕ} 0 (c.args.limit - c.args.limit) = omega arith in
    pushes_at c.args.self.net.head.now c.args.self.level.now c.args.self.sink c.args.self.top c.args.depth c.args.v c.args.limit c.args.left.now c.args.current.now c.if-depth-eq0.true
    ∙ ap (λ (x : ℕ). (c.args.left.now, c.args.current.now, x)) (cond-true (eqb c.args.v c.args.self.sink) 0 c.args.limit (eq-eqb _ _ c.if-v-self.true) ∙ z)

pub returns-else-v-self-clause-out : goal.returns-else-v-self-clause-out
returns-else-v-self-clause-out t c =
    let z : c.args.limit ≡ c.args.limit - 0 = omega arith in
    pushes_at c.args.self.net.head.now c.args.self.level.now c.args.self.sink c.args.self.top c.args.depth c.args.v c.args.limit c.args.left.now c.args.current.now c.if-depth-eq0.true
    ∙ ap (λ (x : ℕ). (c.args.left.now, c.args.current.now, x)) (cond-false (eqb c.args.v c.args.self.sink) 0 c.args.limit (ne_eqb _ _ c.if-v-self.false) ∙ z)

pub loop-a-init : goal.loop-a-init
loop-a-init t c =
    let hs = c.args.self.net.head.now in
    let v = c.args.v in
    let at = get_or c.args.current.now v 0 in
    let p = placed_at hs c.args.current.now v c.requires.sound.0 in
    let items : leavers_left c.into_iter-a-iterator.result ≡ leavers hs v at = ap leavers_left c.into_iter-a-iterator.ensures.into_iter_gives ∙ c.leaving_from-a-items.ensures in
    let on = pushes_on hs c.args.self.level.now c.args.self.sink c.args.self.top c.args.depth v c.args.limit c.args.left.now c.args.current.now c.if-depth-eq0.false in
    rw items (
      tt,
      tt,
      leavers_within hs v at (length hs) p.within,
      c.requires.sound.0,
      c.requires.sound.1,
      omega arith,
      refl,
      sym (scans_along hs c.args.self.level.now (pushes hs c.args.self.level.now c.args.self.sink c.args.self.top (c.args.depth - 1)) v (c.args.self.top - (c.args.depth - 1)) at c.args.limit c.args.left.now c.args.current.now) ∙ on,
    )

pub carry-requires : goal.carry-requires
carry-requires t c =
    let i = (rw c.in-Some.ensures.steps at c.loop-a.invariant) in
    let f = after_call {hs = c.args.self.net.head.now} {ns = c.args.self.net.next.now} {ls = c.args.self.level.now} c.args.self.sink c.args.self.top c.args.depth c.args.v c.in-Some.a c.loop-a.rest c.push-got.result c.min-most.result c.loop-a.left c.loop-a.current c.push-got.new.left c.push-got.new.current c.args.self.net.chained i.2.0 c.if-depth-eq0.false c.requires.here.1 c.if-self-w.true (omega arith) i.3 i.4 c.min-most.ensures c.push-got.ensures.most c.push-got.ensures.out in
    let short = c.args.self.net.chained.short in
    let even = c.args.self.net.chained.even in
    let size = f.size in
    let half = ap (λ (x : ℕ). x % 2) size in
    record { here = (omega (arith, size, i.2.0.0), (omega arith, omega (arith, half, even))); most = (f.covers, f.fits) }

pub loop-a-preserved-then-self-w : goal.loop-a-preserved-then-self-w
loop-a-preserved-then-self-w t c =
    let hs = c.args.self.net.head.now in
    let ls = c.args.self.level.now in
    let a = c.in-Some.a in
    let P = pushes hs ls c.args.self.sink c.args.self.top (c.args.depth - 1) in
    let lv = c.args.self.top - (c.args.depth - 1) in
    let i = (rw c.in-Some.ensures.steps at c.loop-a.invariant) in
    let f = after_call {hs = hs} {ns = c.args.self.net.next.now} {ls = ls} c.args.self.sink c.args.self.top c.args.depth c.args.v a c.loop-a.rest c.push-got.result c.min-most.result c.loop-a.left c.loop-a.current c.push-got.new.left c.push-got.new.current c.args.self.net.chained i.2.0 c.if-depth-eq0.false c.requires.here.1 c.if-self-w.true (omega arith) i.3 i.4 c.min-most.ensures c.push-got.ensures.most c.push-got.ensures.out in
    let got = c.push-got.result in
    let rs' = c.push-got.new.left in
    let cs' = c.push-got.new.current in
    let m = c.carry.ensures in
    let lim = i.5 in
    let less = subst (λ (x : ℕ). got ≤ x) c.min-most.ensures c.push-got.ensures.most in
    let out = subst (λ (x : ℕ). P (head_of hs a) x c.loop-a.left c.loop-a.current ≡ (rs', cs', x - got)) c.min-most.ensures c.push-got.ensures.out in
    let more = along_more hs ls P c.args.v lv a (leavers_left c.next.new.self) c.loop-a.rest c.loop-a.left c.loop-a.current rs' cs' got c.if-left-a-gt0.true c.if-self-w.true less out c.if-rest-eq0.false in (
      tt,
      tt,
      i.2.1,
      f.placed,
      subst Bounded (sym m) f.bounded,
      omega arith,
      i.6,
      ap (λ (x : List ℕ). along hs ls P c.args.v lv (leavers_left c.next.new.self) (c.loop-a.rest - got) x cs') m ∙ sym more ∙ i.7,
    )

pub loop-a-preserved : goal.loop-a-preserved
loop-a-preserved t c =
    let hs = c.args.self.net.head.now in
    let ls = c.args.self.level.now in
    let a = c.in-Some.a in
    let P = pushes hs ls c.args.self.sink c.args.self.top (c.args.depth - 1) in
    let lv = c.args.self.top - (c.args.depth - 1) in
    let ks = leavers_left c.next.new.self in
    let i = (rw c.in-Some.ensures.steps at c.loop-a.invariant) in
    let same : along hs ls P c.args.v lv (a ∷ ks) c.loop-a.rest c.loop-a.left c.loop-a.current ≡ along hs ls P c.args.v lv ks c.loop-a.rest c.loop-a.left c.loop-a.current =
    elim c.else-left-a-gt0.branch [
      | else-left-a-gt0-via-then-left-a-gt0+else-self-w w ↦ along_off hs ls P c.args.v lv a ks c.loop-a.rest c.loop-a.left c.loop-a.current w.if-self-w.false
      | else-left-a-gt0-via-else-left-a-gt0 w ↦ along_shut hs ls P c.args.v lv a ks c.loop-a.rest c.loop-a.left c.loop-a.current w.if-left-a-gt0.false
    ] in
    (tt, tt, i.2.1, i.3, i.4, i.5, i.6, sym same ∙ i.7)

pub returns-clause-out : goal.returns-clause-out
returns-clause-out t c =
    let hs = c.args.self.net.head.now in
    let ls = c.args.self.level.now in
    let v = c.args.v in
    let P = pushes hs ls c.args.self.sink c.args.self.top (c.args.depth - 1) in
    let lv = c.args.self.top - (c.args.depth - 1) in
    let lim = c.loop-a.invariant.5 in
    let o : along hs ls P v lv (leavers_left c.loop-a.a-iterator) c.loop-a.rest c.loop-a.left c.loop-a.current ≡ (c.match-next.left, set c.match-next.current v c.match-next.stop, c.match-next.rest) =
    elim c.match-next.branch [
      | in-None w ↦
          along_end hs ls P v lv (leavers_left c.loop-a.a-iterator) c.loop-a.rest c.loop-a.left c.loop-a.current w.in-None.ensures.steps.0
          ∙ ap (λ (x : List ℕ). (x, set c.loop-a.current v 0, c.loop-a.rest)) (sym w.left-is)
          ∙ ap (λ (x : List ℕ). (c.match-next.left, set x v 0, c.loop-a.rest)) (sym w.current-is)
          ∙ ap (λ (x : ℕ). (c.match-next.left, set c.match-next.current v x, c.loop-a.rest)) (sym c.loop-a.invariant.6 ∙ sym w.stop-is)
          ∙ ap (λ (x : ℕ). (c.match-next.left, set c.match-next.current v c.match-next.stop, x)) (sym w.rest-is)
      | in-Some+then-left-a-gt0+then-self-w+then-rest-eq0 w ↦
          let a = w.in-Some.a in
          let got = w.push-got.result in
          let rs' = w.push-got.new.left in
          let cs' = w.push-got.new.current in
          let less = subst (λ (x : ℕ). got ≤ x) w.min-most.ensures w.push-got.ensures.most in
          let out = subst (λ (x : ℕ). P (head_of hs a) x c.loop-a.left c.loop-a.current ≡ (rs', cs', x - got)) w.min-most.ensures w.push-got.ensures.out in
          ap (λ (ks : List ℕ). along hs ls P v lv ks c.loop-a.rest c.loop-a.left c.loop-a.current) w.in-Some.ensures.steps
          ∙ along_stop hs ls P v lv a (leavers_left c.next.new.self) c.loop-a.rest c.loop-a.left c.loop-a.current rs' cs' got w.if-left-a-gt0.true w.if-self-w.true less out w.if-rest-eq0.true
          ∙ ap (λ (x : List ℕ). (x, set cs' v (suc a), 0)) (sym w.carry.ensures ∙ sym w.left-is)
          ∙ ap (λ (x : List ℕ). (c.match-next.left, set x v (suc a), 0)) (sym w.current-is)
          ∙ ap (λ (x : ℕ). (c.match-next.left, set c.match-next.current v x, 0)) (let e = w.stop-is in let s : suc a ≡ c.match-next.stop = omega (arith, e) in s)
          ∙ ap (λ (x : ℕ). (c.match-next.left, set c.match-next.current v c.match-next.stop, x)) (sym w.if-rest-eq0.true ∙ sym w.rest-is)
    ] in
    let under : c.match-next.rest ≤ c.args.limit =
    elim c.match-next.branch [
      | in-None w ↦ let e = w.rest-is in omega (arith, e, lim)
      | in-Some+then-left-a-gt0+then-self-w+then-rest-eq0 w ↦ let e = w.rest-is in let z = w.if-rest-eq0.true in omega (arith, e, z)
    ] in
    let back : c.match-next.rest ≡ c.args.limit - (c.args.limit - c.match-next.rest) = omega (arith, under) in
    sym c.loop-a.invariant.7 ∙ o ∙ ap (λ (x : ℕ). (c.match-next.left, set c.match-next.current v c.match-next.stop, x)) back
