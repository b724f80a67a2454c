use Rattle.std.proofs.Common.{◌≡◌, true, cond, refl, ap, ◌∙◌}
use Rattle.residual.specs.Search.{Marks, rounds, visits}
use Rattle.residual.proofs.Rounds.{rounds_more, visits_yes, visits_no}
use Rattle.residual.proofs.net.Loaded.round.Goals as goal
use Rattle.residual.proofs.net.Loaded.round.Goals.{then-level-v+then-spread, else-level-v, else-level-v-via-then-level-v+else-spread, else-level-v-via-else-level-v}

pub loop-v-init : goal.loop-v-init
unfolding rounds
loop-v-init c = refl

pub loop-v-preserved : goal.loop-v-preserved
loop-v-preserved c =
    let hs = c.args.self.net.head.now in
    let rs = c.args.self.left.now in
    let v = c.loop-v.v in
    let k = c.args.k in
    let l = c.loop-v.level in
    let g = c.loop-v.grew in
    let now : Marks = (c.if-level-v.level, c.if-level-v.grew) in
    let t : visits hs rs k v (l, g) ≡ now =
    elim c.if-level-v.branch [
      | then-level-v+then-spread w ↦ let e = visits_yes hs rs k v l _ g _ w.if-level-v.true w.spread.ensures in let r = ap (λ b. cond b true g) w.if-spread.true in cc
      | else-level-v u ↦ elim u.else-level-v.branch [
        | else-level-v-via-then-level-v+else-spread w ↦ let e = visits_yes hs rs k v l _ g _ w.if-level-v.true w.spread.ensures in let r = ap (λ b. cond b true g) w.if-spread.false in cc
        | else-level-v-via-else-level-v w ↦ let e = visits_no hs rs k v l g w.if-level-v.false in cc
      ]
    ] in
    rounds_more hs rs k v c.args.level.now ∙ ap (visits hs rs k v) c.loop-v.invariant ∙ t
