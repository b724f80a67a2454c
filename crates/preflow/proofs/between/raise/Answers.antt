use Rattle.std.proofs.Common.{◌≡◌, ℕ, ◌+◌, ◌-◌, ◌<◌, ◌≤◌, max, ◌≢◌, List, length, get_or, set, sym, ap, ◌∙◌, inl, inr, arith, get_or-set_other, get_or-set_same}
use Rattle.std.proofs.lemmas.List.FromFn.{fill_by_all}
use Rattle.std.proofs.lemmas.Bool.{eq-eqb, ne_eqb, cond-true, cond-false, cases_eq}
use Rattle.preflow.specs.Turns.{dist, raised}
use Rattle.preflow.proofs.between.raise.Goals as goal
use Rattle.preflow.proofs.between.raise.Goals.{then-level-v-eq0, else-level-v-eq0}

dist_none : (n l : ℕ) → l ≡ 0 → n ≡ dist n l
unfolding dist
dist_none n l e = sym (cond-true _ _ _ (eq-eqb l 0 e))

dist_some : (n l : ℕ) → (l ≡ 0 → ⊥) → l - 1 ≡ dist n l
unfolding dist
dist_some n l e = sym (cond-false _ _ _ (ne_eqb l 0 e))

raised_is : (n : ℕ) (ls ds xs : List ℕ) → length xs ≡ n + 1 → ((u : ℕ) → u < n + 1 → get_or xs u 0 ≡ max (get_or ds u 0) (dist n (get_or ls u 0))) → xs ≡ raised n ls ds
unfolding raised
raised_is n ls ds xs len h = fill_by_all (λ u. max (get_or ds u 0) (dist n (get_or ls u 0))) xs (n + 1) 0 len h

more : (ds xs : List ℕ) (F : ℕ → ℕ) (v x : ℕ) → v < length xs → x ≡ F v → ((u : ℕ) → u < v → get_or xs u 0 ≡ F u) → ((u : ℕ) → v ≤ u → get_or xs u 0 ≡ get_or ds u 0)
    → ((u : ℕ) → u < v + 1 → get_or (set xs v x) u 0 ≡ F u) × ((u : ℕ) → v + 1 ≤ u → get_or (set xs v x) u 0 ≡ get_or ds u 0)
more ds xs F v x vin e a b = (
  λ u h. elim (cases_eq u v) [
    | inl q ↦ ap (λ (y : ℕ). get_or (set xs v x) y 0) q ∙ get_or-set_same xs v x 0 vin ∙ e ∙ ap F (sym q)
    | inr n ↦ get_or-set_other xs v u x 0 n ∙ a u (omega arith)
  ],
  λ u h. let n : u ≢ v = λ q. omega arith in get_or-set_other xs v u x 0 n ∙ b u (omega arith),
)

pub loop-v-preserved : goal.loop-v-preserved
loop-v-preserved c =
    let n = c.args.points in
    let ds = c.args.height.now in
    let ls = c.args.level.now in
    let v = c.loop-v.v in
    let d : c.if-level-v-eq0.d ≡ dist n (get_or ls v 0) =
    elim c.if-level-v-eq0.branch [
      | then-level-v-eq0 w ↦ w.d-is ∙ dist_none n (get_or ls v 0) w.if-level-v-eq0.true
      | else-level-v-eq0 w ↦ w.d-is ∙ dist_some n (get_or ls v 0) w.if-level-v-eq0.false
    ] in
    let e : c.max.result ≡ max (get_or ds v 0) (dist n (get_or ls v 0)) =
    c.max.ensures ∙ ap (λ (y : ℕ). max y c.if-level-v-eq0.d) (c.loop-v.invariant.1 v (omega arith)) ∙ ap (max (get_or ds v 0)) d in
    more ds c.loop-v.height (λ u. max (get_or ds u 0) (dist n (get_or ls u 0))) v c.max.result (omega arith) e c.loop-v.invariant.0 c.loop-v.invariant.1

pub returns : goal.returns
returns c = raised_is c.args.points c.args.level.now c.args.height.now c.loop-v.height (omega arith) (λ u h. c.loop-v.invariant.0 u (omega arith))
