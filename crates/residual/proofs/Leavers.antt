-- The arcs that leave a point, as a list.
use Rattle.std.proofs.Common.{◌≡◌, ℕ, zero, suc, ◌-◌, ◌<◌, ◌≤◌, eqb, List, [], ◌∷◌, length, fold, get_or, sym, refl, subst, ap, ◌∙◌, inl, inr, arith}
use Rattle.std.proofs.lemmas.Bool.{eqb-true, cases_Bool, cond-true, cond-false, eq-eqb}
use Rattle.std.specs.List.{AllByRecursion}
use Rattle.residual.specs.Search.{Marks, touch, spreads}
use Rattle.residual.specs.Net.{tail_of, before, leavers, Chained, Started, Place}
use Rattle.residual.proofs.Chains.{before_place, follow}

-- those above the last one do not leave v
pub leavers_skip : (hs : List ℕ) (v k : ℕ) → leavers hs v k ≡ leavers hs v (before hs v k)
unfolding before leavers
leavers_skip hs v zero = refl
leavers_skip hs v (suc k) =
    elim (cases_Bool (eqb (tail_of hs k) v)) [
      | inl e ↦ rw (cond-true (eqb (tail_of hs k) v) (suc k) (before hs v k) e) refl
      | inr e ↦ rw (cond-false (eqb (tail_of hs k) v) (suc k) (before hs v k) e, cond-false (eqb (tail_of hs k) v) (k ∷ leavers hs v k) (leavers hs v k) e) (leavers_skip hs v k)
    ]

pub leavers_none : (hs : List ℕ) (v at : ℕ) → at ≡ 0 → leavers hs v at ≡ []
unfolding leavers
leavers_none hs v at z = rw z refl

-- the arc in front of a chain, and what follows it
pub leavers_step : {hs ns : List ℕ} {n : ℕ} (v a at : ℕ) → Chained hs ns n → Place hs v at → at ≡ suc a → leavers hs v at ≡ a ∷ leavers hs v (get_or ns a 0)
unfolding leavers
leavers_step {hs} {ns} v a at c p e =
    let one : at - 1 ≡ a = omega arith in
    let here : tail_of hs a ≡ v = ap (tail_of hs) (sym one) ∙ p.leaves (omega arith) in
    let next : get_or ns a 0 ≡ before hs v a = ap (λ (x : ℕ). get_or ns x 0) (sym one) ∙ follow v at c p (omega arith) ∙ ap (before hs v) one in
    ap (leavers hs v) e ∙ cond-true (eqb (tail_of hs a) v) _ _ (eq-eqb _ _ here) ∙ ap (λ (xs : List ℕ). a ∷ xs) (leavers_skip hs v a ∙ ap (leavers hs v) (sym next))

pub leavers_within : (hs : List ℕ) (v k n : ℕ) → k ≤ n → AllByRecursion (λ a. (a < n) × (tail_of hs a ≡ v)) (leavers hs v k)
unfolding leavers
leavers_within hs v zero n h = tt
leavers_within hs v (suc k) n h =
    elim (cases_Bool (eqb (tail_of hs k) v)) [
      | inl e ↦ rw (cond-true (eqb (tail_of hs k) v) (k ∷ leavers hs v k) (leavers hs v k) e) ((omega arith, eqb-true _ _ e), leavers_within hs v k n (omega arith))
      | inr e ↦ rw (cond-false (eqb (tail_of hs k) v) (k ∷ leavers hs v k) (leavers hs v k) e) (leavers_within hs v k n (omega arith))
    ]

-- a search tries them one after another
pub spreads_fold : (hs rs : List ℕ) (v lv k : ℕ) (s : Marks) → spreads hs rs v lv k s ≡ fold (λ t a. touch hs rs lv a t) s (leavers hs v k)
unfolding leavers spreads
spreads_fold hs rs v lv zero s = refl
spreads_fold hs rs v lv (suc k) s =
    elim (cases_Bool (eqb (tail_of hs k) v)) [
      | inl e ↦ rw (cond-true (eqb (tail_of hs k) v) (k ∷ leavers hs v k) (leavers hs v k) e, cond-true (eqb (tail_of hs k) v) (touch hs rs lv k s) s e) (spreads_fold hs rs v lv k (touch hs rs lv k s))
      | inr e ↦ rw (cond-false (eqb (tail_of hs k) v) (k ∷ leavers hs v k) (leavers hs v k) e, cond-false (eqb (tail_of hs k) v) (touch hs rs lv k s) s e) (spreads_fold hs rs v lv k s)
    ]

-- a point's chain starts at a place of it, and has all arcs that leave it
pub first_place : {hs fs : List ℕ} (v : ℕ) → Started hs fs → v < length fs → Place hs v (get_or fs v 0)
first_place {hs} v st h = subst (Place hs v) (sym (st.start v h)) (before_place hs v (length hs) (omega arith))

pub leavers_first : {hs fs : List ℕ} (v : ℕ) → Started hs fs → v < length fs → leavers hs v (get_or fs v 0) ≡ leavers hs v (length hs)
leavers_first {hs} v st h = ap (leavers hs v) (st.start v h) ∙ sym (leavers_skip hs v (length hs))
