-- Chains: what `before` gives, and that a scan may follow the chain.
use Rattle.std.proofs.Common.{◌≡◌, ℕ, zero, suc, ◌+◌, ◌-◌, ◌<◌, ◌≤◌, Bool, true, eqb, List, length, get_or, set, sym, ap, ◌∙◌, inl, inr, ⊎_elim, add-one, arith, length-set, get_or-set_other, get_or-set_same}
use Rattle.std.proofs.lemmas.Bool.{eqb-true, cases_Bool, cases_eq, cond-true, cond-false, eq-eqb, ne_eqb, lt-ltb, le-ltb, and_from, and_left, and_right}
use Rattle.residual.specs.Net.{head_of, tail_of, before, Chained, Place}
use Rattle.residual.specs.Search.{Marks, touch}

pub before_le : (hs : List ℕ) (v k : ℕ) → before hs v k ≤ k
unfolding before
before_le hs v zero = omega arith
before_le hs v (suc k) =
    ⊎_elim (λ e. rw (cond-true (eqb (tail_of hs k) v) (suc k) (before hs v k) e) (omega arith))
    (λ e. rw (cond-false (eqb (tail_of hs k) v) (suc k) (before hs v k) e) (omega (arith, before_le hs v k)))
    (cases_Bool (eqb (tail_of hs k) v))

-- the chain's arcs leave v
pub before_tail : (hs : List ℕ) (v k : ℕ) → 0 < before hs v k → tail_of hs (before hs v k - 1) ≡ v
unfolding before
before_tail hs v zero = λ h. omega arith
before_tail hs v (suc k) =
    elim (cases_Bool (eqb (tail_of hs k) v)) [
      | inl e ↦ rw (cond-true (eqb (tail_of hs k) v) (suc k) (before hs v k) e) (λ _. let one : suc k - 1 ≡ k = omega arith in rw one (eqb-true _ _ e))
      | inr e ↦ rw (cond-false (eqb (tail_of hs k) v) (suc k) (before hs v k) e) (λ h. before_tail hs v k h)
    ]

pub before_place : (hs : List ℕ) (v k : ℕ) → k ≤ length hs → Place hs v (before hs v k)
before_place hs v k h = record { within = omega (arith, before_le hs v k); leaves = before_tail hs v k }

-- the chain goes on to the last arc before this one
pub follow : {hs ns : List ℕ} {n : ℕ} (v at : ℕ) → Chained hs ns n → Place hs v at → 0 < at → get_or ns (at - 1) 0 ≡ before hs v (at - 1)
follow {hs} v at c p h =
    c.chain (at - 1) (let w = p.within in omega arith) ∙ ap (λ (x : ℕ). before hs x (at - 1)) (p.leaves h)

pub follow_place : {hs ns : List ℕ} {n : ℕ} (v at : ℕ) → Chained hs ns n → Place hs v at → 0 < at → Place hs v (get_or ns (at - 1) 0)
follow_place {hs} v at c p h =
    rw (follow v at c p h) (before_place hs v (at - 1) (let w = p.within in omega arith))

pub follow_less : {hs ns : List ℕ} {n : ℕ} (v at : ℕ) → Chained hs ns n → Place hs v at → 0 < at → get_or ns (at - 1) 0 < at
follow_less {hs} v at c p h = rw (follow v at c p h) (omega (arith, before_le hs v (at - 1)))

pub touch_yes : (hs rs : List ℕ) (lv k : ℕ) (l : List ℕ) (g : Bool) → 0 < get_or rs k 0 → get_or l (head_of hs k) 0 ≡ 0 → touch hs rs lv k (l, g) ≡ (set l (head_of hs k) lv, true)
unfolding touch
touch_yes hs rs lv k l g a b = cond-true _ _ _ (and_from _ _ (lt-ltb _ _ a) (eq-eqb _ _ b))

pub touch_shut : (hs rs : List ℕ) (lv k : ℕ) (s : Marks) → get_or rs k 0 ≤ 0 → touch hs rs lv k s ≡ s
unfolding touch
touch_shut hs rs lv k s a = cond-false _ _ _ (and_left _ _ (le-ltb _ _ a))

pub touch_had : (hs rs : List ℕ) (lv k : ℕ) (l : List ℕ) (g : Bool) → (get_or l (head_of hs k) 0 ≡ 0 → ⊥) → touch hs rs lv k (l, g) ≡ (l, g)
unfolding touch
touch_had hs rs lv k l g a = cond-false _ _ _ (and_right _ _ (ne_eqb _ _ a))

-- one arc more is put in front of its tail's chain
pub linked : (hs fs : List ℕ) (a t : ℕ) → t ≡ tail_of hs a → ((v : ℕ) → v < length fs → get_or fs v 0 ≡ before hs v a) → (v : ℕ) → v < length (set fs t (a + 1)) → get_or (set fs t (a + 1)) v 0 ≡ before hs v (a + 1)
unfolding before
linked hs fs a t e h v vin =
    let within : v < length fs = rw (length-set fs t (a + 1)) at vin in
    rw (add-one a)
    (elim (cases_eq v t) [
      | inl q ↦ ap (λ (x : ℕ). get_or (set fs t (suc a)) x 0) q ∙ get_or-set_same fs t (suc a) 0 (omega arith) ∙ sym (cond-true (eqb (tail_of hs a) v) (suc a) (before hs v a) (eq-eqb (tail_of hs a) v (sym e ∙ sym q)))
      | inr n ↦ get_or-set_other fs t v (suc a) 0 n ∙ h v within ∙ sym (cond-false (eqb (tail_of hs a) v) (suc a) (before hs v a) (ne_eqb (tail_of hs a) v (λ q. n (sym q ∙ sym e))))
    ])

pub linked_next : (hs ns : List ℕ) (a x : ℕ) → a < length ns → x ≡ before hs (tail_of hs a) a → ((b : ℕ) → b < a → get_or ns b 0 ≡ before hs (tail_of hs b) b) → (b : ℕ) → b < a + 1 → get_or (set ns a x) b 0 ≡ before hs (tail_of hs b) b
linked_next hs ns a x ain e h b bin =
    elim (cases_eq b a) [
      | inl q ↦ rw q (get_or-set_same ns a x 0 ain ∙ e)
      | inr n ↦ get_or-set_other ns a b x 0 n ∙ h b (omega arith)
    ]
