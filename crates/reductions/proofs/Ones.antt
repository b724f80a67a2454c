-- A test that one of 1 .. n passes; sums that are as large as they can be; sums over pairs.
use Rattle.std.proofs.Common.{◌≡◌, ℕ, zero, suc, ◌+◌, ◌-◌, ◌≤◌, Bool, true, false, eqb, sym, refl, ap, ◌∙◌, subst, ⊎_elim, arith}
use Rattle.std.proofs.lemmas.Bool.{cases_eq, cases_Bool, eq-eqb, ne_eqb}
use Rattle.drawing.specs.Counts.{Within, sum_to, only, count_to}
use Rattle.reductions.specs.LowerBounds.{the_one}
use Rattle.drawing.proofs.Sums.{earlier, last, sum_same, sum_below, sum_none, sum_swap, sum_pick, sum_at, only_sum}

-- none passes
count_none : (n : ℕ) (t : ℕ → Bool) → count_to n t ≡ 0 → (v : ℕ) → Within n v → t v ≡ false
count_none zero t e v w = let no_such : ⊥ = omega arith in absurd no_such
count_none (suc n) t e v w = ⊎_elim
    (λ (q : v ≡ suc n). ap t q ∙ off (t (suc n)) (omega arith))
    (λ (q : v ≡ suc n → ⊥). count_none n t (omega arith) v (omega arith))
    (cases_eq v (suc n))
  where
    off : (b : Bool) → only b 1 ≡ 0 → b ≡ false
    off true e = let no_such : ⊥ = omega arith in absurd no_such
    off false e = refl

pub record One (n : ℕ) (t : ℕ → Bool) (r : ℕ) : Type 0 where
  pub inside : Within n r
  pub passes : t r ≡ true
  pub alone : (v : ℕ) → Within n v → t v ≡ eqb v r

here : (n : ℕ) (t : ℕ → Bool) → t (suc n) ≡ true → count_to n t ≡ 0 → One (suc n) t (suc n)
here n t e z = record {
  inside = last n;
  passes = e;
  alone = λ v w. ⊎_elim
      (λ (q : v ≡ suc n). ap t q ∙ e ∙ sym (eq-eqb v (suc n) q))
      (λ (q : v ≡ suc n → ⊥). count_none n t z v (omega arith) ∙ sym (ne_eqb v (suc n) q))
      (cases_eq v (suc n));
}

before : (n : ℕ) (t : ℕ → Bool) (r : ℕ) → t (suc n) ≡ false → One n t r → One (suc n) t r
before n t r e o = record {
  inside = earlier o.inside;
  passes = o.passes;
  alone = λ v w. ⊎_elim
      (λ (q : v ≡ suc n). ap t q ∙ e ∙ sym (ne_eqb v r (λ z. let i = o.inside in omega arith)))
      (λ (q : v ≡ suc n → ⊥). o.alone v (omega arith))
      (cases_eq v (suc n));
}

pub one : (n : ℕ) (t : ℕ → Bool) → count_to n t ≡ 1 → One n t (the_one n t)
one zero t e = let no_such : ⊥ = omega arith in absurd no_such
one (suc n) t e = ⊎_elim
    (λ (q : t (suc n) ≡ true).
    let z : count_to n t ≡ 0 = omega (arith, ap (λ b. only b 1) q) in
    let s : the_one n t ≡ 0 = sum_none n (λ v. only (t v) v) (λ v w. ap (λ b. only b v) (count_none n t z v w)) in
    subst (One (suc n) t) (omega (arith, s, ap (λ b. only b (suc n)) q)) (here n t q z))
    (λ (q : t (suc n) ≡ false).
    subst (One (suc n) t) (omega (arith, ap (λ b. only b (suc n)) q)) (before n t (the_one n t) q (one n t (omega (arith, ap (λ b. only b 1) q)))))
    (cases_Bool (t (suc n)))

-- a sum over the one
pub sum_one : (n : ℕ) (t : ℕ → Bool) (r : ℕ) (f : ℕ → ℕ) → One n t r → sum_to n (λ v. only (t v) (f v)) ≡ f r
sum_one n t r f o = sum_same n _ (λ v. only (eqb v r) (f v)) (λ v w. ap (λ b. only b (f v)) (o.alone v w)) ∙ sum_at n r f o.inside

-- term by term no more, and yet as much in all
pub sum_full : (n : ℕ) (f g : ℕ → ℕ) → ((v : ℕ) → Within n v → f v ≤ g v) → sum_to n g ≤ sum_to n f → (v : ℕ) → Within n v → f v ≡ g v
sum_full zero f g h e v w = let no_such : ⊥ = omega arith in absurd no_such
sum_full (suc n) f g h e v w =
    let rest = sum_below n f g (λ k i. h k (earlier i)) in
    let top = h (suc n) (last n) in
    ⊎_elim
    (λ (q : v ≡ suc n). ap f q ∙ (let z : f (suc n) ≡ g (suc n) = omega arith in z) ∙ sym (ap g q))
    (λ (q : v ≡ suc n → ⊥). sum_full n f g (λ k i. h k (earlier i)) (omega arith) v (omega arith))
    (cases_eq v (suc n))

-- what the runs bring to the points that pass a test
pub gather₁ : (n m : ℕ) (h x : ℕ → ℕ) (s : ℕ → Bool) → ((k : ℕ) → Within m k → Within n (h k))
    → sum_to n (λ v. only (s v) (sum_to m (λ k. only (eqb (h k) v) (x k)))) ≡ sum_to m (λ k. only (s (h k)) (x k))
gather₁ n m h x s i =
    sum_same n _ (λ v. sum_to m (λ k. only (s v) (only (eqb (h k) v) (x k)))) (λ v w. only_sum (s v) m _)
    ∙ sum_swap n m (λ k v. only (s v) (only (eqb (h k) v) (x k)))
    ∙ sum_same m _ _ (λ k w. sum_pick n (h k) (x k) s (i k w))

pub sum_pairs : (n : ℕ) (f : ℕ → ℕ) → sum_to (n + n) f ≡ sum_to n (λ v. f (v + v - 1) + f (v + v))
sum_pairs zero f = refl
sum_pairs (suc n) f =
    let a : suc n + suc n ≡ suc (suc (n + n)) = omega arith in
    let b : suc n + suc n - 1 ≡ suc (n + n) = omega arith in
    omega (arith, sum_pairs n f, ap (λ z. sum_to z f) a, ap f a, ap f b)
