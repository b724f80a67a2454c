-- Laws of `sum_to`.
use Rattle.std.proofs.Common.{◌≡◌, ℕ, zero, suc, ◌+◌, ◌≤◌, Bool, true, false, eqb, sym, refl, ap, ◌∙◌, ap₂, ⊎_elim, arith}
use Rattle.std.proofs.lemmas.Bool.{cases_eq, eq-eqb, ne_eqb}
use Rattle.drawing.specs.Counts.{Within, sum_to, only}

-- what holds at 1 .. n + 1 holds at 1 .. n and at n + 1
pub earlier : {n k : ℕ} → Within n k → Within (suc n) k
earlier w = omega arith

pub last : (n : ℕ) → Within (suc n) (suc n)
last n = omega arith

pub sum_same : (n : ℕ) (f g : ℕ → ℕ) → ((k : ℕ) → Within n k → f k ≡ g k) → sum_to n f ≡ sum_to n g
sum_same zero f g h = refl
sum_same (suc n) f g h = ap₂ ◌+◌ (sum_same n f g (λ k w. h k (earlier w))) (h (suc n) (last n))

pub sum_below : (n : ℕ) (f g : ℕ → ℕ) → ((k : ℕ) → Within n k → f k ≤ g k) → sum_to n f ≤ sum_to n g
sum_below zero f g h = omega arith
sum_below (suc n) f g h = omega (arith, sum_below n f g (λ k w. h k (earlier w)), h (suc n) (last n))

pub sum_zero : (n : ℕ) → sum_to n (λ k. 0) ≡ 0
sum_zero zero = refl
sum_zero (suc n) = omega (arith, sum_zero n)

pub sum_none : (n : ℕ) (f : ℕ → ℕ) → ((k : ℕ) → Within n k → f k ≡ 0) → sum_to n f ≡ 0
sum_none n f h = sum_same n f (λ k. 0) h ∙ sum_zero n

pub sum_plus : (n : ℕ) (f g : ℕ → ℕ) → sum_to n (λ k. f k + g k) ≡ sum_to n f + sum_to n g
sum_plus zero f g = refl
sum_plus (suc n) f g = omega (arith, sum_plus n f g)

-- the order of two sums can be exchanged
pub sum_swap : (n m : ℕ) (a : ℕ → ℕ → ℕ) → sum_to n (λ v. sum_to m (λ k. a k v)) ≡ sum_to m (λ k. sum_to n (λ v. a k v))
sum_swap zero m a = sym (sum_zero m)
sum_swap (suc n) m a = ap (λ x. x + sum_to m (λ k. a k (suc n))) (sum_swap n m a) ∙ sym (sum_plus m (λ k. sum_to n (a k)) (λ k. a k (suc n)))

-- a test in front of a sum stands before each of its terms
pub only_sum : (b : Bool) (m : ℕ) (f : ℕ → ℕ) → only b (sum_to m f) ≡ sum_to m (λ k. only b (f k))
only_sum true m f = refl
only_sum false m f = sym (sum_zero m)

pub only_plus : (b : Bool) (x y : ℕ) → only b (x + y) ≡ only b x + only b y
only_plus true x y = refl
only_plus false x y = refl

pub only_zero : (b : Bool) → only b 0 ≡ 0
only_zero true = refl
only_zero false = refl

pub only_le : (b : Bool) (x : ℕ) → only b x ≤ x
only_le true x = omega arith
only_le false x = omega arith

-- of the terms tested by `w = v` only that at w is left
hit : (b : Bool) (w v x : ℕ) → w ≡ v → only b (only (eqb w v) x) ≡ only b x
hit b w v x e = ap (λ t. only b (only t x)) (eq-eqb w v e)

miss : (b : Bool) (w v x : ℕ) → (w ≡ v → ⊥) → only b (only (eqb w v) x) ≡ 0
miss b w v x ne = ap (λ t. only b (only t x)) (ne_eqb w v ne) ∙ only_zero b

module _ (n w x : ℕ) (s : ℕ → Bool) where
  abbrev tested : ℕ → ℕ
  tested v = only (s v) (only (eqb w v) x)

  pick_last : w ≡ suc n → sum_to (suc n) tested ≡ only (s w) x
  pick_last e =
      omega (arith, sum_none n tested (λ k i. miss (s k) w k x (λ q. omega arith)), hit (s (suc n)) w (suc n) x e, ap (λ t. only (s t) x) e)

  pick_before : sum_to n tested ≡ only (s w) x → (w ≡ suc n → ⊥) → sum_to (suc n) tested ≡ only (s w) x
  pick_before ih ne = omega (arith, ih, miss (s (suc n)) w (suc n) x ne)

pub sum_pick : (n w x : ℕ) (s : ℕ → Bool) → Within n w → sum_to n (λ v. only (s v) (only (eqb w v) x)) ≡ only (s w) x
sum_pick zero w x s h = omega arith
sum_pick (suc n) w x s h =
    ⊎_elim (pick_last n w x s) (λ ne. pick_before n w x s (sum_pick n w x s (omega arith)) ne) (cases_eq w (suc n))

-- the sum over the points of what the runs bring to them, at the points that pass the test s: each run brings x to h and y to t
spread : (n h t x y : ℕ) (s : ℕ → Bool) → Within n h → Within n t
    → sum_to n (λ v. only (s v) (only (eqb h v) x + only (eqb t v) y)) ≡ only (s h) x + only (s t) y
spread n h t x y s ih it =
    sum_same n _ (λ v. only (s v) (only (eqb h v) x) + only (s v) (only (eqb t v) y)) (λ v w. only_plus (s v) _ _)
    ∙ sum_plus n _ _ ∙ ap₂ ◌+◌ (sum_pick n h x s ih) (sum_pick n t y s it)

pub gather : (n m : ℕ) (h t x y : ℕ → ℕ) (s : ℕ → Bool) → ((k : ℕ) → Within m k → Within n (h k)) → ((k : ℕ) → Within m k → Within n (t k))
    → sum_to n (λ v. only (s v) (sum_to m (λ k. only (eqb (h k) v) (x k) + only (eqb (t k) v) (y k))))
    ≡ sum_to m (λ k. only (s (h k)) (x k) + only (s (t k)) (y k))
gather n m h t x y s ih it =
    sum_same n _ (λ v. sum_to m (λ k. only (s v) (only (eqb (h k) v) (x k) + only (eqb (t k) v) (y k)))) (λ v w. only_sum (s v) m _)
    ∙ sum_swap n m (λ k v. only (s v) (only (eqb (h k) v) (x k) + only (eqb (t k) v) (y k)))
    ∙ sum_same m _ _ (λ k w. spread n (h k) (t k) (x k) (y k) s (ih k w) (it k w))

-- the one term at v
pub sum_at : (n v : ℕ) (f : ℕ → ℕ) → Within n v → sum_to n (λ u. only (eqb u v) (f u)) ≡ f v
sum_at zero v f w = omega arith
sum_at (suc n) v f w = ⊎_elim (at_last n v f) (λ ne. at_earlier n v f (sum_at n v f (omega arith)) ne) (cases_eq v (suc n))
  where
    at_last : (n v : ℕ) (f : ℕ → ℕ) → v ≡ suc n → sum_to (suc n) (λ u. only (eqb u v) (f u)) ≡ f v
    at_last n v f e =
        omega (arith, sum_none n (λ u. only (eqb u v) (f u)) (λ u i. miss true u v (f u) (λ q. omega arith)), hit true (suc n) v (f (suc n)) (sym e), ap f e)

    at_earlier : (n v : ℕ) (f : ℕ → ℕ) → sum_to n (λ u. only (eqb u v) (f u)) ≡ f v → (v ≡ suc n → ⊥) → sum_to (suc n) (λ u. only (eqb u v) (f u)) ≡ f v
    at_earlier n v f ih ne = omega (arith, ih, miss true (suc n) v (f (suc n)) (λ q. ne (sym q)))
