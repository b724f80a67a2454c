-- The k-th of a list, counted from 1, of lists that are appended, mapped and picked from; and sums over them.
use Rattle.std.proofs.Common.{◌≡◌, ℕ, zero, suc, ◌+◌, ◌≤◌, Bool, true, false, cond, List, [], ◌∷◌, ◌++◌, map, length, filter, sym, refl, ap, ◌∙◌, subst, ⊎_elim, true≢false, add-zero, add-suc, zero-add, add-one, one-add, arith}
use Rattle.std.specs.List.{range_with_len}
use Rattle.std.proofs.lemmas.List.{get_or_append_left, get_or-append-add, get_or-map}
use Rattle.std.proofs.lemmas.Bool.{cases_eq, cases_Bool}
use Rattle.std.proofs.lemmas.List.FromFn.{get_or-map-range_with_len}
use Rattle.drawing.specs.Counts.{Within, sum_to, only, count_to, nth}
use Rattle.drawing.proofs.Sums.{earlier, last, sum_same}

-- the first term, or the last terms, by themselves
pub sum_first : (n : ℕ) (f : ℕ → ℕ) → sum_to (suc n) f ≡ f 1 + sum_to n (λ k. f (suc k))
sum_first zero f = omega arith
sum_first (suc n) f = omega (arith, sum_first n f)

pub sum_append : (n m : ℕ) (f : ℕ → ℕ) → sum_to (n + m) f ≡ sum_to n f + sum_to m (λ k. f (n + k))
sum_append n zero f = rw (add-zero n) (omega arith)
sum_append n (suc m) f = rw add-suc (omega (arith, sum_append n m f))

-- a sum over those that pass a test, which are numbered anew
one_more : (b : Bool) (c : ℕ) (g : ℕ → ℕ) → sum_to (c + only b 1) g ≡ sum_to c g + only b (g (c + only b 1))
one_more true c g = rw add-one refl
one_more false c g = rw (add-zero c) (omega arith)

pub sum_picked : (n : ℕ) (t : ℕ → Bool) (g : ℕ → ℕ) → sum_to (count_to n t) g ≡ sum_to n (λ k. only (t k) (g (count_to k t)))
sum_picked zero t g = refl
sum_picked (suc n) t g = omega (arith, one_more (t (suc n)) (count_to n t) g, sum_picked n t g)

module _ {A : Type 0} where
  pub nth_cons : (x : A) (xs : List A) (k : ℕ) (d : A) → 1 ≤ k → nth (x ∷ xs) (suc k) d ≡ nth xs k d
  nth_cons x xs zero d h = let no_such : ⊥ = omega arith in absurd no_such
  nth_cons x xs (suc k) d h = refl

  pub nth_front : (xs ys : List A) (k : ℕ) (d : A) → Within (length xs) k → nth (xs ++ ys) k d ≡ nth xs k d
  nth_front xs ys zero d w = refl
  nth_front xs ys (suc k) d w = get_or_append_left xs ys d k (omega arith)

  pub nth_rest : (xs ys : List A) (k : ℕ) (d : A) → 1 ≤ k → nth (xs ++ ys) (length xs + k) d ≡ nth ys k d
  nth_rest xs ys zero d h = let no_such : ⊥ = omega arith in absurd no_such
  nth_rest xs ys (suc k) d h = rw add-suc (get_or-append-add xs ys k d)

pub nth_map : {A B : Type 0} (f : A → B) (xs : List A) (k : ℕ) (d : A) (e : B) → Within (length xs) k → nth (map f xs) k e ≡ f (nth xs k d)
nth_map f xs zero d e w = let no_such : ⊥ = omega arith in absurd no_such
nth_map f xs (suc k) d e w = get_or-map f xs k d e (omega arith)

pub nth_made : {B : Type 0} (f : ℕ → B) (n k : ℕ) (e : B) → Within n k → nth (map f (range_with_len 1 n)) k e ≡ f k
nth_made f n zero e w = let no_such : ⊥ = omega arith in absurd no_such
nth_made f n (suc k) e w = get_or-map-range_with_len f 1 n k (suc k) e (omega arith) (omega arith)

module _ {A : Type 0} (p : A → Bool) (d : A) where
  -- how many of the first k pass
  abbrev passed : List A → ℕ → ℕ
  passed xs k = count_to k (λ i. p (nth xs i d))

  passed_cons : (x : A) (xs : List A) (k : ℕ) → passed (x ∷ xs) (suc k) ≡ only (p x) 1 + passed xs k
  passed_cons x xs k =
      sum_first k (λ i. only (p (nth (x ∷ xs) i d)) 1)
      ∙ ap (λ z. only (p x) 1 + z) (sum_same k _ _ (λ i w. ap (λ y. only (p y) 1) (nth_cons x xs i d w.0)))

  length_kept : (b : Bool) (x : A) (ks : List A) (n : ℕ) → length ks ≡ n → length (cond b (x ∷ ks) ks) ≡ only b 1 + n
  length_kept true x ks n e = omega arith
  length_kept false x ks n e = omega arith

  pub length_picked : (xs : List A) → length (filter p xs) ≡ passed xs (length xs)
  length_picked [] = refl
  length_picked (x ∷ xs) = length_kept (p x) x _ _ (length_picked xs) ∙ sym (passed_cons x xs (length xs))

  kept_first : (b : Bool) (x : A) (ks : List A) → b ≡ true → nth (cond b (x ∷ ks) ks) (0 + only b 1) d ≡ x
  kept_first true x ks e = refl
  kept_first false x ks e = absurd (true≢false (sym e))

  kept_later : (b : Bool) (x : A) (ks : List A) (c : ℕ) → 1 ≤ c → nth (cond b (x ∷ ks) ks) (only b 1 + c) d ≡ nth ks c d
  kept_later true x ks c h = rw one-add (nth_cons x ks c d h)
  kept_later false x ks c h = rw zero-add refl

  -- the k-th of a list, where it passes, has the number among those that pass that counts it in
  pub nth_picked : (xs : List A) (k : ℕ) → Within (length xs) k → p (nth xs k d) ≡ true → nth (filter p xs) (passed xs k) d ≡ nth xs k d
  nth_picked [] k w e = let no_such : ⊥ = omega arith in absurd no_such
  nth_picked (x ∷ xs) zero w e = let no_such : ⊥ = omega arith in absurd no_such
  nth_picked (x ∷ xs) (suc zero) w e = kept_first (p x) x (filter p xs) e
  nth_picked (x ∷ xs) (suc (suc j)) w e =
      ap (λ c. nth (filter p (x ∷ xs)) c d) (passed_cons x xs (suc j))
      ∙ kept_later (p x) x (filter p xs) (passed xs (suc j)) (omega (arith, ap (λ b. only b 1) e))
      ∙ nth_picked xs (suc j) (omega arith) e

pub sum_longer : (n k : ℕ) (f : ℕ → ℕ) → k ≤ n → sum_to k f ≤ sum_to n f
sum_longer zero k f h = let e : k ≡ 0 = omega arith in rw e (omega arith)
sum_longer (suc n) k f h =
    ⊎_elim (λ (e : k ≡ suc n). rw e (omega arith)) (λ (e : k ≡ suc n → ⊥). omega (arith, sum_longer n k f (omega arith))) (cases_eq k (suc n))

-- what holds of the number of each that passes holds of 1 to how many pass
pub each_picked : (P : ℕ → Type 0) (n : ℕ) (t : ℕ → Bool) → ((k : ℕ) → Within n k → t k ≡ true → P (count_to k t)) → (j : ℕ) → Within (count_to n t) j → P j
each_picked P zero t h j w = let no_such : ⊥ = omega arith in absurd no_such
each_picked P (suc n) t h j w =
    let before = each_picked P n t (λ k i. h k (earlier i)) in
    ⊎_elim
    (λ (e : t (suc n) ≡ true). ⊎_elim
    (λ (q : j ≡ count_to (suc n) t). subst P (sym q) (h (suc n) (last n) e))
    (λ (q : j ≡ count_to (suc n) t → ⊥). before j (omega (arith, ap (λ b. only b 1) e)))
    (cases_eq j (count_to (suc n) t)))
    (λ (e : t (suc n) ≡ false). before j (omega (arith, ap (λ b. only b 1) e)))
    (cases_Bool (t (suc n)))

pub only_same : (b : Bool) (x y : ℕ) → (b ≡ true → x ≡ y) → only b x ≡ only b y
only_same true x y h = h refl
only_same false x y h = refl
