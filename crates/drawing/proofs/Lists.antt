-- Sums and tests over the numbers 1 to n, where they read the items of a list of n, are those of the list.
use Rattle.std.proofs.Common.{◌≡◌, ℕ, zero, suc, ◌+◌, ◌<◌, Bool, true, false, cond, ◌&&◌, ◌||◌, List, [], ◌∷◌, length, get_or, sym, refl, ap, ◌∙◌, ap₂, arith}
use Rattle.std.specs.List.{list_any, list_all, sum_by, count_by, zip}
use Rattle.std.proofs.Math.Bool.{or_assoc, and_assoc}
use Rattle.std.proofs.lemmas.List.Sums.{sum_by-cons}
use Rattle.std.proofs.lemmas.Slice.Zip.{length-zip}
use Rattle.drawing.specs.Counts.{sum_to, some_to, every_to, count_to, only, nth}

-- the first of 1 .. n + 1, then the others
sum_first : (n : ℕ) (f : ℕ → ℕ) → sum_to (suc n) f ≡ f 1 + sum_to n (λ k. f (suc k))
sum_first zero f = omega arith
sum_first (suc n) f = let e = sum_first n f in omega arith

some_first : (n : ℕ) (t : ℕ → Bool) → some_to (suc n) t ≡ (t 1 || some_to n (λ k. t (suc k)))
some_first zero t = grind arith
some_first (suc n) t = ap (λ b. b || t (suc (suc n))) (some_first n t) ∙ or_assoc (t 1) (some_to n (λ k. t (suc k))) (t (suc (suc n)))

every_first : (n : ℕ) (t : ℕ → Bool) → every_to (suc n) t ≡ (t 1 && every_to n (λ k. t (suc k)))
every_first zero t = grind arith
every_first (suc n) t = ap (λ b. b && t (suc (suc n))) (every_first n t) ∙ and_assoc (t 1) (every_to n (λ k. t (suc k))) (t (suc (suc n)))

-- what f is at each number of an item, h is at the item
abbrev pub Reads : {X Y : Type 0} → (ℕ → Y) → (X → Y) → List X → Type 0
Reads {X} f h xs = (k : ℕ) (d : X) → k < length xs → f (suc k) ≡ h (get_or xs k d)

later : {X Y : Type 0} (f : ℕ → Y) (h : X → Y) (x : X) (xs : List X) → Reads f h (x ∷ xs) → Reads (λ k. f (suc k)) h xs
later f h x xs r k d l = r (suc k) d (omega arith)

pub sum_reads : {X : Type 0} (f : ℕ → ℕ) (h : X → ℕ) (xs : List X) → Reads f h xs → sum_to (length xs) f ≡ sum_by h xs
sum_reads f h [] r = refl
sum_reads f h (x ∷ xs) r = sum_first (length xs) f ∙ ap₂ ◌+◌ (r 0 x (omega arith)) (sum_reads (λ k. f (suc k)) h xs (later f h x xs r)) ∙ sym (sum_by-cons h x xs)

pub some_reads : {X : Type 0} (t : ℕ → Bool) (h : X → Bool) (xs : List X) → Reads t h xs → some_to (length xs) t ≡ list_any h xs
some_reads t h [] r = refl
some_reads t h (x ∷ xs) r = some_first (length xs) t ∙ ap₂ ◌||◌ (r 0 x (omega arith)) (some_reads (λ k. t (suc k)) h xs (later t h x xs r))

pub every_reads : {X : Type 0} (t : ℕ → Bool) (h : X → Bool) (xs : List X) → Reads t h xs → every_to (length xs) t ≡ list_all h xs
every_reads t h [] r = refl
every_reads t h (x ∷ xs) r = every_first (length xs) t ∙ ap₂ ◌&&◌ (r 0 x (omega arith)) (every_reads (λ k. t (suc k)) h xs (later t h x xs r))

only_cond : (b : Bool) (x : ℕ) → only b x ≡ cond b x 0
only_cond true x = refl
only_cond false x = refl

pub count_reads : {X : Type 0} (t : ℕ → Bool) (h : X → Bool) (xs : List X) → Reads t h xs → count_to (length xs) t ≡ count_by h xs
count_reads t h xs r = sum_reads (λ k. only (t k) 1) (λ x. cond (h x) 1 0) xs (λ k d l. only_cond (t (suc k)) 1 ∙ ap (λ b. cond b 1 0) (r k d l))

-- an item at another default
items : {X Y : Type 0} (h : X → Y) (d : X) (xs : List X) → Reads (λ k. h (nth xs k d)) h xs
items h d [] k e l = let no_such : ⊥ = omega arith in absurd no_such
items h d (x ∷ xs) zero e l = refl
items h d (x ∷ xs) (suc k) e l = items h d xs k e (omega arith)

module _ {X : Type 0} (d : X) (xs : List X) where
  pub sum_items : (f : X → ℕ) → sum_to (length xs) (λ k. f (nth xs k d)) ≡ sum_by f xs
  sum_items f = sum_reads _ f xs (items f d xs)

  pub some_items : (t : X → Bool) → some_to (length xs) (λ k. t (nth xs k d)) ≡ list_any t xs
  some_items t = some_reads _ t xs (items t d xs)

  pub every_items : (t : X → Bool) → every_to (length xs) (λ k. t (nth xs k d)) ≡ list_all t xs
  every_items t = every_reads _ t xs (items t d xs)

  pub count_items : (t : X → Bool) → count_to (length xs) (λ k. t (nth xs k d)) ≡ count_by t xs
  count_items t = count_reads _ t xs (items t d xs)

-- the pairs of two lists of one length
pairs : {X Y Z : Type 0} (h : X × Y → Z) (d : X) (e : Y) (xs : List X) (ys : List Y) → length ys ≡ length xs → Reads (λ k. h (nth xs k d, nth ys k e)) h (zip xs ys)
pairs h d e [] ys same k p l = let no_such : ⊥ = omega arith in absurd no_such
pairs h d e (x ∷ xs) [] same k p l = let no_such : ⊥ = omega arith in absurd no_such
pairs h d e (x ∷ xs) (y ∷ ys) same zero p l = refl
pairs h d e (x ∷ xs) (y ∷ ys) same (suc k) p l = pairs h d e xs ys (omega arith) k p (omega arith)

module _ {X Y : Type 0} (d : X) (e : Y) (xs : List X) (ys : List Y) (same : length ys ≡ length xs) where
  zipped : length xs ≡ length (zip xs ys)
  zipped = let l = length-zip xs ys in omega arith

  pub sum_pairs : (f : X × Y → ℕ) → sum_to (length xs) (λ k. f (nth xs k d, nth ys k e)) ≡ sum_by f (zip xs ys)
  sum_pairs f = ap (λ n. sum_to n (λ k. f (nth xs k d, nth ys k e))) zipped ∙ sum_reads _ f (zip xs ys) (pairs f d e xs ys same)

  pub some_pairs : (t : X × Y → Bool) → some_to (length xs) (λ k. t (nth xs k d, nth ys k e)) ≡ list_any t (zip xs ys)
  some_pairs t = ap (λ n. some_to n (λ k. t (nth xs k d, nth ys k e))) zipped ∙ some_reads _ t (zip xs ys) (pairs t d e xs ys same)

  pub every_pairs : (t : X × Y → Bool) → every_to (length xs) (λ k. t (nth xs k d, nth ys k e)) ≡ list_all t (zip xs ys)
  every_pairs t = ap (λ n. every_to n (λ k. t (nth xs k d, nth ys k e))) zipped ∙ every_reads _ t (zip xs ys) (pairs t d e xs ys same)
