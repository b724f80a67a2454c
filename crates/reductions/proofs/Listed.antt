-- What is made of the numbers 1 to n, where they read the items of a list of n, is what is made of the list.
use Rattle.std.proofs.Common.{◌≡◌, ℕ, zero, suc, ◌+◌, ◌^◌, ◌<◌, ◌≤◌, Bool, true, false, cond, List, [], ◌∷◌, map, filter, length, get_or, sym, refl, ap, ◌∙◌, ap₂, arith}
use Rattle.std.specs.List.{range_with_len, zip, sum_by}
use Rattle.std.proofs.lemmas.Bool.{true≢false, false≢true}
use Rattle.std.proofs.lemmas.List.Sums.{sum_by-le-sum_by}
use Rattle.std.proofs.lemmas.Slice.Zip.{length-zip}
use Rattle.drawing.specs.declared.Run.{Run}
use Rattle.drawing.specs.Counts.{nth, sum_to}
use Rattle.drawing.specs.Drawings.{no_run}
use Rattle.drawing.proofs.Lists.{Reads, sum_items}
use Rattle.reductions.specs.Added.{added}

-- what f is at each number of an item, counted from a, h is at the item
abbrev ReadsFrom : {X Y : Type 0} → ℕ → (ℕ → Y) → (X → Y) → List X → Type 0
ReadsFrom {X} a f h xs = (k : ℕ) (d : X) → k < length xs → f (a + k) ≡ h (get_or xs k d)

from_one : {X Y : Type 0} (f : ℕ → Y) (h : X → Y) (xs : List X) → Reads f h xs → ReadsFrom 1 f h xs
from_one f h xs r k d l = let e : 1 + k ≡ suc k = omega arith in ap f e ∙ r k d l

first : {X Y : Type 0} (a : ℕ) (f : ℕ → Y) (h : X → Y) (x : X) (xs : List X) → ReadsFrom a f h (x ∷ xs) → f a ≡ h x
first a f h x xs r = let e : a ≡ a + 0 = omega arith in ap f e ∙ r 0 x (omega arith)

later : {X Y : Type 0} (a : ℕ) (f : ℕ → Y) (h : X → Y) (x : X) (xs : List X) → ReadsFrom a f h (x ∷ xs) → ReadsFrom (a + 1) f h xs
later a f h x xs r k d l = let e : a + 1 + k ≡ a + suc k = omega arith in ap f e ∙ r (suc k) d (omega arith)

made_from : {X Y : Type 0} (a : ℕ) (f : ℕ → Y) (h : X → Y) (xs : List X) → ReadsFrom a f h xs → map f (range_with_len a (length xs)) ≡ map h xs
made_from a f h [] r = refl
made_from a f h (x ∷ xs) r = ap₂ ◌∷◌ (first a f h x xs r) (made_from (a + 1) f h xs (later a f h x xs r))

pub made_reads : {X Y : Type 0} (f : ℕ → Y) (h : X → Y) (xs : List X) → Reads f h xs → map f (range_with_len 1 (length xs)) ≡ map h xs
made_reads f h xs r = made_from 1 f h xs (from_one f h xs r)

kept : {X Y : Type 0} (b c : Bool) (f : ℕ → Y) (h : X → Y) (a : ℕ) (x : X) (ks : List ℕ) (xs : List X) → b ≡ c → f a ≡ h x → map f ks ≡ map h xs → map f (cond b (a ∷ ks) ks) ≡ map h (cond c (x ∷ xs) xs)
kept true true f h a x ks xs e p q = ap₂ ◌∷◌ p q
kept true false f h a x ks xs e p q = absurd (true≢false e)
kept false true f h a x ks xs e p q = absurd (false≢true e)
kept false false f h a x ks xs e p q = q

kept_from : {X Y : Type 0} (a : ℕ) (t : ℕ → Bool) (u : X → Bool) (f : ℕ → Y) (h : X → Y) (xs : List X) → ReadsFrom a t u xs → ReadsFrom a f h xs → map f (filter t (range_with_len a (length xs))) ≡ map h (filter u xs)
kept_from a t u f h [] p q = refl
kept_from a t u f h (x ∷ xs) p q = kept (t a) (u x) f h a x _ _ (first a t u x xs p) (first a f h x xs q) (kept_from (a + 1) t u f h xs (later a t u x xs p) (later a f h x xs q))

pub added_reads : {X : Type 0} (t : ℕ → Bool) (u : X → Bool) (make : ℕ → Run) (h : X → Run) (xs : List X) → Reads t u xs → Reads make h xs → added (length xs) t make ≡ map h (filter u xs)
added_reads t u make h xs p q = kept_from 1 t u make h xs (from_one t u xs p) (from_one make h xs q)

-- the k-th of a list, counted from 1, at another default
pub reads_items : {X Y : Type 0} (h : X → Y) (d : X) (xs : List X) → Reads (λ k. h (nth xs k d)) h xs
reads_items h d [] k e l = let no_such : ⊥ = omega arith in absurd no_such
reads_items h d (x ∷ xs) zero e l = refl
reads_items h d (x ∷ xs) (suc k) e l = reads_items h d xs k e (omega arith)

-- of two lists, the second no shorter
pub reads_pairs : {X Y Z : Type 0} (h : X × Y → Z) (d : X) (e : Y) (xs : List X) (ys : List Y) → length xs ≤ length ys → Reads (λ k. h (nth xs k d, nth ys k e)) h (zip xs ys)
reads_pairs h d e [] ys same k p l = let no_such : ⊥ = omega arith in absurd no_such
reads_pairs h d e (x ∷ xs) [] same k p l = let no_such : ⊥ = omega arith in absurd no_such
reads_pairs h d e (x ∷ xs) (y ∷ ys) same zero p l = refl
reads_pairs h d e (x ∷ xs) (y ∷ ys) same (suc k) p l = reads_pairs h d e xs ys (omega arith) k p (omega arith)

module _ {X Y : Type 0} (d : X) (xs : List X) where
  pub made_items : (h : X → Y) → map (λ k. h (nth xs k d)) (range_with_len 1 (length xs)) ≡ map h xs
  made_items h = made_reads _ h xs (reads_items h d xs)

module _ {X Y : Type 0} (d : X) (e : Y) (xs : List X) (ys : List Y) (long : length xs ≤ length ys) where
  pub length_pairs : length (zip xs ys) ≡ length xs
  length_pairs = let l = length-zip xs ys in omega arith

  pub made_pairs : {Z : Type 0} (h : X × Y → Z) → map (λ k. h (nth xs k d, nth ys k e)) (range_with_len 1 (length xs)) ≡ map h (zip xs ys)
  made_pairs h = ap (λ n. map (λ k. h (nth xs k d, nth ys k e)) (range_with_len 1 n)) (sym length_pairs) ∙ made_reads _ h (zip xs ys) (reads_pairs h d e xs ys long)

-- a run for each item of a list that passes the test
pub added_items : {X : Type 0} (d : X) (xs : List X) (t : X → Bool) (make : X → Run) → added (length xs) (λ k. t (nth xs k d)) (λ k. make (nth xs k d)) ≡ map make (filter t xs)
added_items d xs t make = added_reads _ t _ make xs (reads_items t d xs) (reads_items make d xs)

-- a sum that fits, by a larger one of the same runs
pub sum_fits : (f g : Run → ℕ) (rs : List Run) → ((r : Run) → f r ≤ g r) → sum_to (length rs) (λ k. g (nth rs k no_run)) ≤ 600000000 → sum_by f rs < 2 ^ 32
sum_fits f g rs le few = omega (arith, sum_by-le-sum_by f g rs le, sum_items no_run rs g, few)
