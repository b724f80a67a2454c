-- Steps of loops that write, count or add for each of 1 .. n, one after another.
use Rattle.std.proofs.Common.{◌≡◌, ℕ, zero, suc, ◌+◌, ◌<◌, ◌≤◌, Bool, true, false, List, [], ◌∷◌, ◌++◌, map, length, get_or, take, filter, sym, refl, ap, ◌∙◌, ap₂, append_assoc, append-nil, add-zero, add-one, arith}
use Rattle.std.specs.List.{range_with_len}
use Rattle.std.proofs.lemmas.List.FromFn.{map-range_with_len_more}
use Rattle.std.proofs.lemmas.List.Elements.{filter-append}
use Rattle.std.proofs.lemmas.List.{map-append, map_more, take_more}
use Rattle.std.proofs.lemmas.Bool.{cond-true, cond-false}
use Rattle.drawing.specs.declared.Run.{Run}
use Rattle.drawing.specs.Counts.{sum_to, only, count_to, nth}
use Rattle.reductions.specs.Added.{added}

-- one more is written
pub made_more : {X : Type 0} (f : ℕ → X) (i : ℕ) → map f (range_with_len 1 (i + 1)) ≡ map f (range_with_len 1 i) ++ f (suc i) ∷ []
made_more f i = map-range_with_len_more f 1 i (suc i) (omega arith)

-- one more is summed, or counted
pub sum_next : (f : ℕ → ℕ) (i : ℕ) → sum_to (i + 1) f ≡ sum_to i f + f (suc i)
sum_next f i = rw (add-one i) refl

pub count_next : (t : ℕ → Bool) (i : ℕ) → count_to (i + 1) t ≡ count_to i t + only (t (suc i)) 1
count_next t i = sum_next (λ k. only (t k) 1) i

counting_last : (a n : ℕ) → range_with_len a (suc n) ≡ range_with_len a n ++ (a + n) ∷ []
counting_last a zero = ap (λ x. x ∷ []) (sym (add-zero a))
counting_last a (suc n) =
    let at : (a + 1) + n ≡ a + suc n = omega arith in
    ap (λ l. a ∷ l) (counting_last (a + 1) n ∙ ap (λ z. range_with_len (a + 1) n ++ z ∷ []) at)

-- a run is added for the next one, or none
module _ (t : ℕ → Bool) (make : ℕ → Run) (i : ℕ) where
  added_next : added (i + 1) t make ≡ added i t make ++ map make (filter t (suc i ∷ []))
  added_next =
      let at : 1 + i ≡ suc i = omega arith in
      ap (λ n. added n t make) (add-one i)
      ∙ ap (λ l. map make (filter t l)) (counting_last 1 i ∙ ap (λ z. range_with_len 1 i ++ z ∷ []) at)
      ∙ ap (map make) (filter-append t (range_with_len 1 i) (suc i ∷ []))
      ∙ map-append make (filter t (range_with_len 1 i)) (filter t (suc i ∷ []))

  pub added_yes : t (suc i) ≡ true → added (i + 1) t make ≡ added i t make ++ make (suc i) ∷ []
  added_yes e = added_next ∙ ap (λ l. added i t make ++ map make l) (cond-true (t (suc i)) (suc i ∷ []) [] e)

  pub added_no : t (suc i) ≡ false → added (i + 1) t make ≡ added i t make
  added_no e = added_next ∙ ap (λ l. added i t make ++ map make l) (cond-false (t (suc i)) (suc i ∷ []) [] e) ∙ append-nil (added i t make)

-- what is written so far, with what stood before, and one more
pub pushed : {X : Type 0} (out out' old new new' : List X) (x : X) → out' ≡ out ++ x ∷ [] → out ≡ old ++ new → new' ≡ new ++ x ∷ [] → out' ≡ old ++ new'
pushed out out' old new new' x p q r = p ∙ ap (λ l. l ++ x ∷ []) q ∙ append_assoc old new (x ∷ []) ∙ ap (λ l. old ++ l) (sym r)

-- the first of a list, one by one
pub front_made : {X : Type 0} (xs : List X) (d : X) (m : ℕ) → m ≤ length xs → take m xs ≡ map (λ k. nth xs k d) (range_with_len 1 m)
front_made xs d zero h = refl
front_made xs d (suc m) h =
    ap (λ n. take n xs) (sym (add-one m)) ∙ take_more xs m d (omega arith)
    ∙ ap (λ l. l ++ get_or xs m d ∷ []) (front_made xs d m (omega arith))
    ∙ sym (made_more (λ k. nth xs k d) m) ∙ ap (λ n. map (λ k. nth xs k d) (range_with_len 1 n)) (add-one m)

-- one more at the end of what is made of 1 .. i
pub made_push : {X : Type 0} (out out' : List X) (f : ℕ → X) (i : ℕ) (x : X) → out' ≡ out ++ x ∷ [] → out ≡ map f (range_with_len 1 i) → x ≡ f (suc i) → out' ≡ map f (range_with_len 1 (i + 1))
made_push out out' f i x p q r = p ∙ ap₂ (λ l y. l ++ y ∷ []) q r ∙ sym (made_more f i)

-- two more at the end
pub two_more : {X : Type 0} (xs ys zs old : List X) (x y : X) → xs ≡ old → ys ≡ xs ++ x ∷ [] → zs ≡ ys ++ y ∷ [] → zs ≡ old ++ (x ∷ y ∷ [])
two_more xs ys zs old x y p q r = r ∙ ap (λ l. l ++ y ∷ []) (q ∙ ap (λ l. l ++ x ∷ []) p) ∙ append_assoc old (x ∷ []) (y ∷ [])

-- one more of a list is mapped
pub mapped_more : {X Y : Type 0} (f : X → Y) (xs : List X) (i : ℕ) (d : X) (out out' : List Y) (y : Y) → i < length xs → out' ≡ out ++ y ∷ [] → out ≡ map f (take i xs)
    → y ≡ f (get_or xs i d) → out' ≡ map f (take (i + 1) xs)
mapped_more f xs i d out out' y h p q r = p ∙ ap₂ (λ l z. l ++ z ∷ []) q r ∙ sym (map_more f xs i d h)
