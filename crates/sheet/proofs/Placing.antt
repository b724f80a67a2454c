-- Text that grows at its end, in the middle of an output.
use Rattle.std.proofs.Common.{◌≡◌, ℕ, zero, suc, ◌+◌, ◌-◌, ◌*◌, ◌<◌, ◌≤◌, List, [], ◌∷◌, ◌++◌, length, take, drop, set, sym, refl, ap, ◌∙◌, mul-suc, add-one, arith}
use borrow.Rule.Slice.PartMut.{put_mid}
use Rattle.std.proofs.lemmas.List.{append_assoc, length-append, length-take-le, length-drop, take_at, drop_at, drop-drop, set_split, take-append-drop}
use Rattle.drawing.specs.Counts.{Within}
use Rattle.drawing.proofs.Sums.{earlier, last}
use Rattle.sheet.specs.Columns.{placed, text_to}

-- no text leaves the output as it was
pub placed_none : (xs : List ℕ) (a : ℕ) → xs ≡ placed xs a []
placed_none xs a = let p : a + 0 ≡ a = omega arith in rw p (sym (take-append-drop a xs))

-- one byte written
pub placed_one : (xs : List ℕ) (n y : ℕ) → n < length xs → set xs n y ≡ placed xs n (y ∷ [])
placed_one xs n y h = set_split xs n y h ∙ ap (λ k. take n xs ++ (y ∷ drop k xs)) (sym (add-one n))

-- what a loan of the bytes from place a to place e leaves
pub lent : (xs ys b : List ℕ) (a e : ℕ) → ys ≡ b → e ≡ a + length b → put_mid a (e - a) xs ys ≡ placed xs a b
lent xs ys b a e is h =
    let p : e - a ≡ length b = omega arith in
    rw p (rw is (ap (λ t. take a xs ++ (b ++ t)) (drop-drop (length b) a xs)))

module _ (xs : List ℕ) (a : ℕ) (b : List ℕ) (fits : a + length b ≤ length xs) where
  front_length : length (take a xs ++ b) ≡ a + length b
  front_length = length-append (take a xs) b ∙ ap (λ k. k + length b) (length-take-le a xs (omega arith))

  placed_is : placed xs a b ≡ (take a xs ++ b) ++ drop (a + length b) xs
  placed_is = sym (append_assoc (take a xs) b (drop (a + length b) xs))

  length_placed : length (placed xs a b) ≡ length xs
  length_placed =
      ap length placed_is ∙ length-append (take a xs ++ b) (drop (a + length b) xs) ∙ omega (arith, front_length, length-drop (a + length b) xs)

  -- the text c right after the text b is the text b ++ c
  pub placed_more : (out c : List ℕ) (n : ℕ) → out ≡ placed xs a b → n ≡ a + length b → placed out n c ≡ placed xs a (b ++ c)
  placed_more out c n e at =
      let o : out ≡ (take a xs ++ b) ++ drop (a + length b) xs = e ∙ placed_is in
      let h : length (take a xs ++ b) ≡ n = front_length ∙ sym at in
      let t : take n out ≡ take a xs ++ b = ap (take n) o ∙ take_at (take a xs ++ b) (drop (a + length b) xs) n h in
      let d : drop n out ≡ drop (a + length b) xs = ap (drop n) o ∙ drop_at (take a xs ++ b) (drop (a + length b) xs) n h in
      let l : a + length b + length c ≡ a + length (b ++ c) = omega (arith, length-append b c) in
      let r : drop (n + length c) out ≡ drop (a + length (b ++ c)) xs =
      sym (drop-drop (length c) n out) ∙ ap (drop (length c)) d ∙ drop-drop (length c) (a + length b) xs ∙ ap (λ k. drop k xs) l in
      rw t
      (rw r
      (append_assoc (take a xs) b (c ++ drop (a + length (b ++ c)) xs)
      ∙ ap (λ z. take a xs ++ z) (sym (append_assoc b c (drop (a + length (b ++ c)) xs)))))

  -- one byte right after the text b
  pub byte_more : (out : List ℕ) (n y : ℕ) → out ≡ placed xs a b → n ≡ a + length b → n < length xs → set out n y ≡ placed xs a (b ++ (y ∷ []))
  byte_more out n y e at h =
      let k : length out ≡ length xs = ap length e ∙ length_placed in
      placed_one out n y (omega (arith, k)) ∙ placed_more out (y ∷ []) n e at

-- one byte, and the text b right after it
pub placed_after : (xs out : List ℕ) (a y : ℕ) (b : List ℕ) → a < length xs → out ≡ placed (set xs a y) (a + 1) b → out ≡ placed xs a (y ∷ b)
placed_after xs out a y b h e = e ∙ placed_more xs a (y ∷ []) (omega arith) (set xs a y) b (a + 1) (placed_one xs a y h) refl

-- n texts of the length w
pub length_text_to : (w n : ℕ) (f : ℕ → List ℕ) → ((k : ℕ) → Within n k → length (f k) ≡ w) → length (text_to n f) ≡ w * n
length_text_to w zero f each = omega arith
length_text_to w (suc n) f each =
    length-append (text_to n f) (f (suc n)) ∙ step w n (length (text_to n f)) (length (f (suc n))) (length_text_to w n f (λ k i. each k (earlier i))) (each (suc n) (last n))
  where
    step : (w n a b : ℕ) → a ≡ w * n → b ≡ w → a + b ≡ w * suc n
    step w n a b p q = rw mul-suc (omega arith)

-- text i + 1 right after the first i
pub text_more : (w n : ℕ) (f : ℕ → List ℕ) → ((k : ℕ) → Within n k → length (f k) ≡ w) → (xs out after : List ℕ) (a i : ℕ)
    → i < n → a + w * i ≤ length xs → out ≡ placed xs a (text_to i f) → after ≡ placed out (a + w * i) (f (suc i)) → after ≡ placed xs a (text_to (i + 1) f)
text_more w n f each xs out after a i h fits before e =
    let long : length (text_to i f) ≡ w * i = length_text_to w i f (λ k j. each k (omega arith)) in
    e ∙ placed_more xs a (text_to i f) (omega arith) out (f (suc i)) (a + w * i) before (omega arith) ∙ ap (λ k. placed xs a (text_to k f)) (sym (add-one i))
