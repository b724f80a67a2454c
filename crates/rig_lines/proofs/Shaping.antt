-- The fields of a line from the places where the code finds them.
use Rattle.std.proofs.Common.{◌≡◌, ℕ, ◌+◌, ◌-◌, min, Bool, true, false, List, [], ◌∷◌, length, take, drop, Some, None, Option, ap, ◌∙◌, arith}
use Rattle.std.specs.Bool.{then_some as when_true}
use Rattle.std.proofs.lemmas.List.{take_rest, drop_all}
use Rattle.rig_lines.specs.Codes.{kind_of}
use Rattle.rig_lines.specs.Fields.{Part, next, part_at, ends_at, lone}
use Rattle.rig_lines.specs.Shapes.{remark_of, and_then, second, third, fourth, two_parts, three_parts, four_parts}

ended : {A : Type 0} {t : Bool} {x y : A} → true ≡ t → x ≡ y → Some x ≡ when_true t y
ended {y = y} e p = ap Some p ∙ ap (λ b. when_true b y) e

not_ended : {A : Type 0} {t : Bool} (y : A) → false ≡ t → None ≡ when_true t y
not_ended y e = ap (λ b. when_true b y) e

-- the places a, b, c, d that the code finds one after another are those of the fields after the letter
module _ (s : ℕ) (l : List ℕ) {a b : ℕ} (at_a : a ≡ next l 0) (at_b : b ≡ next l a) where
  b_is : b ≡ second l
  b_is = at_b ∙ ap (next l) at_a

  pub two_parts_lem : {p q : Part} → true ≡ ends_at l b → p ≡ part_at s l a → q ≡ part_at s l b → Some (p, q) ≡ two_parts s l
  unfolding two_parts
  two_parts_lem e x y = ended (e ∙ ap (ends_at l) b_is) (λ i. ((x ∙ ap (part_at s l) at_a) i, (y ∙ ap (part_at s l) b_is) i))

  pub not_two : false ≡ ends_at l b → None ≡ two_parts s l
  unfolding two_parts
  not_two e = not_ended _ (e ∙ ap (ends_at l) b_is)

  module _ {c : ℕ} (at_c : c ≡ next l b) where
    c_is : c ≡ third l
    c_is = at_c ∙ ap (next l) b_is

    pub three_parts_lem : {p q r : Part} → true ≡ ends_at l c → p ≡ part_at s l a → q ≡ part_at s l b → r ≡ part_at s l c → Some (p, q, r) ≡ three_parts s l
    unfolding three_parts
    three_parts_lem e x y z =
        ended (e ∙ ap (ends_at l) c_is) (λ i. ((x ∙ ap (part_at s l) at_a) i, (y ∙ ap (part_at s l) b_is) i, (z ∙ ap (part_at s l) c_is) i))

    pub not_three : false ≡ ends_at l c → None ≡ three_parts s l
    unfolding three_parts
    not_three e = not_ended _ (e ∙ ap (ends_at l) c_is)

    module _ {d : ℕ} (at-d : d ≡ next l c) where
      d_is : d ≡ fourth l
      d_is = at-d ∙ ap (next l) c_is

      pub four_parts_lem : {p q r t : Part} → true ≡ ends_at l d → p ≡ part_at s l a → q ≡ part_at s l b → r ≡ part_at s l c → t ≡ part_at s l d → Some (p, q, r, t) ≡ four_parts s l
      unfolding four_parts
      four_parts_lem e x y z w =
          ended (e ∙ ap (ends_at l) d_is) (λ i. ((x ∙ ap (part_at s l) at_a) i, (y ∙ ap (part_at s l) b_is) i, (z ∙ ap (part_at s l) c_is) i, (w ∙ ap (part_at s l) d_is) i))

      pub not_four : false ≡ ends_at l d → None ≡ four_parts s l
      unfolding four_parts
      not_four e = not_ended _ (e ∙ ap (ends_at l) d_is)

pub then_some : {A B : Type 0} {o : Option A} {a : A} (f : A → Option B) → o ≡ Some a → and_then o f ≡ f a
then_some f e = ap (λ o. and_then o f) e

pub then_none : {A B : Type 0} {o : Option A} (f : A → Option B) → o ≡ None → and_then o f ≡ None
then_none f e = ap (λ o. and_then o f) e

-- the kind that a field tells is that of its bytes
pub word_of : (p q : Part) → p ≡ q → and_then (lone p.bytes) kind_of ≡ and_then (lone q.bytes) kind_of
word_of p q e = ap (λ (x : Part). and_then (lone x.bytes) kind_of) e

pub after_two : (s : ℕ) (l : List ℕ) (i : ℕ) → i ≡ min (length l) 2 → ◌≡◌ {A = Part} (record { bytes = take (length l - i) (drop i l); at = s + i }) (remark_of s l)
after_two s l i e =
    let b : take (length l - i) (drop i l) ≡ drop 2 l = take_rest l i ∙ rest l i e in
    let a : i ≡ min 2 (length l) = omega arith in
    ap (λ bs. record { bytes = bs; at = s + i }) b ∙ ap (λ k. record { bytes = drop 2 l; at = s + k }) a
  where
    rest : (l : List ℕ) (i : ℕ) → i ≡ min (length l) 2 → drop i l ≡ drop 2 l
    rest [] i e = drop_all i [] (omega arith)
    rest (x ∷ []) i e = ap (λ k. drop k (x ∷ [])) e
    rest (x ∷ (y ∷ l)) i e = let t : i ≡ 2 = omega arith in ap (λ k. drop k (x ∷ (y ∷ l))) t
