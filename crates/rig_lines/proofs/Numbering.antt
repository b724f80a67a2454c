-- A word is a number just where it is how the number is written, and the number is below ten million.
use Rattle.std.proofs.Common.{◌≡◌, ℕ, ◌+◌, ◌-◌, ◌*◌, ◌^◌, ◌<◌, ◌≤◌, Bool, true, false, cond, ◌&&◌, ◌||◌, eqb, ltb, leb, List, [], ◌∷◌, length, get_or, Some, None, decimal, Option, sym, refl, ap, ◌∙◌, subst, inl, inr, arith, lit<, rules}
use Rattle.std.specs.Char.{is_ascii_digit}
use Rattle.std.specs.List.{AllByRecursion}
use Rattle.std.specs.Str.{all_ascii_digits}
use Rattle.std.proofs.lemmas.Fmt.{digits_decimal, digits_value-decimal, decimal-digits_value, decimal_nonempty, decimal_digit, first_decimal, length-decimal-le}
use Rattle.std.proofs.lemmas.Str.Parse.{IsNumeralModel, numerals_by_fold, digits_value_short}
use Rattle.std.proofs.lemmas.Bool.{and_parts, and_cases, or_parts, and_left, and_right, or_from, leb-true, ltb-false, le-ltb, ne_eqb, eqb-false, cases_lt, cond-true, cond-false, not_from_false}
use Rattle.rig_lines.specs.Fields.{is_space, in_field}
use Rattle.rig_lines.specs.Numbers.{number_from, number_of}
use Rattle.rig_lines.proofs.Choosing.{none_some, same_some, cond_parts, unless_parts}
use Rattle.rig_lines.proofs.Parting.{Clean}

-- the number that digits write after the number n
abbrev read_on : ℕ → List ℕ → ℕ
read_on n [] = n
read_on n (c ∷ cs) = read_on (n * 10 + (c - 48)) cs

own : IsNumeralModel (λ ds. all_ascii_digits ds ≡ true) (read_on 0)
own = numerals_by_fold _ (search rules) read_on (search rules)

number_reads : (n : ℕ) (w : List ℕ) → number_from n w ≡ cond (all_ascii_digits w) (Some (read_on n w)) None
number_reads n [] = refl
number_reads n (c ∷ cs) = by_digit (is_ascii_digit c) (all_ascii_digits cs) (read_on (n * 10 + (c - 48)) cs) (number_reads (n * 10 + (c - 48)) cs)
  where
    by_digit : (b t : Bool) (y : ℕ) {x : Option ℕ} → x ≡ cond t (Some y) None → cond b x None ≡ cond (b && t) (Some y) None
    by_digit true t y e = e
    by_digit false t y e = refl

-- ten million is far from the end of the numbers that std writes
small : (n : ℕ) → n < 10 ^ 7 → n < 2 ^ 64
small n h = omega arith

only : (w : List ℕ) → (ltb 1 (length w) && eqb (get_or w 0 0) 48) ≡ false → eqb (length w) 0 ≡ false → get_or w 0 0 ≡ 48 → length w ≡ 1
only w e f z =
    let not-empty : length w ≡ 0 → ⊥ = eqb-false (length w) 0 f in
    elim (and_cases (ltb 1 (length w)) (eqb (get_or w 0 0) 48) e) [
      | inl h ↦ omega (arith, ltb-false 1 (length w) h)
      | inr h ↦ absurd (eqb-false (get_or w 0 0) 48 h z)
    ]

pub word_of_number : (w : List ℕ) {n : ℕ} → number_of w ≡ Some n → (w ≡ decimal n) × (n < 10 ^ 7)
word_of_number w {n} e =
    let a = unless_parts (eqb (length w) 0 || ltb 7 (length w)) _ e in
    let b = unless_parts (ltb 1 (length w) && eqb (get_or w 0 0) 48) _ a.1 in
    let q = or_parts (eqb (length w) 0) (ltb 7 (length w)) a.0 in
    elim (cond_parts (all_ascii_digits w) (Some (read_on 0 w)) None (sym (number_reads 0 w) ∙ b.1)) [
      | inl h ↦
          (let short : read_on 0 w < 10 ^ 7 = digits_value_short own w 7 h.0 (ltb-false 7 (length w) q.1) in
          let not-empty : length w ≡ 0 → ⊥ = eqb-false (length w) 0 q.0 in
          let some : 0 < length w = omega arith in
          let same = same_some h.1 in
          (sym (ap decimal (sym same) ∙ decimal-digits_value own w h.0 some (only w b.0 q.0) (small (read_on 0 w) short)), subst (λ k. k < 10 ^ 7) same short))
      | inr h ↦ absurd (none_some h.1)
    ]

readable : (w : List ℕ) → all_ascii_digits w ≡ true → 0 < length w → length w ≤ 7 → (1 < length w → get_or w 0 0 ≡ 48 → ⊥) → number_of w ≡ Some (read_on 0 w)
readable w digits some short first =
    cond-false (eqb (length w) 0 || ltb 7 (length w)) None _ (or_from _ _ (ne_eqb (length w) 0 (λ z. omega arith)) (le-ltb 7 (length w) short))
    ∙ cond-false (ltb 1 (length w) && eqb (get_or w 0 0) 48) None _
    (elim (cases_lt 1 (length w)) [
      | inl h ↦ and_right (ltb 1 (length w)) _ (ne_eqb (get_or w 0 0) 48 (first h))
      | inr h ↦ and_left (ltb 1 (length w)) _ (le-ltb 1 (length w) h)
    ])
    ∙ number_reads 0 w ∙ cond-true (all_ascii_digits w) (Some (read_on 0 w)) None digits

-- only the number 0 begins with the digit 0
first_digit : (n : ℕ) → n < 2 ^ 64 → 1 < length (decimal n) → get_or (decimal n) 0 0 ≡ 48 → ⊥
first_digit n h long z =
    elim (cases_lt 0 n) [
      | inl some ↦ omega (arith, first_decimal n some h)
      | inr none ↦ omega (arith, ap length (decimal_digit n (omega arith)))
    ]

pub number_of_word : (n : ℕ) → n < 10 ^ 7 → number_of (decimal n) ≡ Some n
number_of_word n h =
    let k : n < 2 ^ 64 = small n h in
    readable (decimal n) (digits_decimal own n k) (decimal_nonempty n k) (length-decimal-le 7 n (lit< tt) h k) (first_digit n k)
    ∙ ap Some (digits_value-decimal own n k)

clean_digits : (w : List ℕ) → all_ascii_digits w ≡ true → AllByRecursion (λ c. in_field c ≡ true) w
clean_digits [] e = tt
clean_digits (c ∷ cs) e =
    let p = and_parts (is_ascii_digit c) (all_ascii_digits cs) e in
    let low : 48 ≤ c = leb-true 48 c (and_parts (leb 48 c) (leb c 57) p.0).0 in
    (not_from_false (is_space c) (ne_eqb c 32 (λ z. omega arith)), clean_digits cs p.1)

pub clean_decimal : (n : ℕ) → n < 10 ^ 7 → Clean (decimal n)
clean_decimal n h = (decimal_nonempty n (small n h), clean_digits (decimal n) (digits_decimal own n (small n h)))
