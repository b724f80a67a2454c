-- The digits of a number, written from the last to the first at the end of eight columns, and the spaces and the minus before them.
use Rattle.std.proofs.Common.{◌≡◌, ℕ, ◌+◌, ◌-◌, ◌/◌, ◌%◌, ◌^◌, ◌<◌, ◌≤◌, true, List, [], ◌∷◌, ◌++◌, length, drop, set, replicate, ℤ, pos, negsuc, nat_abs, decimal, sym, ap, ◌∙◌, arith, ltb-true}
use lib.Signed.{lt_z}
use Rattle.std.specs.Fmt.{signed_decimal}
use Rattle.std.proofs.lemmas.Fmt.{decimal_step, decimal_digit, decimal_nonempty}
use Rattle.std.proofs.lemmas.List.{append-nil, append_assoc, drop_all, drop-set, length-append, length-drop, length-replicate}
use Rattle.sheet.specs.Columns.{column, Narrow}

-- the digits of n stand behind place i, but for those of rest
abbrev pub Standing : ℕ → ℕ → ℕ → List ℕ → Type 0
Standing n rest i cols = decimal n ≡ decimal rest ++ drop (i + 1) cols

pub none_yet : (n : ℕ) (cols : List ℕ) → length cols ≡ 8 → Standing n n 7 cols
none_yet n cols h =
    let e : drop 8 cols ≡ [] = drop_all 8 cols (omega arith) in rw e (sym (append-nil (decimal n)))

module _ (n rest i : ℕ) (cols : List ℕ) (eight : length cols ≡ 8) (narrow : length (decimal n) ≤ 8) (fits : rest < 2 ^ 64) (within : i < 8)
    (standing : Standing n rest i cols) where
  lengths : length (decimal n) ≡ length (decimal rest) + (8 - (i + 1))
  lengths =
      ap length standing ∙ length-append (decimal rest) (drop (i + 1) cols)
      ∙ ap (λ k. length (decimal rest) + k) (length-drop (i + 1) cols ∙ ap (λ k. k - (i + 1)) eight)

  pub room : 10 ≤ rest → 1 ≤ i
  room many =
      let two : length (decimal rest) ≡ length (decimal (rest / 10)) + 1 = ap length (decimal_step rest many fits) ∙ length-append (decimal (rest / 10)) ((48 + rest % 10) ∷ []) in
      let some : 0 < length (decimal (rest / 10)) = decimal_nonempty (rest / 10) (omega arith) in
      omega (arith, two, some, lengths)

  -- one more digit, and others are left
  pub one_more : 10 ≤ rest → Standing n (rest / 10) (i - 1) (set cols i (48 + rest % 10))
  one_more many =
      let r : 1 ≤ i = room many in
      let p : i - 1 + 1 ≡ i = omega arith in
      rw p
      (rw (drop-set cols i (48 + rest % 10) (omega arith))
      (standing ∙ ap (λ d. d ++ drop (i + 1) cols) (decimal_step rest many fits) ∙ append_assoc (decimal (rest / 10)) ((48 + rest % 10) ∷ []) (drop (i + 1) cols)))

  -- the first digit
  pub all_digits : rest < 10 → drop i (set cols i (48 + rest)) ≡ decimal n
  all_digits few = drop-set cols i (48 + rest) (omega arith) ∙ sym (standing ∙ ap (λ d. d ++ drop (i + 1) cols) (decimal_digit rest few))

  pub all_columns : rest < 10 → i + length (decimal n) ≡ 8
  all_columns few = let one : length (decimal rest) ≡ 1 = ap length (decimal_digit rest few) in omega (arith, one, lengths)

-- spaces, the minus and the digits are the number's column
pub below_zero : (z : ℤ) (first : ℕ) (cols after : List ℕ) → Narrow z → lt_z z (pos 0) ≡ true
    → length cols ≡ 8 → first + length (decimal (nat_abs z)) ≡ 8 → drop first cols ≡ decimal (nat_abs z)
    → after ≡ replicate (first - 1) 32 ++ drop (first - 1) (set cols (first - 1) 45) → after ≡ column z
below_zero (pos m) first cols after h neg eight within digits e = absurd (omega (arith, ltb-true m 0 neg))
below_zero (negsuc m) first cols after h neg eight within digits e =
    let signed-digits : drop (first - 1) (set cols (first - 1) 45) ≡ signed_decimal (negsuc m) =
    drop-set cols (first - 1) 45 (omega arith) ∙ ap (λ k. 45 ∷ drop k cols) (omega arith) ∙ ap (λ r. 45 ∷ r) digits in
    let spaces : first - 1 ≡ 8 - length (signed_decimal (negsuc m)) = omega arith in
    e ∙ ap (λ r. replicate (first - 1) 32 ++ r) signed-digits ∙ ap (λ k. replicate k 32 ++ signed_decimal (negsuc m)) spaces

pub length_column : (z : ℤ) → Narrow z → length (column z) ≡ 8
length_column z h =
    length-append (replicate (8 - length (signed_decimal z)) 32) (signed_decimal z)
    ∙ ap (λ k. k + length (signed_decimal z)) (length-replicate (8 - length (signed_decimal z)) 32) ∙ omega (arith, h)
