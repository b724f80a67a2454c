-- How long lines are.
use Rattle.std.proofs.Common.{◌≡◌, ℕ, zero, suc, ◌+◌, ◌*◌, ◌^◌, ◌<◌, ◌≤◌, List, [], ◌∷◌, length, get_or, ℤ, pos, negsuc, decimal, ◌∙◌, arith}
use Rattle.std.specs.List.{AllByRecursion}
use Rattle.std.proofs.lemmas.Fmt.{length-decimal-le}
use Rattle.std.proofs.ByRecursion.{All-get_or}
use Rattle.std.proofs.lemmas.List.{length-append}
use Rattle.drawing.specs.declared.Label.{Label}
use Rattle.drawing.specs.declared.Refusal.{Refusal}
use Rattle.drawing.specs.declared.Run.{Run}
use Rattle.drawing.specs.Counts.{Within, nth}
use Rattle.drawing.specs.Codes.{label_letter, refusal_number}
use Rattle.sheet.specs.Columns.{column, columns, Narrow, Small}
use Rattle.sheet.specs.Sheets.{line_front, number_line, run_numbers, run_line, point_line, fault_line}
use Rattle.sheet.proofs.Digits.{length_column}
use Rattle.sheet.proofs.Placing.{length_text_to}

-- seven digits and a minus are eight characters
pub narrow : (z : ℤ) → Small z → Narrow z
narrow (pos n) h = let seven : length (decimal n) ≤ 7 = length-decimal-le 7 n (omega arith) h (omega arith) in omega arith
narrow (negsuc n) h = let seven : length (decimal (suc n)) ≤ 7 = length-decimal-le 7 (suc n) (omega arith) h (omega arith) in omega arith

pub length_each : (zs : List ℤ) → AllByRecursion Small zs → (k : ℕ) → Within (length zs) k → length (column (nth zs k (pos 0))) ≡ 8
length_each zs h zero w = let no_such : ⊥ = omega arith in absurd no_such
length_each zs h (suc k) w =
    let z : ℤ = get_or zs k (pos 0) in
    length_column z (narrow z (All-get_or Small zs k (pos 0) (omega arith) h))

pub length_columns : (zs : List ℤ) → AllByRecursion Small zs → length (columns zs) ≡ 8 * length zs
length_columns zs h = length_text_to 8 (length zs) _ (length_each zs h)

pub length_number_line : (letter : ℕ) (zs : List ℤ) → AllByRecursion Small zs → length (number_line letter zs) ≡ 2 + 8 * length zs
length_number_line letter zs h = length-append (line_front letter zs) (10 ∷ []) ∙ omega (arith, length_columns zs h)

pub length_figure : (letter : ℕ) (z : ℤ) → Small z → length (number_line letter (z ∷ [])) ≡ 10
length_figure letter z h = length_number_line letter (z ∷ []) (h, tt)

pub length_run_line : (k : ℕ) (r : Run) (f : ℤ) → AllByRecursion Small (run_numbers k r f) → length (run_line k r f) ≡ 34
length_run_line k r f h = length_number_line 102 (run_numbers k r f) h

pub length_point_line : (v : ℕ) (l : Label) → Small (pos v) → length (point_line v l) ≡ 12
length_point_line v l h =
    length-append (line_front 107 (pos v ∷ [])) (32 ∷ label_letter l ∷ 10 ∷ []) ∙ omega (arith, length_columns (pos v ∷ []) (h, tt))

small_number : (r : Refusal) → Small (pos (refusal_number r))
small_number r = grind arith

-- the line of any fault
pub length_fault : (r : Refusal) (line : ℕ) → line < 2 ^ 16 → length (fault_line (refusal_number r) line) ≡ 18
length_fault r line h = length_number_line 114 (pos (refusal_number r) ∷ pos line ∷ []) (small_number r, (omega arith, tt))
