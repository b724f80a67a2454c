-- The sheets of a plan and of a shortage among the worked examples, and a fault's line, byte by byte.
use Rattle.std.proofs.Common.{◌≡◌, ℕ, List, [], ◌∷◌, ◌++◌, Some, None, codes, Option, refl}
use Rattle.std.specs.Fmt.{digits}
use Rattle.drawing.specs.Codes.{refusal_number}
use Rattle.drawing.specs.declared.Refusal.TheVariants.{LineOrder}
use Rattle.duality.specs.Examples.{Example, example_at}
use Rattle.sheet.specs.Sheets.{sheet_text, fault_line}

abbrev sheet_of : Option Example → List ℕ
sheet_of None = []
sheet_of (Some e) = sheet_text e.drawing e.answer

-- lines, each with its LF
abbrev lines : List (List ℕ) → List ℕ
lines [] = []
lines (t ∷ ts) = t ++ (10 ∷ lines ts)

pub plan_shown : sheet_of (example_at 8) ≡ lines
    (codes "s       3"
    ∷ codes "f       1       1       2       2"
    ∷ codes "f       2       1       3       1"
    ∷ codes "f       3       2       3      -1"
    ∷ codes "f       4       2       4       3"
    ∷ codes "k       1 n"
    ∷ codes "k       2 t"
    ∷ codes "k       3 n"
    ∷ codes "k       4 f"
    ∷ [])
unfolding sheet_text digits
plan_shown = refl

pub shortage_shown_lem : sheet_of (example_at 2) ≡ lines (codes "h      -1" ∷ codes "k       1 n" ∷ codes "k       2 f" ∷ [])
unfolding sheet_text digits
shortage_shown_lem = refl

pub fault_shown : fault_line (refusal_number LineOrder) 12 ≡ lines (codes "r       8      12" ∷ [])
unfolding digits
fault_shown = refl
