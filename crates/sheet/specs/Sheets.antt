-- The sheet, and the line that tells a fault. Letters, the space (32) and LF (10) are as ASCII has them.
use Rattle.std.specs.Prelude.{ℕ, ◌+◌, ◌*◌, List, [], ◌∷◌, ◌++◌, ℤ, pos, vec_items}
use Rattle.drawing.specs.declared.Label.{Label}
use Rattle.drawing.specs.declared.Run.{Run}
use Rattle.drawing.specs.Codes.{label_letter}
use Rattle.drawing.specs.Drawings.{Network, point_count, run_count, run}
use Rattle.drawing.specs.Plans.{Plan, flow}
use Rattle.drawing.specs.Labels.{label, worth}
use Rattle.drawing.specs.Answers.{Answer, Planned, Short}
use Rattle.drawing.specs.declared.record.Record.{Record}
use Rattle.drawing.specs.Records.{plan_in}
use Rattle.sheet.specs.Columns.{columns, text_to}

-- how a line begins: its letter, and its numbers in their columns
abbrev pub line_front : ℕ → List ℤ → List ℕ
line_front letter numbers = letter ∷ columns numbers

-- a line of just these
abbrev pub number_line : ℕ → List ℤ → List ℕ
number_line letter numbers = line_front letter numbers ++ (10 ∷ [])

-- s: a plan's total
abbrev pub total_line : ℕ → List ℕ
total_line t = number_line 115 (pos t ∷ [])

-- h: a shortage's worth
abbrev pub worth_line : ℤ → List ℕ
worth_line w = number_line 104 (w ∷ [])

-- f: a run's number, both its ends and its flow
abbrev pub run_numbers : ℕ → Run → ℤ → List ℤ
run_numbers k r f = pos k ∷ pos r.tail ∷ pos r.head ∷ f ∷ []

abbrev pub run_line : ℕ → Run → ℤ → List ℕ
run_line k r f = number_line 102 (run_numbers k r f)

-- k: a point's number, a space and the letter of its label
abbrev pub point_line : ℕ → Label → List ℕ
point_line v l = line_front 107 (pos v ∷ []) ++ (32 ∷ label_letter l ∷ 10 ∷ [])

-- r: a refusal's number and the number of the line that it met
abbrev pub fault_line : ℕ → ℕ → List ℕ
fault_line number line = number_line 114 (pos number ∷ pos line ∷ [])

abbrev pub run_lines : Network → Plan → List ℕ
run_lines d p = text_to (run_count d) (λ k. run_line k (run d k) (flow p k))

abbrev pub point_lines : Network → List Label → List ℕ
point_lines d ls = text_to (point_count d) (λ v. point_line v (label ls v))

-- the sheet of an answer to a drawing
unfoldable pub sheet_text : Network → Answer → List ℕ
sheet_text d (Planned p t ls) = total_line t ++ (run_lines d p ++ point_lines d ls)
sheet_text d (Short ls) = worth_line (worth d ls) ++ point_lines d ls

-- its length, where every number is narrow
abbrev pub sheet_length : Network → Answer → ℕ
sheet_length d (Planned p t ls) = 10 + 34 * run_count d + 12 * point_count d
sheet_length d (Short ls) = 10 + 12 * point_count d

-- the answer of a record that holds a plan
abbrev pub planned_in : Record → Answer
planned_in r = Planned (plan_in r) r.total (vec_items r.labels)
