-- A reader at a line of a text: what it shows of the next line, and where it is then.
use Rattle.std.specs.Prelude.{ℕ, ◌+◌, ◌-◌, cond, List, [], ◌∷◌, length, take, drop, Some, None, Ok, Err, Option, Result, nat_le}
use Rattle.std.specs.List.{prefix_len}
use Rattle.drawing.specs.declared.Refusal.{Refusal}
use Rattle.drawing.specs.declared.Refusal.TheVariants.{LineOrder, TextTooLong}
use Rattle.drawing.specs.Drawings.{Network}
use Rattle.rig_lines.specs.declared.Line.{Line}
use Rattle.rig_lines.specs.Items.{said_by}
use Rattle.rig_lines.specs.Shapes.{Shape, shape, shapes, shape_of}
use Rattle.reading.specs.declared.Fault.{Fault}
use Rattle.reading.specs.Lines.{in_line, lines_of, start_of}
use Rattle.reading.specs.Reading.{Progress, unheaded, finished, fault, line_read}
use Rattle.rig_draft.specs.Drafts.{progress}
use Rattle.rigtext.specs.declared.reader.Reader.{Reader}

-- the text, the number of the line that is next, and how far the reading is
pub record State : Type 0 where
  pub text : List ℕ
  pub line : ℕ
  pub progress : Progress

abbrev pub state : Reader → State
state r = record { text = r.text.now; line = r.line; progress = progress r.draft }

-- before the first line
abbrev pub begin : List ℕ → State
begin t = record { text = t; line = 1; progress = unheaded }

-- the line of a text that begins at a place
abbrev pub line_from : List ℕ → ℕ → List ℕ
line_from t i = take (prefix_len in_line (drop i t)) (drop i t)

-- what a line does to the reading
abbrev pub line_taken : Progress → List ℕ → Result Progress Refusal
line_taken p l = line_read p (said_by l)

-- an accepted line is shown as its kind with its fields; it begins at the place start
abbrev pub shown_by : Result Progress Refusal → Option Shape → Result (Option Shape) Refusal
shown_by (Ok q) x = Ok x
shown_by (Err e) x = Err e

abbrev pub line_shown : Progress → ℕ → List ℕ → Result (Option Shape) Refusal
line_shown p start l = shown_by (line_taken p l) (shape_of start l)

-- the reader is at the next line then; a refused line leaves it as it was
abbrev pub moved : State → Result Progress Refusal → State
moved s (Ok q) = record { text = s.text; line = s.line + 1; progress = q }
moved s (Err e) = s

-- what the code answers, with what its fields hold
abbrev pub shown_line : Result Line Refusal → Result (Option Shape) Refusal
shown_line (Ok x) = Ok (Some (shape x))
shown_line (Err e) = Err e

-- the lines that are left
abbrev pub lines_left : State → List (List ℕ)
lines_left s = drop (s.line - 1) (lines_of s.text)

-- the refusal of line k as a fault
abbrev pub faulted : {A : Type 0} → ℕ → Result A Refusal → Result A Fault
faulted k (Ok a) = Ok a
faulted k (Err e) = Err (fault e k)

-- At the end, where k is the number of the line after the last, nothing is shown, or 8 is told where something is missing.
abbrev pub end_shown : ℕ → Option Network → Result (Option Shape) Fault
end_shown k (Some d) = Ok None
end_shown k None = Err (fault LineOrder k)

-- what the next call shows, by the lines that are left
abbrev pub shown_of : State → List (List ℕ) → Result (Option Shape) Fault
shown_of s [] = end_shown s.line (finished s.progress)
shown_of s (l ∷ ls) = faulted s.line (line_shown s.progress (start_of s.text s.line) l)

-- and where it leaves the reader
abbrev pub left_of : State → List (List ℕ) → State
left_of s [] = s
left_of s (l ∷ ls) = moved s (line_taken s.progress l)

-- a text above 16,384 bytes is 9 at line 0, before all else
abbrev pub next_shown : State → Result (Option Shape) Fault
next_shown s = cond (nat_le (length s.text) 16384) (shown_of s (lines_left s)) (Err (fault TextTooLong 0))

abbrev pub next_state : State → State
next_state s = cond (nat_le (length s.text) 16384) (left_of s (lines_left s)) s

-- what the code answers, with what its fields hold
abbrev pub shown_next : Result (Option Line) Fault → Result (Option Shape) Fault
shown_next (Ok x) = Ok (shapes x)
shown_next (Err f) = Err f

-- where the place is then: at the reader's line, which after a fault is the line of the fault
abbrev pub place_next : State → Result (Option Line) Fault → ℕ
place_next s (Ok x) = start_of s.text s.line
place_next s (Err f) = start_of s.text f.line
