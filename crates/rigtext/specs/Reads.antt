-- What is answered of a whole text.
use Rattle.std.specs.Prelude.{◌≡◌, ℕ, cond, List, length, Ok, Err, Result, nat_le}
use Rattle.drawing.specs.declared.Refusal.TheVariants.{TextTooLong}
use Rattle.drawing.specs.Drawings.{Network}
use Rattle.drawing.specs.Records.{network}
use Rattle.rig_drawing.specs.declared.bounded.RigDrawing.{RigDrawing}
use Rattle.reading.specs.declared.Fault.{Fault}
use Rattle.reading.specs.Lines.{start_of}
use Rattle.reading.specs.Reading.{fault, read_lines, read_text}
use Rattle.reading.specs.Describing.{Describes}
use Rattle.rigtext.specs.declared.reader.Reader.{Reader}
use Rattle.rigtext.specs.declared.reader.whole.ReadError.{ReadError}
use Rattle.rigtext.specs.declared.reader.whole.ReadError.TheVariants.{Fault as Faulty, Memory}
use Rattle.rigtext.specs.States.{State, lines_left}

-- what the text is read as, from a reader's line on
abbrev pub rest_read : State → Result Network Fault
rest_read s = cond (nat_le (length s.text) 16384) (read_lines s.line s.progress (lines_left s)) (Err (fault TextTooLong 0))

-- the rig that a reader has
abbrev pub rig_in : Reader → Network
rig_in r = network r.draft.rig.drawing

-- The rig is the one that the text is read as, and the fault the one that it meets. (Want of memory says nothing of the text.)
abbrev pub Reads : List ℕ → Result RigDrawing ReadError → Type 0
Reads t (Ok rig) = read_text t ≡ Ok (network rig.drawing)
Reads t (Err (Faulty f)) = read_text t ≡ Err f
Reads t (Err Memory) = Unit {0}

-- The text describes the rig; a refused text describes none.
abbrev pub Tells : List ℕ → Result RigDrawing ReadError → Type 0
Tells t (Ok rig) = Describes t (network rig.drawing)
Tells t (Err (Faulty f)) = (d : Network) → Describes t d → ⊥
Tells t (Err Memory) = Unit {0}

-- where the place is then: at the text's end, at the start of the refused line, or where it was
abbrev pub place_after : List ℕ → ℕ → Result RigDrawing ReadError → ℕ
place_after t was (Ok rig) = length t
place_after t was (Err (Faulty f)) = start_of t f.line
place_after t was (Err Memory) = was
