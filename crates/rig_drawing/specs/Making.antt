-- Making a rig's drawing by a count of points.
use Rattle.std.specs.Prelude.{◌≡◌, ℕ, Some, None, Ok, Err, Result}
use Rattle.drawing.specs.Records.{network}
use Rattle.rig_drawing.specs.declared.bounded.RigDrawing.{RigDrawing}
use Rattle.rig_drawing.specs.declared.bounded.making.MakeError.{MakeError}
use Rattle.rig_drawing.specs.declared.bounded.making.MakeError.TheVariants.{Refused, Memory}
use Rattle.rig_drawing.specs.Changes.{plain_rig, count_refusal}

-- A count that is not refused makes that many plain points, or memory is wanting; one that is refused makes nothing.
abbrev pub Made : ℕ → Result RigDrawing MakeError → Type 0
Made n (Ok d) = (count_refusal n ≡ None) × (network d.drawing ≡ plain_rig n)
Made n (Err (Refused e)) = count_refusal n ≡ Some e
Made n (Err Memory) = count_refusal n ≡ None
