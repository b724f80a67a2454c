-- Making a rig by a count of points.
use Rattle.std.specs.Prelude.{◌≡◌, ℕ, Some, None, Ok, Err, Result}
use Rattle.rig_drawing.specs.declared.bounded.making.MakeError.{MakeError}
use Rattle.rig_drawing.specs.declared.bounded.making.MakeError.TheVariants.{Refused, Memory}
use Rattle.rig_drawing.specs.Changes.{plain_rig, count_refusal}
use Rattle.ledger.specs.Ledgers.{start}
use Rattle.rig.specs.declared.rig.Rig.{Rig}
use Rattle.rig.specs.Rigs.{ledger_of}

-- A count that is not refused makes a rig of that many plain points, or memory is wanting; one that is refused makes nothing.
abbrev pub RigMade : ℕ → Result Rig MakeError → Type 0
RigMade n (Ok g) = (count_refusal n ≡ None) × (ledger_of g ≡ start (plain_rig n))
RigMade n (Err (Refused e)) = count_refusal n ≡ Some e
RigMade n (Err Memory) = count_refusal n ≡ None
