-- The ledger that a rig keeps.
use Rattle.drawing.specs.Records.{network}
use Rattle.ledger.specs.Endings.{ending_of}
use Rattle.ledger.specs.Ledgers.{Ledger}
use Rattle.rig.specs.declared.rig.Rig.{Rig}

abbrev pub ledger_of : Rig → Ledger
ledger_of g = record { rig = network g.drawing.drawing; ending = ending_of g.standing g.answer }
