-- The ending that a rig holds: its standing, and the record of the last solve.
use Rattle.std.specs.Prelude.{Bool, true, false, ◌&&◌, Some, None, vec_items, Option}
use Rattle.drawing.specs.declared.Verdict.{Verdict}
use Rattle.drawing.specs.declared.Verdict.TheVariants.{Plan as PlanVerdict, Shortage as ShortageVerdict}
use Rattle.drawing.specs.declared.record.Record.{Record}
use Rattle.drawing.specs.Drawings.{Network}
use Rattle.drawing.specs.Answers.{Answer, Planned, Short}
use Rattle.drawing.specs.Records.{plan_in, answer_in}
use Rattle.drawing.specs.Tests.{is_right}
use Rattle.ledger.specs.declared.Standing.{Standing}
use Rattle.ledger.specs.declared.Standing.TheVariants.{Drawn as IsDrawn, Planned as IsPlanned, Short as IsShort}

-- none while drawn, whatever the record holds
abbrev pub ending_of : Standing → Record → Option Answer
ending_of IsDrawn r = None
ending_of IsPlanned r = Some (Planned (plan_in r) r.total (vec_items r.labels))
ending_of IsShort r = Some (Short (vec_items r.labels))

abbrev pub is_plan_verdict : Verdict → Bool
is_plan_verdict PlanVerdict = true
is_plan_verdict ShortageVerdict = false

abbrev pub is_shortage_verdict : Verdict → Bool
is_shortage_verdict PlanVerdict = false
is_shortage_verdict ShortageVerdict = true

-- What a rig keeps: unless it is drawn, its record has the verdict of its standing and a right answer to its drawing.
unfoldable pub keeps_plan : Network → Record → Bool
keeps_plan d r = is_plan_verdict r.verdict && is_right d (answer_in r)

unfoldable pub keeps_shortage : Network → Record → Bool
keeps_shortage d r = is_shortage_verdict r.verdict && is_right d (answer_in r)

abbrev pub is_sound : Network → Standing → Record → Bool
is_sound d IsDrawn r = true
is_sound d IsPlanned r = keeps_plan d r
is_sound d IsShort r = keeps_shortage d r

-- the standing after an accepted solve
abbrev pub standing_by : Verdict → Standing
standing_by PlanVerdict = IsPlanned
standing_by ShortageVerdict = IsShort
