-- The answer that a worked example tells.
use Rattle.drawing.specs.Plans.{plan_of}
use Rattle.drawing.specs.Answers.{Answer, Planned, Short}
use Rattle.duality.specs.declared.worked.Told.{Told}
use Rattle.duality.specs.declared.worked.Told.TheVariants.{Plan, Shortage}

abbrev pub told_answer : Told → Answer
told_answer (Plan flows supplies deliveries total labels) = Planned (plan_of flows.now supplies.now deliveries.now) total labels.now
told_answer (Shortage labels) = Short labels.now
