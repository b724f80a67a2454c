-- The plan of the lists that go with an admitted drawing.
use Rattle.drawing.specs.Plans.{Plan, plan_of}
use Rattle.checkers.specs.declared.plans.Planned.{Planned}

abbrev pub planned : Planned → Plan
planned p = plan_of p.flows.now p.supplies.now p.deliveries.now
