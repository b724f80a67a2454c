use Rattle.std.proofs.Common.{◌≡◌, ◌&&◌, rules}
use Rattle.std.proofs.iter.Serving.{returning}
use Rattle.drawing.specs.Drawings.{is_admissible}
use Rattle.drawing.specs.Plans.{plan_of}
use Rattle.drawing.specs.Records.{network}
use Rattle.drawing.specs.Tests.{is_feasible}
use Rattle.drawing.proofs.Deciding.{decides_admissible, decides_feasible}
use Rattle.checkers.proofs.Guards.{guarded}
use Rattle.checkers.proofs.plans.is_feasible.Goals as goal

pub returns : goal.returns
returns c =
    let d = network c.args.d.now in
    let p = plan_of c.args.flows.now c.args.supplies.now c.args.deliveries.now in
    let e : c.is_some_and.result ≡ (is_admissible d && is_feasible d p) = search (rules, returning) in
    guarded _ _ (decides_admissible d) (decides_feasible d p) _ e
