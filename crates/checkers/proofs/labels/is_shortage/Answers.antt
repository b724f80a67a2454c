use Rattle.std.proofs.Common.{◌≡◌, ◌&&◌, arith}
use Rattle.drawing.specs.Drawings.{is_admissible}
use Rattle.drawing.specs.Records.{network}
use Rattle.drawing.specs.Tests.{is_shortage}
use Rattle.drawing.proofs.Deciding.{decides_admissible, decides_shortage}
use Rattle.checkers.proofs.Guards.{guarded}
use Rattle.checkers.proofs.labels.is_shortage.Goals as goal

pub returns : goal.returns
returns c =
    let d = network c.args.d.now in
    let ls = c.args.labels.now in
    let e : c.is_some_and.result ≡ (is_admissible d && is_shortage d ls) = grind arith in
    guarded _ _ (decides_admissible d) (decides_shortage d ls) _ e
