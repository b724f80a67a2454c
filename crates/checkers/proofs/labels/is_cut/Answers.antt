use Rattle.std.proofs.Common.{◌≡◌, ◌&&◌, rules}
use Rattle.std.proofs.iter.Serving.{returning}
use Rattle.drawing.specs.Drawings.{is_admissible}
use Rattle.drawing.specs.Records.{network}
use Rattle.drawing.specs.Tests.{is_cut}
use Rattle.drawing.proofs.Deciding.{decides_admissible, decides_cut}
use Rattle.checkers.proofs.Guards.{guarded}
use Rattle.checkers.proofs.labels.is_cut.Goals as goal

pub returns : goal.returns
returns c =
    let d = network c.args.d.now in
    let ls = c.args.labels.now in
    let e : c.is_some_and.result ≡ (is_admissible d && is_cut d ls) = search (rules, returning) in
    guarded _ _ (decides_admissible d) (decides_cut d ls) _ e
