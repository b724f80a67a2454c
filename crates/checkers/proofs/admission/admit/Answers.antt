use Rattle.std.proofs.Common.{◌≡◌, Ok, Err, rules}
use Rattle.drawing.specs.declared.Refusal.TheVariants.{Unsupported}
use Rattle.drawing.specs.Solvers.{refusal, told}
use Rattle.drawing.specs.Records.{network}
use Rattle.checkers.proofs.Admitting.{decides_carried}
use Rattle.checkers.proofs.admission.admit.Goals as goal

pub returns-in_err-admitted-clause-carries : goal.returns-in_err-admitted-clause-carries
returns-in_err-admitted-clause-carries c =
    let e : told c.from_residual.result ≡ refusal c.args.s (network c.args.d.now) = search rules in decides_carried _ _ _ e

pub returns-in-Some-clause-carries : goal.returns-in-Some-clause-carries
returns-in-Some-clause-carries c =
    let e : told {U = Unit {0}} (Err (Unsupported c.in-Some.f)) ≡ refusal c.args.s (network c.args.d.now) = search rules in
    decides_carried {U = Unit {0}} _ _ (Err (Unsupported c.in-Some.f)) e

pub returns-clause-carries : goal.returns-clause-carries
returns-clause-carries c =
    let e : told {U = Unit {0}} (Ok tt) ≡ refusal c.args.s (network c.args.d.now) = search rules in decides_carried {U = Unit {0}} _ _ (Ok tt) e
