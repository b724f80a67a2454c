use Rattle.std.proofs.Common.{refl}
use Rattle.drawing.specs.Records.{network}
use Rattle.residual.proofs.Terminals.{plain_said}
use Rattle.push_relabel.proofs.solver.solving.PushRelabelSolver.solve.Goals as goal

pub plan-requires : goal.plan-requires
plan-requires c = plain_said (network c.args.drawing.now) c.statements.result c.statements.ensures (c.in_ok-admit.ensures.carries.0 refl)
