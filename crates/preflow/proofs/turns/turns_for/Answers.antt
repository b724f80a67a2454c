use Rattle.std.proofs.Common.{refl}
use Rattle.preflow.specs.Turns.{turns_for}
use Rattle.preflow.proofs.turns.turns_for.Goals as goal

pub returns : goal.returns
unfolding turns_for
returns c = refl
