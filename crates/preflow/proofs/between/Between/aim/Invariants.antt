use Rattle.std.proofs.Common.{◌≡◌, ℕ, ◌<◌, get_or}
use Rattle.residual.specs.Net.{mate_of}
use Rattle.preflow.proofs.between.Between.aim.Given as goal

abbrev pub invariant-loop-a : goal.invariant-loop-a
invariant-loop-a l = (b : ℕ) → b < l.a → get_or l.back b 0 ≡ get_or l.left (mate_of b) 0
