use Rattle.std.proofs.Common.{◌≡◌}
use Rattle.residual.specs.Search.{rounds}
use Rattle.residual.proofs.net.Loaded.round.Given as goal

abbrev pub invariant-loop-v : goal.invariant-loop-v
invariant-loop-v l = rounds l.self.net.head.now l.self.left.now l.k l.v l.initial.level ≡ (l.level, l.grew)
