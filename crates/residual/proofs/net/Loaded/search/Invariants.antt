use Rattle.std.proofs.Common.{◌≡◌, ◌-◌}
use Rattle.residual.specs.Search.{searches}
use Rattle.residual.proofs.net.Loaded.search.Given as goal

abbrev pub invariant-loop-k : goal.invariant-loop-k
invariant-loop-k l =
    searches l.self.net.head.now l.self.left.now l.sink (130 - l.k) l.k l.level
    ≡ searches l.self.net.head.now l.self.left.now l.sink 129 1 l.initial.level
