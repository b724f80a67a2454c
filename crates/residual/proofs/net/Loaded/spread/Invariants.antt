use Rattle.std.proofs.Common.{◌≡◌, ◌+◌, ◌<◌, false, length, fold}
use Rattle.std.specs.List.{AllByRecursion}
use Rattle.residual.specs.Net.{tail_of}
use Rattle.residual.specs.Leavers.{leavers_left}
use Rattle.residual.specs.Search.{spreads, touch}
use Rattle.residual.proofs.net.Loaded.spread.Given as goal

-- what is left of the chain gives what the whole chain gives
abbrev pub invariant-loop-a : goal.invariant-loop-a
invariant-loop-a l =
    (goal.iterator-loop-a).can_next l.a-iterator
    × (goal.iterator-loop-a).is_finite l.a-iterator
    × AllByRecursion (λ a. (a < length l.self.net.head.now) × (tail_of l.self.net.head.now a ≡ l.v)) (leavers_left l.a-iterator)
    × (fold (λ s a. touch l.self.net.head.now l.self.left.now (l.k + 1) a s) (l.level, l.grew) (leavers_left l.a-iterator)
    ≡ spreads l.self.net.head.now l.self.left.now l.v (l.k + 1) (length l.self.net.head.now) (l.initial.level, false))
