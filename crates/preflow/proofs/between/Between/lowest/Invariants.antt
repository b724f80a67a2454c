use Rattle.std.proofs.Common.{◌≡◌, ◌<◌, ◌≤◌, length, fold}
use Rattle.std.specs.List.{AllByRecursion}
use Rattle.residual.specs.Net.{tail_of}
use Rattle.residual.specs.Leavers.{leavers_left}
use Rattle.preflow.specs.Push.{lows}
use Rattle.preflow.proofs.Steps.{lower}
use Rattle.preflow.proofs.between.Between.lowest.Given as goal

abbrev pub invariant-loop-a : goal.invariant-loop-a
invariant-loop-a l =
    (goal.iterator-loop-a).can_next l.a-iterator
    × (goal.iterator-loop-a).is_finite l.a-iterator
    × AllByRecursion (λ a. (a < length l.self.net.head.now) × (tail_of l.self.net.head.now a ≡ l.v)) (leavers_left l.a-iterator)
    × (l.low ≤ 1000)
    × (fold (λ x a. lower l.self.net.head.now l.left l.height a x) l.low (leavers_left l.a-iterator)
    ≡ lows l.self.net.head.now l.left l.height l.v (length l.self.net.head.now) 1000)
