use Rattle.std.proofs.Common.{◌≡◌, ◌<◌, ◌≤◌, length, get_or, deque_items, deque_capacity}
use Rattle.std.specs.List.{AllByRecursion}
use Rattle.residual.specs.Net.{tail_of, Bounded}
use Rattle.residual.specs.Leavers.{leavers_left}
use Rattle.preflow.specs.Push.{scans}
use Rattle.preflow.specs.Preflow.{whole, Lined}
use Rattle.preflow.proofs.Steps.{along}
use Rattle.preflow.proofs.between.Between.drain.Given as goal

-- what is left of the scan gives what all of it gives
abbrev pub invariant-loop-a : goal.invariant-loop-a
invariant-loop-a l =
    (goal.iterator-loop-a).can_next l.a-iterator
    × (goal.iterator-loop-a).is_finite l.a-iterator
    × AllByRecursion (λ a. (a < length l.self.net.head.now) × (tail_of l.self.net.head.now a ≡ l.v)) (leavers_left l.a-iterator)
    × Bounded l.left
    × (whole l.excess l.self.points ≤ 1800000001)
    × (0 < get_or l.excess l.v 0)
    × Lined l.self.source l.self.sink l.v l.excess (deque_items l.queue)
    × (deque_capacity l.queue ≡ deque_capacity l.initial.queue)
    × (along l.self.net.head.now l.height l.self.source l.self.sink l.v l.low (leavers_left l.a-iterator) l.left l.excess (deque_items l.queue)
    ≡ scans l.self.net.head.now l.height l.self.source l.self.sink l.v l.low (length l.self.net.head.now) l.initial.left l.initial.excess (deque_items l.initial.queue))
