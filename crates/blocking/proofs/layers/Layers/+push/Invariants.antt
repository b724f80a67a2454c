use Rattle.std.proofs.Common.{◌≡◌, ◌-◌, ◌<◌, ◌≤◌, length}
use Rattle.std.specs.List.{AllByRecursion}
use Rattle.residual.specs.Net.{tail_of, Placed, Bounded}
use Rattle.residual.specs.Leavers.{leavers_left}
use Rattle.blocking.specs.Push.{pushes}
use Rattle.blocking.proofs.Scans.{along}
use Rattle.blocking.proofs.layers.Layers.+push.Given as goal

abbrev pub decreases-push : goal.decreases-push
decreases-push l = l.depth

-- what is left of the chain gives what the whole push gives
abbrev pub invariant-loop-a : goal.invariant-loop-a
invariant-loop-a l =
    (goal.iterator-loop-a).can_next l.a-iterator
    × (goal.iterator-loop-a).is_finite l.a-iterator
    × AllByRecursion (λ a. (a < length l.self.net.head.now) × (tail_of l.self.net.head.now a ≡ l.v)) (leavers_left l.a-iterator)
    × Placed l.self.net.head.now l.current × Bounded l.left × (l.rest ≤ l.limit) × (l.stop ≡ 0)
    × (along l.self.net.head.now l.self.level.now (pushes l.self.net.head.now l.self.level.now l.self.sink l.self.top (l.depth - 1)) l.v l.wanted (leavers_left l.a-iterator) l.rest l.left l.current
    ≡ pushes l.self.net.head.now l.self.level.now l.self.sink l.self.top l.depth l.v l.limit l.initial.left l.initial.current)
