use Rattle.std.proofs.Common.{◌≡◌, ◌-◌}
use Rattle.residual.specs.Net.{Sent}
use Rattle.blocking.specs.Phases.{phases}
use Rattle.blocking.proofs.phases.max_flow.Given as goal

abbrev pub invariant-loop-turn : goal.invariant-loop-turn
invariant-loop-turn l =
    Sent l.net.head.now l.source l.sink l.initial.left l.left l.total
    × (phases l.net.head.now l.net.first.now l.source l.sink (1800000001 - l._turn) l.left l.level l.total
    ≡ phases l.net.head.now l.net.first.now l.source l.sink 1800000001 l.initial.left l.initial.level 0)
