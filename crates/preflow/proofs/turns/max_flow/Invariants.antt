use Rattle.std.proofs.Common.{◌≡◌, deque_items, deque_capacity}
use Rattle.preflow.specs.Turns.{after}
use Rattle.preflow.proofs.turns.max_flow.Given as goal

-- the state after so many turns
abbrev pub invariant-loop-turn : goal.invariant-loop-turn
invariant-loop-turn l =
    (record { left = l.left; excess = l.excess; height = l.height; queue = deque_items l.queue }
    ≡ after l.between.net.head.now l.points l.source l.sink (record { left = l.initial.left; excess = l.initial.excess; height = l.initial.height; queue = deque_items l.initial.queue }) l.turn)
    × (deque_capacity l.queue ≡ deque_capacity l.initial.queue)
