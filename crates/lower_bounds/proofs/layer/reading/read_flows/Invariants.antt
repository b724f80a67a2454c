use Rattle.std.proofs.Common.{◌≡◌, map, vec_items, vec_len, vec_capacity}
use Rattle.std.specs.List.{range_with_len}
use Rattle.drawing.specs.Records.{network, plan_in}
use Rattle.reductions.specs.LowerBounds.{raised_flow}
use Rattle.lower_bounds.proofs.layer.reading.read_flows.Given as goal

abbrev pub invariant-loop-k : goal.invariant-loop-k
invariant-loop-k l =
    (vec_items l.out ≡ map (raised_flow (network l.drawing) (plan_in l.first) (plan_in l.second)) (range_with_len 1 l.k))
    × (vec_len l.out ≡ l.k)
    × (vec_capacity l.out ≡ vec_capacity l.initial.out)
