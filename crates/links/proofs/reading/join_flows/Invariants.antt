use Rattle.std.proofs.Common.{◌≡◌, ◌+◌, map, vec_items, vec_len, vec_capacity}
use Rattle.std.specs.List.{range_with_len}
use Rattle.drawing.specs.Counts.{count_to}
use Rattle.drawing.specs.Drawings.{run_count}
use Rattle.drawing.specs.Records.{network, plan_in}
use Rattle.reductions.specs.Links.{link_at, links_flow}
use Rattle.links.proofs.reading.join_flows.Given as goal

abbrev pub invariant-loop-k : goal.invariant-loop-k
invariant-loop-k l =
    (vec_items l.out ≡ map (links_flow (network l.drawing) (plan_in l.found)) (range_with_len 1 l.k))
    × (vec_len l.out ≡ l.k)
    × (vec_capacity l.out ≡ vec_capacity l.initial.out)
    × (l.back ≡ run_count (network l.drawing) + count_to l.k (link_at (network l.drawing)))
