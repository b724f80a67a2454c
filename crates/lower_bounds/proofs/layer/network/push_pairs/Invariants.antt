use Rattle.std.proofs.Common.{◌≡◌, ◌+◌, ◌*◌, ◌++◌, vec_items, vec_len, vec_capacity}
use Rattle.drawing.specs.Records.{network}
use Rattle.reductions.specs.LowerBounds.{supply_lead, demand_lead, pairs}
use Rattle.lower_bounds.proofs.layer.network.push_pairs.Given as goal

abbrev pub invariant-loop-i : goal.invariant-loop-i
invariant-loop-i l =
    (vec_items l.out ≡ vec_items l.initial.out ++ pairs l.i (supply_lead (network l.drawing)) (demand_lead (network l.drawing)))
    × (vec_len l.out ≡ vec_len l.initial.out + 2 * l.i)
    × (vec_capacity l.out ≡ vec_capacity l.initial.out)
