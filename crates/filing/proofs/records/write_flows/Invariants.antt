use Rattle.std.proofs.Common.{◌≡◌, ◌*◌, ◌≤◌, length, drop, vec_items, vec_len, vec_capacity}
use Rattle.std.specs.Slice.Iter.{chunks_exact_rest, chunks_exact_size}
use Rattle.residual.specs.Readings.{flows_in}
use Rattle.filing.proofs.records.write_flows.Given as goal

abbrev pub invariant-loop-arcs : goal.invariant-loop-arcs
invariant-loop-arcs l =
    (goal.iterator-loop-arcs).can_next l.arcs-iterator
    × (goal.iterator-loop-arcs).is_finite l.arcs-iterator
    × (chunks_exact_size l.arcs-iterator ≡ 2)
    × (chunks_exact_rest l.arcs-iterator ≡ drop (2 * length l.yielded) l.left)
    × (2 * length l.yielded ≤ length l.left)
    × (vec_items l.flows ≡ flows_in (length l.yielded) l.left) × (vec_len l.flows ≡ length l.yielded) × (vec_capacity l.flows ≡ vec_capacity l.initial.flows)
