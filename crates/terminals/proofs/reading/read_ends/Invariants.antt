use Rattle.std.proofs.Common.{◌≡◌, ◌+◌, map, vec_items, vec_len, vec_capacity}
use Rattle.std.specs.List.{range_with_len}
use Rattle.drawing.specs.Counts.{only, count_to}
use Rattle.drawing.specs.Drawings.{run_count, point, is_rack, is_bar}
use Rattle.drawing.specs.Plans.{flow, forth}
use Rattle.drawing.specs.Records.{network, plan_in}
use Rattle.reductions.specs.Terminals.{is_terminal, lead_of}
use Rattle.terminals.proofs.reading.read_ends.Given as goal

abbrev pub invariant-loop-p : goal.invariant-loop-p
invariant-loop-p l =
    let d = network l.drawing in
    let p = plan_in l.found in
    (vec_items l.supplies ≡ map (λ v. only (is_rack (point d v).mark) (forth (flow p (lead_of d v)))) (range_with_len 1 l.p-index))
    × (vec_items l.deliveries ≡ map (λ v. only (is_bar (point d v).mark) (forth (flow p (lead_of d v)))) (range_with_len 1 l.p-index))
    × (vec_len l.supplies ≡ l.p-index)
    × (vec_len l.deliveries ≡ l.p-index)
    × (vec_capacity l.supplies ≡ vec_capacity l.initial.supplies)
    × (vec_capacity l.deliveries ≡ vec_capacity l.initial.deliveries)
    × (l.lead ≡ run_count d + count_to l.p-index (is_terminal d))
