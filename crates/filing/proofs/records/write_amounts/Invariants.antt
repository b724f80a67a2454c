use Rattle.std.proofs.Common.{◌≡◌, ◌≤◌, map, length, vec_items, vec_len, vec_capacity}
use Rattle.std.specs.List.{range_with_len}
use Rattle.drawing.specs.Counts.{only, nth}
use Rattle.drawing.specs.Drawings.{no_point}
use Rattle.filing.specs.Marks.{is_marked}
use Rattle.filing.proofs.records.write_amounts.Given as goal

abbrev pub invariant-loop-point : goal.invariant-loop-point
invariant-loop-point l =
    (vec_items l.amounts ≡ map (λ v. only (is_marked l.wanted (nth l.points v no_point).mark) l.total) (range_with_len 1 l.point-index))
    × (vec_len l.amounts ≡ l.point-index) × (vec_capacity l.amounts ≡ vec_capacity l.initial.amounts) × (length l.points ≤ vec_capacity l.initial.amounts)
