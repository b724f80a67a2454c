use Rattle.std.proofs.Common.{◌≡◌, cond, ltb, map, get_or, vec_items, vec_len, vec_capacity}
use Rattle.std.specs.List.{range_with_len}
use Rattle.filing.proofs.records.write_labels.Given as goal

abbrev pub invariant-loop-own : goal.invariant-loop-own
invariant-loop-own l =
    (vec_items l.labels ≡ map (λ v. cond (ltb 0 (get_or l.level v 0)) l.reached l.other) (range_with_len 1 l.own-index))
    × (vec_len l.labels ≡ l.own-index) × (vec_capacity l.labels ≡ vec_capacity l.initial.labels)
