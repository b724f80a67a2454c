use Rattle.std.proofs.Common.{◌≡◌, ◌++◌, take, vec_items, vec_capacity}
use Rattle.scratch.proofs.copying.push_within.Given as goal

abbrev pub invariant-loop-item : goal.invariant-loop-item
invariant-loop-item g l = (vec_items l.out ≡ take (vec_capacity l.initial.out) (vec_items l.initial.out ++ l.yielded)) × (vec_capacity l.out ≡ vec_capacity l.initial.out)
