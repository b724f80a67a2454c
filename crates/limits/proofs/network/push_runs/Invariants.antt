use Rattle.std.proofs.Common.{◌≡◌, map, take, vec_items, vec_len, vec_capacity}
use Rattle.drawing.specs.Records.{network}
use Rattle.reductions.specs.Limits.{moved}
use Rattle.limits.proofs.network.push_runs.Given as goal

abbrev pub invariant-loop-r : goal.invariant-loop-r
invariant-loop-r l = (vec_items l.out ≡ map (moved (network l.drawing)) (take l.r-index l.runs)) × (vec_len l.out ≡ l.r-index) × (vec_capacity l.out ≡ vec_capacity l.initial.out)
