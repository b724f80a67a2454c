use Rattle.std.proofs.Common.{◌≡◌, ◌+◌, ◌≤◌, ◌++◌, vec_items, vec_len, vec_capacity}
use Rattle.drawing.specs.Records.{network}
use Rattle.reductions.specs.Added.{added}
use Rattle.reductions.specs.Limits.{limited_at, limit_lead}
use Rattle.limits.proofs.network.push_leads.Given as goal

abbrev pub invariant-loop-i : goal.invariant-loop-i
invariant-loop-i l =
    (vec_items l.out ≡ vec_items l.initial.out ++ added l.i (limited_at (network l.drawing)) (limit_lead (network l.drawing)))
    × (vec_len l.out ≤ vec_len l.initial.out + l.i)
    × (vec_capacity l.out ≡ vec_capacity l.initial.out)
