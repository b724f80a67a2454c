use Rattle.std.proofs.Common.{◌≡◌, ℕ, ◌<◌, ◌≤◌, max, get_or}
use Rattle.preflow.specs.Turns.{dist}
use Rattle.preflow.proofs.between.raise.Given as goal

abbrev pub invariant-loop-v : goal.invariant-loop-v
invariant-loop-v l =
    ((u : ℕ) → u < l.v → get_or l.height u 0 ≡ max (get_or l.initial.height u 0) (dist l.points (get_or l.level u 0)))
    × ((u : ℕ) → l.v ≤ u → get_or l.height u 0 ≡ get_or l.initial.height u 0)
