use Rattle.std.proofs.Common.{◌≡◌, ℕ, ◌<◌, length, get_or}
use Rattle.residual.specs.Net.{before, tail_of}
use Rattle.residual.proofs.laying.link.Given as goal

abbrev pub invariant-loop-a : goal.invariant-loop-a
invariant-loop-a l =
    ((v : ℕ) → v < length l.first → get_or l.first v 0 ≡ before l.head v l.a)
    × ((b : ℕ) → b < l.a → get_or l.next b 0 ≡ before l.head (tail_of l.head b) b)
