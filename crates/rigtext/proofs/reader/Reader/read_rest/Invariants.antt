use Rattle.std.proofs.Common.{◌≡◌, length}
use Rattle.rigtext.specs.States.{state, lines_left}
use Rattle.rigtext.specs.Reads.{rest_read}
use Rattle.rigtext.proofs.reader.Reader.read_rest.Given as goal

abbrev pub invariant-loop : goal.invariant-loop
invariant-loop l = ((state l.self).text ≡ (state l.initial.self).text) × (rest_read (state l.self) ≡ rest_read (state l.initial.self))

abbrev pub decreases-loop : goal.decreases-loop
decreases-loop l = length (lines_left (state l.self))
