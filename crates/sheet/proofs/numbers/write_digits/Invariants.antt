use Rattle.std.proofs.Common.{◌<◌, ◌≤◌}
use Rattle.sheet.proofs.Digits.{Standing}
use Rattle.sheet.proofs.numbers.write_digits.Given as goal

abbrev pub invariant-loop-rest : goal.invariant-loop-rest
invariant-loop-rest l = (l.at < 8) × (l.rest ≤ l.n) × Standing l.n l.rest l.at l.cols

abbrev pub decreases-loop-rest : goal.decreases-loop-rest
decreases-loop-rest l = l.rest
