use Rattle.std.proofs.Common.{◌≡◌, ◌^◌, ◌<◌, drop}
use Rattle.rig_lines.specs.Numbers.{number_from}
use Rattle.rig_lines.proofs.words.digits.Given as goal

abbrev pub invariant-loop-b : goal.invariant-loop-b
invariant-loop-b l = (l.value < 10 ^ l.b-index) × (number_from l.value (drop l.b-index l.word) ≡ number_from 0 l.word)
