use Rattle.std.proofs.Common.{◌≡◌, pos}
use Rattle.drawing.specs.Counts.{nth}
use Rattle.sheet.specs.Columns.{column, text_to, placed}
use Rattle.sheet.proofs.numbers.write_columns.Given as goal

abbrev pub invariant-loop-i : goal.invariant-loop-i
invariant-loop-i l = l.out ≡ placed l.initial.out l.a (text_to l.i (λ k. column (nth l.numbers k (pos 0))))
