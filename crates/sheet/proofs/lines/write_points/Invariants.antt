use Rattle.std.proofs.Common.{◌≡◌}
use Rattle.drawing.specs.Labels.{label}
use Rattle.sheet.specs.Columns.{text_to, placed}
use Rattle.sheet.specs.Sheets.{point_line}
use Rattle.sheet.proofs.lines.write_points.Given as goal

abbrev pub invariant-loop-i : goal.invariant-loop-i
invariant-loop-i l = l.out ≡ placed l.initial.out l.a (text_to l.i (λ v. point_line v (label l.labels v)))
