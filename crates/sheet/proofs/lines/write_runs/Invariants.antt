use Rattle.std.proofs.Common.{◌≡◌, pos}
use Rattle.drawing.specs.Counts.{nth}
use Rattle.drawing.specs.Drawings.{no_run}
use Rattle.sheet.specs.Columns.{text_to, placed}
use Rattle.sheet.specs.Sheets.{run_line}
use Rattle.sheet.proofs.lines.write_runs.Given as goal

abbrev pub invariant-loop-i : goal.invariant-loop-i
invariant-loop-i l = l.out ≡ placed l.initial.out l.a (text_to l.i (λ k. run_line k (nth l.runs k no_run) (nth l.flows k (pos 0))))
