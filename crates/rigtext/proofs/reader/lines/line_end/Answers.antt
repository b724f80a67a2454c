use Rattle.reading.specs.Lines.{in_line}
use Rattle.rig_lines.proofs.Ahead.{scanned_to}
use Rattle.rigtext.proofs.reader.lines.line_end.Goals as goal

pub returns-clause-value : goal.returns-clause-value
returns-clause-value c = scanned_to in_line c.args.text.now c.args.at c.line_length.ensures
