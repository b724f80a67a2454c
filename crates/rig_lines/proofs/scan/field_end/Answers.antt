use Rattle.rig_lines.specs.Fields.{in_field}
use Rattle.rig_lines.proofs.Ahead.{scanned_to}
use Rattle.rig_lines.proofs.scan.field_end.Goals as goal

pub returns-clause-value : goal.returns-clause-value
returns-clause-value c = scanned_to in_field c.args.line.now c.args.at c.word_length.ensures
