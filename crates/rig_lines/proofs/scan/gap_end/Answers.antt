use Rattle.rig_lines.specs.Fields.{is_space}
use Rattle.rig_lines.proofs.Ahead.{scanned_to}
use Rattle.rig_lines.proofs.scan.gap_end.Goals as goal

pub returns-clause-value : goal.returns-clause-value
returns-clause-value c = scanned_to is_space c.args.line.now c.args.at c.gap_length.ensures
