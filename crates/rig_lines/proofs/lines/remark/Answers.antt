use Rattle.rig_lines.proofs.Shaping.{after_two}
use Rattle.rig_lines.proofs.lines.remark.Goals as goal

pub returns : goal.returns
returns c = after_two c.args.line.at c.args.line.bytes.now c.min-from.result c.min-from.ensures
