use Rattle.std.proofs.Common.{arith}
use Rattle.sheet.specs.Columns.{columns}
use Rattle.sheet.proofs.Placing.{placed_after}
use Rattle.sheet.proofs.lines.write_front.Goals as goal

pub returns : goal.returns
returns c =
    placed_after c.args.out.now c.write_columns.new.out c.args.a c.args.letter (columns c.args.numbers.now) (omega arith) c.write_columns.ensures
