use Rattle.std.proofs.Common.{◌≡◌, ◌*◌, length, ◌∙◌, arith}
use Rattle.sheet.specs.Columns.{columns}
use Rattle.sheet.specs.Sheets.{line_front}
use Rattle.sheet.proofs.Lengths.{length_columns}
use Rattle.sheet.proofs.Placing.{byte_more}
use Rattle.sheet.proofs.lines.write_numbers.Goals as goal

pub returns : goal.returns
returns c =
    let zs = c.args.numbers.now in
    let long : length (columns zs) ≡ 8 * length zs = length_columns zs c.requires.small in
    c.end_line.ensures
    ∙ byte_more c.args.out.now c.args.a (line_front c.args.letter zs) (omega arith) c.write_front.new.out _ 10 c.write_front.ensures (omega arith) (omega arith)
