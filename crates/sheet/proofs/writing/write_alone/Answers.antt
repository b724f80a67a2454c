use Rattle.sheet.proofs.Assembling.{placed_front, refused_tells, refused_leaves, accepted_tells, accepted_leaves}
use Rattle.std.proofs.Common.{◌∙◌}
use Rattle.sheet.specs.Sheets.{number_line}
use Rattle.sheet.proofs.Lengths.{length_number_line}
use Rattle.sheet.proofs.writing.write_alone.Goals as goal

pub returns-then-out-length : goal.returns-then-out-length
returns-then-out-length c =
    let text = number_line c.args.letter c.args.numbers.now in
    let long = length_number_line c.args.letter c.args.numbers.now c.requires.small in
    record {
      tells = refused_tells c.args.out.now text _ long c.if-out-length.true;
      leaves = refused_leaves c.args.out.now text _ long c.if-out-length.true;
    }

pub returns : goal.returns
returns c =
    let text = number_line c.args.letter c.args.numbers.now in
    let long = length_number_line c.args.letter c.args.numbers.now c.requires.small in
    record {
      tells = accepted_tells c.args.out.now text _ long c.if-out-length.false;
      leaves = accepted_leaves c.args.out.now text _ long c.if-out-length.false c.write_numbers.new.out (c.write_numbers.ensures ∙ placed_front c.args.out.now text);
    }
