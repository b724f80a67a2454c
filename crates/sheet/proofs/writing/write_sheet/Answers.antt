use Rattle.std.proofs.Common.{◌≡◌, ℕ, length, sym, ◌∙◌}
use Rattle.drawing.specs.Answers.{Answer, Right}
use Rattle.drawing.specs.Records.{network, answer_in}
use Rattle.rig_drawing.specs.declared.bounded.RigDrawing.{RigDrawing}
use Rattle.sheet.specs.Sheets.{sheet_text, sheet_length}
use Rattle.sheet.proofs.Assembling.{length_sheet, refused_tells, refused_leaves, accepted_tells, accepted_leaves}
use Rattle.sheet.proofs.Fitting.{rig_bounded}
use Rattle.sheet.proofs.writing.write_sheet.Goals as goal

-- the length that is computed is the sheet's
long : (r : RigDrawing) (a : Answer) → Right (network r.drawing) a → (n : ℕ) → n ≡ sheet_length (network r.drawing) a → length (sheet_text (network r.drawing) a) ≡ n
long r a right n e = length_sheet (network r.drawing) (rig_bounded r) a right ∙ sym e

pub returns-then-out-length : goal.returns-then-out-length
returns-then-out-length c =
    let d = network c.args.rig.now.drawing in
    let a = answer_in c.args.answer.now in
    let n = long c.args.rig.now a c.requires.right _ c.sheet_length-length.ensures in
    record {
      tells = refused_tells c.args.out.now (sheet_text d a) _ n c.if-out-length.true;
      leaves = refused_leaves c.args.out.now (sheet_text d a) _ n c.if-out-length.true;
    }

pub returns : goal.returns
returns c =
    let d = network c.args.rig.now.drawing in
    let a = answer_in c.args.answer.now in
    let n = long c.args.rig.now a c.requires.right _ c.sheet_length-length.ensures in
    record {
      tells = accepted_tells c.args.out.now (sheet_text d a) _ n c.if-out-length.false;
      leaves = accepted_leaves c.args.out.now (sheet_text d a) _ n c.if-out-length.false _ c.write_answer.ensures;
    }
