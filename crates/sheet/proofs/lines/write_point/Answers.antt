use Rattle.std.proofs.Common.{◌≡◌, [], ◌∷◌, length, pos, ap, ◌∙◌, arith}
use Rattle.drawing.specs.Codes.{label_letter}
use Rattle.sheet.specs.Columns.{columns, placed}
use Rattle.sheet.specs.Sheets.{line_front}
use Rattle.sheet.proofs.Lengths.{length_columns}
use Rattle.sheet.proofs.Passing.{small_passed}
use Rattle.sheet.proofs.Placing.{lent, placed_more}
use Rattle.sheet.proofs.lines.write_point.Goals as goal

pub returns : goal.returns
returns c =
    let numbers = pos c.args.number ∷ [] in
    let ending = 32 ∷ label_letter c.args.label ∷ 10 ∷ [] in
    let long : length (columns (pos c.args.number ∷ [])) ≡ 8 = length_columns numbers (c.requires.small, tt) in
    let passed = small_passed c.args.number c.requires.small in
    lent c.write_front.new.out c.copy_from_slice.new.self ending _ _ (c.copy_from_slice.ensures.after ∙ ap (λ l. 32 ∷ l ∷ 10 ∷ []) c.letter.ensures) (omega arith)
    ∙ placed_more c.args.out.now c.args.a (line_front 107 numbers) (omega arith) c.write_front.new.out ending _
    (c.write_front.ensures ∙ ap (λ z. placed c.args.out.now c.args.a (line_front 107 (z ∷ []))) passed) (omega arith)
