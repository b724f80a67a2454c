use Rattle.std.proofs.Common.{ℤ, sym, ap, ◌∙◌, subst, arith, w32, rules}
use Rattle.std.proofs.lemmas.Int.{to_z-of_z}
use Rattle.sheet.specs.Columns.{column, Narrow}
use Rattle.sheet.proofs.Digits.{length_column}
use Rattle.sheet.proofs.Lengths.{narrow}
use Rattle.sheet.proofs.Placing.{lent}
use Rattle.sheet.proofs.numbers.write_at.Goals as goal

pub write_number-requires : goal.write_number-requires
write_number-requires c =
    let same = to_z-of_z w32 c.args.value c.ranges.value in
    record { eight = search rules; narrow = subst (λ (z : ℤ). Narrow z) (sym same) (narrow c.args.value c.requires.small) }

pub returns : goal.returns
returns c =
    let z = c.args.value in
    lent c.args.out.now c.write_number.new.cols (column z) c.args.a _
    (c.write_number.ensures ∙ ap column (to_z-of_z w32 z c.ranges.value)) (omega (arith, length_column z (narrow z c.requires.small)))
