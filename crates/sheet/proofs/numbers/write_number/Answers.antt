use Rattle.std.proofs.Common.{◌≡◌, ◌-◌, ◌++◌, drop, replicate, pos, nat_abs, decimal, sym, ap, ◌∙◌, arith, w32}
use lib.Signed.{lt_z}
use Rattle.std.proofs.lemmas.Int.{to_z-of_z}
use Rattle.sheet.proofs.Digits.{below_zero}
use Rattle.sheet.proofs.numbers.write_number.Goals as goal

pub returns-then-value-lt0 : goal.returns-then-value-lt0
returns-then-value-lt0 c =
    let first = c.write_digits-first.result in
    let same = to_z-of_z w32 c.args.value c.ranges.value in
    let size : c.unsigned_abs.result ≡ nat_abs c.args.value = c.unsigned_abs.ensures.value ∙ ap nat_abs same in
    below_zero c.args.value first c.write_digits-first.new.cols c.blank.new.cols c.requires.narrow
    (ap (λ v. lt_z v (pos 0)) (sym same) ∙ c.if-value-lt0.true) (omega arith)
    (simp size at c.write_digits-first.ensures.within) (c.write_digits-first.ensures.digits ∙ ap decimal size)
    (c.blank.ensures ∙ ap (λ xs. replicate (first - 1) 32 ++ drop (first - 1) xs) c.write_minus.ensures)
