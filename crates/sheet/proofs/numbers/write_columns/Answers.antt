use Rattle.std.proofs.Common.{◌+◌, ◌*◌, length, get_or, ℤ, pos, ap, ◌∙◌, arith, w32, SFits, rules}
use Rattle.std.proofs.ByRecursion.{All-get_or}
use Rattle.std.proofs.lemmas.Int.{to_z-of_z}
use Rattle.drawing.specs.Counts.{nth}
use Rattle.sheet.specs.Columns.{column, Small, placed}
use Rattle.sheet.proofs.Lengths.{length_each}
use Rattle.sheet.proofs.Placing.{placed_none, text_more}
use Rattle.sheet.proofs.numbers.write_columns.Goals as goal

pub loop-i-init : goal.loop-i-init
loop-i-init c = placed_none c.args.out.now c.args.a

pub write_at-requires : goal.write_at-requires
write_at-requires c =
    let zs = c.args.numbers.now in
    let fits : SFits w32 (get_or zs c.loop-i.i (pos 0)) = search rules in
    record { room = omega arith; small = simp to_z-of_z (All-get_or Small zs c.loop-i.i (pos 0) c.loop-i-test.true c.requires.small) }

pub loop-i-preserved : goal.loop-i-preserved
loop-i-preserved c =
    let zs = c.args.numbers.now in
    let z : ℤ = get_or zs c.loop-i.i (pos 0) in
    let fits : SFits w32 z = search rules in
    text_more 8 (length zs) (λ k. column (nth zs k (pos 0))) (length_each zs c.requires.small) c.args.out.now c.loop-i.out _ c.args.a c.loop-i.i
    c.loop-i-test.true (omega arith) c.loop-i.invariant
    (c.write_at.ensures ∙ ap (λ v. placed c.loop-i.out (c.args.a + 8 * c.loop-i.i) (column v)) (to_z-of_z w32 z fits))
