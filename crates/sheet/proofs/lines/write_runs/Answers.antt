use Rattle.std.proofs.Common.{suc, ◌+◌, ◌*◌, length, get_or, ℤ, pos, ap, ◌∙◌, add-one, arith, w32, SFits, rules}
use Rattle.std.proofs.lemmas.Int.{to_z-of_z}
use Rattle.drawing.specs.Counts.{nth}
use Rattle.drawing.specs.Drawings.{no_run}
use Rattle.sheet.specs.Columns.{placed}
use Rattle.sheet.specs.Sheets.{run_line}
use Rattle.sheet.proofs.Lengths.{length_run_line}
use Rattle.sheet.proofs.Placing.{placed_none, text_more}
use Rattle.sheet.proofs.lines.write_runs.Goals as goal

pub write_run-requires : goal.write_run-requires
write_run-requires c =
    let i = c.loop-i.i in
    let z : ℤ = get_or c.args.flows.now i (pos 0) in
    let fits : SFits w32 z = search rules in
    let small = c.requires.small (suc i) (omega arith) in
    record { room = omega arith; small = simp (to_z-of_z, add-one) small }

pub loop-i-init : goal.loop-i-init
loop-i-init c = placed_none c.args.out.now c.args.a

pub loop-i-preserved : goal.loop-i-preserved
loop-i-preserved c =
    let i = c.loop-i.i in
    let rs = c.args.runs.now in
    let fs = c.args.flows.now in
    let z : ℤ = get_or fs i (pos 0) in
    let fits : SFits w32 z = search rules in
    let at = c.args.a + 34 * i in
    text_more 34 (length rs) (λ k. run_line k (nth rs k no_run) (nth fs k (pos 0))) (λ k w. length_run_line k (nth rs k no_run) (nth fs k (pos 0)) (c.requires.small k w))
    c.args.out.now c.loop-i.out _ c.args.a i c.loop-i-test.true (omega arith) c.loop-i.invariant
    (c.write_run.ensures ∙ ap (λ f. placed c.loop-i.out at (run_line (i + 1) (get_or rs i no_run) f)) (to_z-of_z w32 z fits)
    ∙ ap (λ k. placed c.loop-i.out at (run_line k (get_or rs i no_run) z)) (add-one i))
