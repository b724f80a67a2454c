use Rattle.std.proofs.Common.{true, sym, refl, ap, ◌∙◌, subst}
use Rattle.drawing.specs.Answers.{Right}
use Rattle.drawing.specs.Records.{network, filed}
use Rattle.drawing.specs.Solvers.{Carried, refusal}
use Rattle.scratch.proofs.Filing.{answer_filed, not_refused}
use Rattle.layering.proofs.layer.solving.LayerSolver.solve.Goals as goal

pub write_below-requires : goal.write_below-requires
write_below-requires g c =
    let d = network c.args.drawing.now in
    let k = subst (λ s. Carried s d) c.statements.ensures (c.in_ok-admit.ensures.carries.0 (refl {a = true})) in
    (_, g.met.B.Solver.modest c.args.self.now.below, k)

pub returns-in_err-solve : goal.returns-in_err-solve
returns-in_err-solve g c =
    let d = network c.args.drawing.now in
    let k = subst (λ s. Carried s d) c.statements.ensures (c.in_ok-admit.ensures.carries.0 (refl {a = true})) in
    let m = g.met.B.Solver.modest c.args.self.now.below in
    absurd (not_refused _ _ (g.R.Reduction.below d) _ c.in_err-solve.ensures.refuses c.write_below.ensures (g.met.R.Reduction.carried _ d m k))

pub write_above-requires : goal.write_above-requires
write_above-requires g c =
    let d = network c.args.drawing.now in
    let x = c.args.self.now.below in
    let below = g.R.Reduction.below d in
    let k = subst (λ s. Carried s d) c.statements.ensures (c.in_ok-admit.ensures.carries.0 (refl {a = true})) in
    let met = g.met.B.Solver in
    let e = answer_filed c.solve.new.out _ c.in_ok-solve.ensures.writes ∙ ap (g.B.Solver.answer x) c.write_below.ensures in
    record {
      taken = (_, met.modest x, k);
      right = subst (Right below) (sym e) (met.right x below (g.met.R.Reduction.carried _ d (met.modest x) k));
    }

pub returns : goal.returns
returns g c =
    let d = network c.args.drawing.now in
    let x = c.args.self.now.below in
    let r = g.R.Reduction in
    let solved = c.in_ok-solve.ensures in
    let e = answer_filed c.solve.new.out _ solved.writes ∙ ap (g.B.Solver.answer x) c.write_below.ensures in
    record {
      refuses = c.in_ok-admit.ensures.refuses ∙ ap (λ s. refusal s d) c.statements.ensures;
      writes = c.write_above.ensures ∙ ap (λ a. filed (r.above d a)) e;
      keeps_statements = ap r.states solved.keeps_statements;
      keeps_answers = ap (λ f n. r.above n (f (r.below n))) solved.keeps_answers;
    }
