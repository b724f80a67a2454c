use Rattle.std.proofs.Common.{◌≡◌, true, vec_items, sym, refl, ap, ◌∙◌, subst, arith}
use Rattle.drawing.specs.Answers.{Planned, Right}
use Rattle.drawing.specs.Plans.{Plan, Feasible}
use Rattle.drawing.specs.Records.{network, plan_in, answer_in, filed}
use Rattle.drawing.specs.Solvers.{Carried, refusal}
use Rattle.reductions.specs.LowerBounds.{lowers_first, lowers_second, raised_answer, lowers_above, lowers_states}
use Rattle.reductions.proofs.Carrying.{plain_drawing, lowers_first_carried, lowers_second_carried}
use Rattle.reductions.proofs.LowersFirst.{run_count_lem}
use Rattle.reductions.proofs.LowersSecond.{lowers_right}
use Rattle.scratch.proofs.Filing.{answer_filed, not_refused}
use Rattle.lower_bounds.specs.Verdicts.{shows_shortage}
use Rattle.lower_bounds.proofs.Solving.{few_units, few_lowers, first_room, second_room, planned, above_short, above_raised}
use Rattle.lower_bounds.proofs.layer.solving.LowerBoundsSolver.solve.Goals as goal

pub write_first-requires : goal.write_first-requires
write_first-requires g c =
    let d = network c.args.drawing.now in
    let k = subst (λ s. Carried s d) c.statements.ensures (c.in_ok-admit.ensures.carries.0 (refl {a = true})) in
    let x = c.args.self.now.below in
    let b = g.B.Solver.states x in
    let m = g.met.B.Solver.modest x in
    let room = first_room b d m k in
    record {
      lawful = k.admissible.lawful;
      ends = (plain_drawing b d k).one_each;
      few = few_units b d m k;
      points = omega (arith, room, c.args.drawing.now.points.ok.0);
      runs = omega (arith, room, c.args.drawing.now.points.ok.0, c.args.drawing.now.runs.ok.0);
    }

pub returns-in_err-solve : goal.returns-in_err-solve
returns-in_err-solve g c =
    let d = network c.args.drawing.now in
    let k = subst (λ s. Carried s d) c.statements.ensures (c.in_ok-admit.ensures.carries.0 (refl {a = true})) in
    let m = g.met.B.Solver.modest c.args.self.now.below in
    absurd (not_refused _ _ (lowers_first d) _ c.in_err-solve.ensures.refuses c.write_first.ensures (lowers_first_carried _ d m k))

pub shows_shortage-requires : goal.shows_shortage-requires
shows_shortage-requires g c =
    let d = network c.args.drawing.now in
    let k = subst (λ s. Carried s d) c.statements.ensures (c.in_ok-admit.ensures.carries.0 (refl {a = true})) in
    few_lowers _ d (g.met.B.Solver.modest c.args.self.now.below) k

pub write_short-requires : goal.write_short-requires
write_short-requires g c =
    let d = network c.args.drawing.now in
    let k = subst (λ s. Carried s d) c.statements.ensures (c.in_ok-admit.ensures.carries.0 (refl {a = true})) in
    let x = c.args.self.now.below in
    let b = g.B.Solver.states x in
    let met = g.met.B.Solver in
    let below = lowers_first_carried b d (met.modest x) k in
    let e = answer_filed c.solve.new.out _ c.in_ok-solve.ensures.writes ∙ ap (g.B.Solver.answer x) c.write_first.ensures in
    record {
      ends = (plain_drawing b d k).one_each;
      below = below.admissible;
      right = subst (Right (lowers_first d)) (sym e) (met.right x (lowers_first d) below);
    }

pub returns-then-shows_shortage : goal.returns-then-shows_shortage
returns-then-shows_shortage g c =
    let d = network c.args.drawing.now in
    let x = c.args.self.now.below in
    let solved = c.in_ok-solve.ensures in
    let e = answer_filed c.solve.new.out _ solved.writes ∙ ap (g.B.Solver.answer x) c.write_first.ensures in
    record {
      refuses = c.in_ok-admit.ensures.refuses ∙ ap (λ s. refusal s d) c.statements.ensures;
      writes = c.write_short.ensures ∙ ap filed (above_short d (answer_in c.solve.new.out) (g.B.Solver.answer x) (sym c.if-shows_shortage.ensures))
          ∙ ap (λ a. filed (lowers_above d a (g.B.Solver.answer x))) e;
      keeps_statements = ap lowers_states solved.keeps_statements;
      keeps_answers = ap (λ f n. lowers_above n (f (lowers_first n)) f) solved.keeps_answers;
    }

pub write_second-requires : goal.write_second-requires
write_second-requires g c =
    let d = network c.args.drawing.now in
    let k = subst (λ s. Carried s d) c.statements.ensures (c.in_ok-admit.ensures.carries.0 (refl {a = true})) in
    let x = c.args.self.now.below in
    let b = g.B.Solver.states x in
    let met = g.met.B.Solver in
    let r = c.solve.new.out in
    let e = answer_filed r _ c.in_ok-solve.ensures.writes ∙ ap (g.B.Solver.answer x) c.write_first.ensures in
    let s = planned d r (sym c.if-shows_shortage.ensures) in
    let right = subst (Right (lowers_first d)) (sym e ∙ s) (met.right x (lowers_first d) (lowers_first_carried b d (met.modest x) k)) in
    record {
      long = omega (arith, right.0.flow_count, run_count_lem d, r.flows.ok.0, c.args.drawing.now.runs.ok.0);
      points = omega (arith, k.admissible.few_points, c.args.drawing.now.points.ok.0);
      runs = omega (arith, second_room b d (met.modest x) k (plan_in r) right.0, c.args.drawing.now.runs.ok.0);
    }

pub returns-in_err-solve-2 : goal.returns-in_err-solve-2
returns-in_err-solve-2 g c =
    let d = network c.args.drawing.now in
    let k = subst (λ s. Carried s d) c.statements.ensures (c.in_ok-admit.ensures.carries.0 (refl {a = true})) in
    let x = c.args.self.now.below in
    let b = g.B.Solver.states x in
    let met = g.met.B.Solver in
    let r = c.solve.new.out in
    let solved = c.in_ok-solve.ensures in
    let e = answer_filed r _ solved.writes ∙ ap (g.B.Solver.answer x) c.write_first.ensures in
    let s = planned d r (sym c.if-shows_shortage.ensures) in
    let right = subst (Right (lowers_first d)) (sym e ∙ s) (met.right x (lowers_first d) (lowers_first_carried b d (met.modest x) k)) in
    let again = subst (λ t. Carried t (lowers_second d (plan_in r))) (sym solved.keeps_statements) (lowers_second_carried b d (met.modest x) k (plan_in r) right.0) in
    absurd (not_refused _ _ (lowers_second d (plan_in r)) _ c.in_err-solve-2.ensures.refuses c.write_second.ensures again)

pub write_raised-requires : goal.write_raised-requires
write_raised-requires g c =
    let d = network c.args.drawing.now in
    let k = subst (λ s. Carried s d) c.statements.ensures (c.in_ok-admit.ensures.carries.0 (refl {a = true})) in
    let x = c.args.self.now.below in
    let b = g.B.Solver.states x in
    let answer = g.B.Solver.answer x in
    let met = g.met.B.Solver in
    let plain = plain_drawing b d k in
    let r = c.solve.new.out in
    let p = plan_in r in
    let solved = c.in_ok-solve.ensures in
    let e = answer_filed r _ solved.writes ∙ ap answer c.write_first.ensures in
    let flag = sym c.if-shows_shortage.ensures in
    let s = planned d r flag in
    let right = subst (Right (lowers_first d)) (sym e ∙ s) (met.right x (lowers_first d) (lowers_first_carried b d (met.modest x) k)) in
    let next = λ (q : Plan) (ok : Feasible (lowers_first d) q). met.right x (lowers_second d q) (lowers_second_carried b d (met.modest x) k q ok) in
    let e₂ : answer_in c.solve-2.new.out ≡ answer (lowers_second d p) = answer_filed c.solve-2.new.out _ c.in_ok-solve-2.ensures.writes
    ∙ ap (λ f. f (network c.write_second.new.out.drawing)) solved.keeps_answers ∙ ap answer c.write_second.ensures in
    record {
      admissible = k.admissible;
      given = (plain.no_links, few_units b d (met.modest x) k);
      feasible = right.0;
      below = subst (Right (lowers_second d p)) (sym e₂) (next p right.0);
      right = subst (Right d) (sym (above_raised d p r.total (vec_items r.labels) answer (sym (ap (shows_shortage d) s) ∙ flag)) ∙ ap (raised_answer d p) (sym e₂))
          (lowers_right d plain.lawful plain.no_links plain.no_limits plain.one_each (Planned p r.total (vec_items r.labels)) answer right next);
    }

pub returns : goal.returns
returns g c =
    let d = network c.args.drawing.now in
    let answer = g.B.Solver.answer c.args.self.now.below in
    let r = c.solve.new.out in
    let p = plan_in r in
    let solved = c.in_ok-solve.ensures in
    let again = c.in_ok-solve-2.ensures in
    let e = answer_filed r _ solved.writes ∙ ap answer c.write_first.ensures in
    let flag = sym c.if-shows_shortage.ensures in
    let s = planned d r flag in
    let e₂ : answer_in c.solve-2.new.out ≡ answer (lowers_second d p) = answer_filed c.solve-2.new.out _ again.writes
    ∙ ap (λ f. f (network c.write_second.new.out.drawing)) solved.keeps_answers ∙ ap answer c.write_second.ensures in
    record {
      refuses = c.in_ok-admit.ensures.refuses ∙ ap (λ s. refusal s d) c.statements.ensures;
      writes = c.write_raised.ensures ∙ ap (λ a. filed (raised_answer d p a)) e₂
          ∙ ap filed (above_raised d p r.total (vec_items r.labels) answer (sym (ap (shows_shortage d) s) ∙ flag))
          ∙ ap (λ a. filed (lowers_above d a answer)) (sym s ∙ e);
      keeps_statements = ap lowers_states (again.keeps_statements ∙ solved.keeps_statements);
      keeps_answers = ap (λ f n. lowers_above n (f (lowers_first n)) f) (again.keeps_answers ∙ solved.keeps_answers);
    }
