use Rattle.std.proofs.Common.{◌≡◌, Err, sym, ap, ◌∙◌, rules}
use Rattle.drawing.specs.Records.{network}
use Rattle.drawing.proofs.Carrying.{carried}
use Rattle.ledger.specs.Endings.{is_sound, ending_of}
use Rattle.ledger.specs.Ledgers.{reply_of, accepted}
use Rattle.ledger.proofs.Ending.{filed_sound}
use Rattle.ledger.proofs.Solving.{solve_made, solve_refused}
use Rattle.rig.specs.Rigs.{ledger_of}
use Rattle.rig.proofs.rig.Rig.solve.Goals as goal

pub invariant_of-self-2 : goal.invariant_of-self-2
invariant_of-self-2 g c =
    let d = network c.args.self.now.drawing.drawing in
    let s = c.args.solver.now in
    let right = g.met.S.Solver.right s d (carried (g.S.Solver.states s) d (sym c.in_ok-solve_into.ensures.refuses)) in
    record { sound = ap (λ t. is_sound d t c.solve_into.new.out) c.from-self.ensures ∙ filed_sound d _ c.solve_into.new.out c.in_ok-solve_into.ensures.writes right }

pub returns : goal.returns
returns g c =
    let ran = solve_made (ledger_of c.args.self.now) (g.S.Solver.states c.args.solver.now) (g.S.Solver.answer c.args.solver.now) c.from-self.result c.solve_into.new.out c.in_ok-solve_into.ensures.refuses c.from-self.ensures c.in_ok-solve_into.ensures.writes in
    record { told = ran.told; held = ran.held; keeps_statements = c.in_ok-solve_into.ensures.keeps_statements; keeps_answers = c.in_ok-solve_into.ensures.keeps_answers }

pub returns-in_err-solve_into : goal.returns-in_err-solve_into
returns-in_err-solve_into g c =
    let was = c.args.self.now in
    let same = ap (λ r. record { rig = network was.drawing.drawing; ending = ending_of was.standing r }) c.in_err-solve_into.ensures.writes in
    let ran = solve_refused (ledger_of was) (g.S.Solver.states c.args.solver.now) (g.S.Solver.answer c.args.solver.now) c.in_err-solve_into.field-0.0 _ c.in_err-solve_into.ensures.refuses same in
    let err : c.from_residual.result ≡ Err c.in_err-solve_into.field-0.0 = search rules in
    record { told = ap (reply_of (λ _. accepted)) err ∙ ran.told; held = ran.held; keeps_statements = c.in_err-solve_into.ensures.keeps_statements; keeps_answers = c.in_err-solve_into.ensures.keeps_answers }
