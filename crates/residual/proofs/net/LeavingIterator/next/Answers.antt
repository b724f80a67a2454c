use Rattle.std.proofs.Common.{◌-◌, length, ap, arith}
use Rattle.residual.proofs.Chains.{follow_place}
use Rattle.residual.proofs.Leavers.{leavers_none, leavers_step}
use Rattle.residual.proofs.net.LeavingIterator.next.Goals as goal

pub returns-then-self-eq0-clause-steps : goal.returns-then-self-eq0-clause-steps
returns-then-self-eq0-clause-steps c =
    let s = c.args.self.now in
    let none = leavers_none s.net.head.now s.v s.at c.if-self-eq0.true in (none, none)

pub invariant_of-self : goal.invariant_of-self
invariant_of-self c =
    let s = c.args.self.now in
    record { place = follow_place s.v s.at s.net.chained s.place (omega arith) }

pub returns-clause-steps : goal.returns-clause-steps
returns-clause-steps c =
    let s = c.args.self.now in leavers_step s.v (s.at - 1) s.at s.net.chained s.place (omega arith)

pub returns-clause-goes : goal.returns-clause-goes
returns-clause-goes c =
    let s = c.args.self.now in
    let step = ap length (leavers_step s.v (s.at - 1) s.at s.net.chained s.place (omega arith)) in
    record { on = λ _. (tt, tt, omega (arith, step)); keeps = tt; rests = λ _. tt }
