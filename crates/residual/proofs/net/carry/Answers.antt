use Rattle.std.proofs.Common.{ℕ, length, get_or, sym, ap, ◌∙◌, arith}
use Rattle.residual.proofs.Moves.{mate_ne, mate_within, moved_is}
use Rattle.residual.proofs.net.carry.Goals as goal

pub shift-requires : goal.shift-requires
shift-requires c =
    let e = c.mate.ensures in
    let w = mate_within c.args.a (length c.args.left.now) c.requires.here.1.1 c.requires.here.0 in
    let same = ap (λ (b : ℕ). get_or c.args.left.now b 0) e in
    record { here = (omega arith, (omega arith, λ q. mate_ne c.args.a (sym e ∙ q))); most = (omega arith, omega arith) }

pub returns : goal.returns
returns c = c.shift.ensures ∙ moved_is c.args.left.now c.args.a c.mate.result c.args.got c.mate.ensures
