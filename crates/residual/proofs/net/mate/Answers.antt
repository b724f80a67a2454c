use Rattle.std.proofs.Common.{sym}
use Rattle.std.proofs.lemmas.Bool.{eq-eqb, ne_eqb, cond-true, cond-false}
use Rattle.residual.specs.Net.{mate_of}
use Rattle.residual.proofs.net.mate.Goals as goal

pub returns-then-a-eq0 : goal.returns-then-a-eq0
unfolding mate_of
returns-then-a-eq0 c = sym (cond-true _ _ _ (eq-eqb _ _ c.if-a-eq0.true))

pub returns-else-a-eq0 : goal.returns-else-a-eq0
unfolding mate_of
returns-else-a-eq0 c = sym (cond-false _ _ _ (ne_eqb _ _ c.if-a-eq0.false))
