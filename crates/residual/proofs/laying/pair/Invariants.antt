use Rattle.std.proofs.Common.{get_or}
use Rattle.drawing.specs.Drawings.{no_run}
use Rattle.residual.specs.Laying.{Laid}
use Rattle.residual.proofs.laying.pair.Given as goal

abbrev pub invariant-loop-k : goal.invariant-loop-k
invariant-loop-k l =
    Laid (λ k. (get_or l.runs k no_run).head) (λ k. (get_or l.runs k no_run).tail) l.k l.head
    × Laid (λ k. (get_or l.runs k no_run).upper) (λ k. 0) l.k l.left
