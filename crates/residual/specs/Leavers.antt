-- The arcs that an iterator has left.
use Rattle.std.specs.Prelude.{ℕ, List}
use Rattle.residual.specs.Net.{leavers}
use Rattle.residual.specs.declared.net.Leaving.{Leaving}

abbrev pub leavers_left : Leaving → List ℕ
leavers_left s = leavers s.net.head.now s.v s.at
