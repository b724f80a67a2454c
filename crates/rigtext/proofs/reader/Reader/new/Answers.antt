use Rattle.std.proofs.Common.{refl, arith}
use Rattle.rigtext.proofs.Starting.{begins_first}
use Rattle.rigtext.proofs.reader.Reader.new.Goals as goal

pub invariant_of-result : goal.invariant_of-result
invariant_of-result c = record { numbered = omega arith; begins = begins_first _; reached = omega arith; unread = λ h. refl }
