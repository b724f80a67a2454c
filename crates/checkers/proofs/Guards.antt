-- A test behind another: the first guards the second.
use Rattle.std.proofs.Common.{◌≡◌, Bool, ◌&&◌, Decides, sym, ◌∙◌}
use Rattle.std.proofs.lemmas.Bool.{and_parts, and_from}

pub guarded : {A F : Type 0} (a f : Bool) → Decides a A → Decides f F → (r : Bool) → r ≡ (a && f) → Decides r (A × F)
guarded a f first second r e = (
  λ t. let (t1, t2) = and_parts _ _ (sym e ∙ t) in (first.0 t1, second.0 t2),
  λ both. e ∙ and_from _ _ (first.1 both.0) (second.1 both.1),
)
