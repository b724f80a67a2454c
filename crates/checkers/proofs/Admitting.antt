-- A result that tells a drawing's refusal is `Ok` exactly when the drawing is carried.
use Rattle.std.proofs.Common.{◌≡◌, Ok, Err, Result, is_ok, Decides, sym, refl, ◌∙◌}
use mathlib.Core.Bool.{false≢true}
use Rattle.drawing.specs.declared.Refusal.{Refusal}
use Rattle.drawing.specs.declared.Statements.{Statements}
use Rattle.drawing.specs.Drawings.{Network}
use Rattle.drawing.specs.Solvers.{Carried, refusal, told}
use Rattle.drawing.proofs.Carrying.{carried, accepted}

pub decides_carried : {U : Type 0} (s : Statements) (d : Network) (r : Result U Refusal) → told r ≡ refusal s d → Decides (is_ok r) (Carried s d)
decides_carried s d (Ok u) e = (λ _. carried s d (sym e), λ _. refl)
decides_carried s d (Err x) e = (λ h. absurd (false≢true h), λ h. let z = e ∙ accepted s d h in cc)
