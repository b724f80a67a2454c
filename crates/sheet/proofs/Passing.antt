-- A small number is passed to a call as it is meant.
use Rattle.std.proofs.Common.{◌≡◌, ℕ, ℤ, pos, negsuc, ap, ◌∙◌, arith, w32, SFits, to_z, of_z}
use Rattle.std.proofs.lemmas.Int.{to_z-of_z, to_z_pos}
use Rattle.sheet.specs.Columns.{Small}

pub small_passed : (n : ℕ) → Small (pos n) → to_z w32 n ≡ pos n
small_passed n h = to_z_pos w32 n (omega arith)

pub small_fits : (z : ℤ) → Small z → SFits w32 z
small_fits (pos n) h = record { sfits = omega arith }
small_fits (negsuc n) h = record { sfits = omega arith }

-- one that is passed again
pub passed_on : (z y : ℤ) → z ≡ y → Small y → to_z w32 (of_z w32 z) ≡ y
passed_on z y e h = ap (λ v. to_z w32 (of_z w32 v)) e ∙ to_z-of_z w32 y (small_fits y h)
