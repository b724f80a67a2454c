-- The rack and the bar of a plain drawing are there.
use Rattle.std.proofs.Common.{◌≡◌, ℕ, zero, suc, ◌<◌, List, length, Option, None, Some, IsSome, sym, refl, ap, ◌∙◌, subst, arith}
use Rattle.drawing.specs.declared.Point.{Point}
use Rattle.drawing.specs.Counts.{nth}
use Rattle.drawing.specs.Drawings.{Network, no_point, is_rack, is_bar}
use Rattle.residual.specs.Plain.{Plain, last_to, rack_of, bar_of}
use Rattle.residual.proofs.Terminals.{rack, bar}
use Rattle.filing.specs.Marks.{numbered}

numbered_some : (n : ℕ) → 0 < n → numbered n ≡ Some n
numbered_some zero h = absurd (let z : ⊥ = omega arith in z)
numbered_some (suc n) h = refl

abbrev value : Option ℕ → ℕ
value None = 0
value (Some n) = n

module _ (d : Network) (p : Plain d) (ps : List Point) (same : ps ≡ d.points) (o : Option ℕ) where
  module _ (e : o ≡ numbered (last_to (length ps) (λ v. is_rack (nth ps v no_point).mark))) where
    rack_found : o ≡ Some (rack_of d)
    rack_found =
        e ∙ ap (λ (xs : List Point). numbered (last_to (length xs) (λ v. is_rack (nth xs v no_point).mark))) same
        ∙ numbered_some (rack_of d) (let w = (rack d p).within in omega (arith, w))

    pub rack_some : IsSome o
    rack_some = subst IsSome (sym rack_found) refl

    pub rack_is : (r : ℕ) → o ≡ Some r → r ≡ rack_of d
    rack_is r u = ap value (sym u ∙ rack_found)

  module _ (e : o ≡ numbered (last_to (length ps) (λ v. is_bar (nth ps v no_point).mark))) where
    bar_found : o ≡ Some (bar_of d)
    bar_found =
        e ∙ ap (λ (xs : List Point). numbered (last_to (length xs) (λ v. is_bar (nth xs v no_point).mark))) same
        ∙ numbered_some (bar_of d) (let w = (bar d p).within in omega (arith, w))

    pub bar_some : IsSome o
    bar_some = subst IsSome (sym bar_found) refl

    pub bar_is : (b : ℕ) → o ≡ Some b → b ≡ bar_of d
    bar_is b u = ap value (sym u ∙ bar_found)
