-- The place of the one that passes a test.
use Rattle.std.proofs.Common.{◌≡◌, ℕ, zero, suc, ◌-◌, ◌<◌, Bool, true, false, List, length, Some, None, Option, sym, ap, ◌∙◌, arith}
use Rattle.std.specs.List.{AllWithin, HoldsAt}
use Rattle.std.specs.Option.{MatchOption}
use Rattle.std.proofs.lemmas.Bool.{eqb-true, both_ways}
use Rattle.drawing.specs.Counts.{Within, count_to, nth}
use Rattle.reductions.specs.LowerBounds.{the_one}
use Rattle.reductions.proofs.Ones.{one}

module _ {X : Type 0} (d : X) (t : X → Bool) (xs : List X) where
  passes_none : (v : ℕ) → Within (length xs) v → t (nth xs v d) ≡ true → AllWithin (λ x. t x ≡ false) xs 0 (length xs) → ⊥
  passes_none zero w e h = omega arith
  passes_none (suc k) w e h = both_ways (t (nth xs (suc k) d)) (h k d (omega arith) (omega arith)) e

  -- the first that passes
  pub one_found : (r : Option ℕ) → count_to (length xs) (λ v. t (nth xs v d)) ≡ 1
      → MatchOption r (AllWithin (λ x. t x ≡ false) xs 0 (length xs)) (λ i. (i < length xs) × HoldsAt (λ x. t x ≡ true) xs i × AllWithin (λ x. t x ≡ false) xs 0 i)
      → r ≡ Some (the_one (length xs) (λ v. t (nth xs v d)) - 1)
  one_found None e h = let o = one (length xs) (λ v. t (nth xs v d)) e in absurd (passes_none _ o.inside o.passes h)
  one_found (Some i) e (lt, at, before) =
      let o = one (length xs) (λ v. t (nth xs v d)) e in
      let q = eqb-true (suc i) (the_one (length xs) (λ v. t (nth xs v d))) (sym (o.alone (suc i) (omega arith)) ∙ at d) in
      ap (λ k. Some k) (omega (arith, q))
