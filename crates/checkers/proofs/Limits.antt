-- The limits of those points that have one, as a list: it is no longer than the points, and its sum is that of the points' limits.
use Rattle.std.proofs.Common.{◌≡◌, ℕ, suc, ◌+◌, ◌≤◌, List, [], ◌∷◌, length, Some, None, Option, Iter, refl, arith}
use Rattle.std.specs.Borrow.{Bor}
use Rattle.std.specs.Fn.{Called}
use Rattle.std.specs.Iterator.Adapters.{filter_map_source, filter_map_callee, filter_map_steps}
use Rattle.std.specs.Slice.Iter.{iter_rest}
use Rattle.std.specs.declared.iter.FilterMap.{FilterMap}
use Rattle.std.specs.List.{filter_map, cons_option, sum_by}
use Rattle.std.proofs.iter.Yields.{fronts}
use Rattle.std.proofs.lemmas.Iterator.{YieldsList-from_slice}
use Rattle.std.proofs.lemmas.Iterator.Adapters.{YieldsAtMost, at_most_from_yields_List}
use Rattle.std.proofs.lemmas.Iterator.Consumers.{YieldsList-from_filter_map}
use Rattle.std.proofs.lemmas.List.Recursion.{is_sum_by}
use Rattle.std.proofs.lemmas.List.Sums.{sum_by-cons}
use denote.Param.Members.{Mut}
use Rattle.drawing.specs.declared.Point.{Point}
use Rattle.drawing.specs.Drawings.{limit_of}

longer : (o : Option ℕ) (xs : List ℕ) → length (cons_option o xs) ≤ suc (length xs)
longer None xs = omega arith
longer (Some l) xs = omega arith

no_longer : (ps : List Point) → length (filter_map (λ p. p.limit) ps) ≤ length ps
no_longer [] = omega arith
no_longer (p ∷ ps) = omega (arith, no_longer ps, longer p.limit (filter_map (λ q. q.limit) ps))

-- a chain that takes the limits of a list of points
pub few_limits : {F : Type 0} {s : FilterMap (Iter Point) F} {g : Mut F (Bor Point × Unit {0}) (Option ℕ)} {f : F} (ps : List Point) (n : ℕ) → iter_rest (filter_map_source s) ≡ ps → length ps ≤ n
    → filter_map_callee s ≡ f → ((x : Bor Point) (r : Option ℕ) (q : F) → Called g f (x, tt) r q → (q ≡ f) × (r ≡ x.now.limit)) → YieldsAtMost (filter_map_steps fronts g) s n
few_limits {g = g} ps n e l callee each =
    at_most_from_yields_List (YieldsList-from_filter_map g (λ p. p.limit) (YieldsList-from_slice ps e) callee each) (omega (arith, l, no_longer ps))

more : (o : Option ℕ) (xs : List ℕ) → sum_by (λ x. x) (cons_option o xs) ≡ limit_of o + sum_by (λ x. x) xs
more None xs = omega arith
more (Some l) xs = sum_by-cons (λ x. x) l xs

pub sum_limits : (ps : List Point) → sum_by (λ x. x) (filter_map (λ p. p.limit) ps) ≡ sum_by (λ p. limit_of p.limit) ps
sum_limits = is_sum_by (λ ps. sum_by (λ x. x) (filter_map (λ p. p.limit) ps)) (λ p. limit_of p.limit) refl (λ p ps. more p.limit (filter_map (λ q. q.limit) ps))
