-- What a sum over a chain is at most, where the chain gives few numbers and each is small.
use Rattle.std.proofs.Common.{◌≡◌, ℕ, ◌+◌, ◌-◌, ◌/◌, ◌<◌, ◌≤◌, true, List, length, Iter, Option, arith}
use Rattle.std.specs.Fn.{Called}
use Rattle.std.specs.Iterator.Adapters.{map_source, map_callee, map_steps, zip_first, zip_second}
use Rattle.std.specs.Iterator.Runs.{Run}
use Rattle.std.specs.List.{fold}
use Rattle.std.specs.declared.iter.Map.{Map}
use Rattle.std.specs.Slice.Iter.{iter_rest}
use Rattle.std.specs.declared.iter.Zip.{Zip}
use Rattle.std.proofs.iter.Yields.{fronts}
use Rattle.std.proofs.lemmas.Iterator.{YieldsList-from_slice, YieldsList-from_zip, zips}
use Rattle.std.proofs.lemmas.Iterator.Adapters.{YieldsAtMost, at_most_from_yields_List, fits_from_length}
use Rattle.std.proofs.lemmas.Slice.Zip.{length-zip}
use denote.Param.Members.{Mut}

pub sum_below_top : {S A F : Type 0} {steps : S → Option A → S → Type 0} {s : Map S F} {g : Mut F (A × Unit {0}) ℕ} (r n top : ℕ) (f : F)
    → (p : Run (map_steps steps g)) × (p.from ≡ s) × (p.whole ≡ true) × (r ≡ fold (λ a x. a + x) 0 p.items)
    → YieldsAtMost steps (map_source s) n → map_callee s ≡ f → 0 < top → ((x : A) (r : ℕ) (q : F) → Called g f (x, tt) r q → (q ≡ f) × (r ≤ (top - 1) / n)) → r < top
sum_below_top {g = g} r n top f run few callee some each =
    omega (arith, run.3, fits_from_length g f n top few callee some each run.0 run.0.seen run.1)

-- a chain from a list, and one from the pairs of two lists
pub items_few : {A : Type 0} {s : Iter A} (xs : List A) (n : ℕ) → iter_rest s ≡ xs → length xs ≤ n → YieldsAtMost fronts s n
items_few xs n e l = at_most_from_yields_List (YieldsList-from_slice xs e) l

pub pairs_few : {A B : Type 0} {s : Zip (Iter A) (Iter B)} (xs : List A) (ys : List B) (n : ℕ) → iter_rest (zip_first s) ≡ xs → iter_rest (zip_second s) ≡ ys → length xs ≤ n
    → YieldsAtMost (zips fronts fronts) s n
pairs_few xs ys n e f l = at_most_from_yields_List (YieldsList-from_zip (YieldsList-from_slice xs e) (YieldsList-from_slice ys f)) (omega (arith, length-zip xs ys))
