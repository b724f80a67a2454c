-- What is written of a chain of iterators.
use Rattle.std.proofs.Common.{◌≡◌, ℕ, ◌+◌, ◌≤◌, true, List, ◌++◌, length, take, Option, sym, ap, ◌∙◌, ap₂, subst, take_all, length-append, arith}
use Rattle.std.specs.Iterator.{DrainsIf}
use Rattle.std.specs.Iterator.Runs.{WholeRun}
use Rattle.std.proofs.iter.runs.Made.{took}
use Rattle.std.proofs.lemmas.Iterator.{YieldsList, items_from_drains}
use Rattle.std.proofs.lemmas.List.{map-id}

-- all that the chain gives, after what stood before, where there is room for it
pub written : {S A : Type 0} {steps : S → Option A → S → Type 0} {s : S} {all : List A} (out before old : List A) (room : ℕ)
    → WholeRun steps s (λ p. out ≡ take room (before ++ p.items)) → YieldsList steps (λ x. x) s all → before ≡ old → length old + length all ≤ room → out ≡ old ++ all
written {steps = steps} {all = all} out before old room (p, at, whole, e) road b h =
    let d = subst (λ k. DrainsIf steps (p.whole ≡ true) k p.items) at (took p) in
    let same = sym (map-id p.items) ∙ items_from_drains p.items (d.0, d.1, λ _. d.2 whole) road in
    e ∙ ap (take room) (ap₂ ◌++◌ b same) ∙ take_all room (old ++ all) (omega (arith, length-append old all, h))
