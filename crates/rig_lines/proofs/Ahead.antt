-- A scan from a place on, over the bytes that pass a test.
use Rattle.std.proofs.Common.{◌≡◌, ℕ, ◌+◌, ◌-◌, Bool, List, length, take, drop, take_while, ap, ◌∙◌}
use Rattle.std.specs.List.{prefix_len}
use Rattle.std.proofs.lemmas.List.{take_rest}
use Rattle.std.proofs.lemmas.List.Folds.{length-prefix_len}

-- the place after those that pass
pub scanned_to : (p : ℕ → Bool) (xs : List ℕ) (i : ℕ) {n : ℕ} → n ≡ length (take_while p (take (length xs - i) (drop i xs))) → i + n ≡ i + prefix_len p (drop i xs)
scanned_to p xs i e = ap (λ k. i + k) (e ∙ length-prefix_len p (take (length xs - i) (drop i xs)) ∙ ap (prefix_len p) (take_rest xs i))
