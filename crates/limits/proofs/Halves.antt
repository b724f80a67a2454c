-- A list of two halves, each as long as another list, beside that list.
use Rattle.std.proofs.Common.{◌≡◌, ℕ, suc, ◌+◌, ◌≤◌, List, length, drop, sym, ap, ◌∙◌, ap₂, arith}
use Rattle.std.specs.List.{zip}
use Rattle.std.proofs.lemmas.List.{get_or-drop, length-drop}
use Rattle.std.proofs.lemmas.Slice.Zip.{get_or-zip}
use Rattle.drawing.specs.Counts.{nth}
use Rattle.drawing.proofs.Lists.{Reads}
use Rattle.reductions.proofs.Listed.{reads_pairs, length_pairs}

module _ {X Y : Type 0} (d : X) (e : Y) (xs : List X) (ys : List Y) (n : ℕ) (same : n ≡ length xs) (long : length ys ≡ length xs + length xs) where
  front : length xs ≤ length ys
  front = omega (arith, long)

  back : length (zip xs ys) ≤ length (drop n ys)
  back = omega (arith, same, long, length-drop n ys, length_pairs d e xs ys front)

  pub length_halves : length (zip (zip xs ys) (drop n ys)) ≡ length xs
  length_halves = length_pairs (d, e) e (zip xs ys) (drop n ys) back ∙ length_pairs d e xs ys front

  pub reads_halves : {Z : Type 0} (h : (X × Y) × Y → Z) → Reads (λ v. h ((nth xs v d, nth ys v e), nth ys (length xs + v) e)) h (zip (zip xs ys) (drop n ys))
  reads_halves h k p l =
      let lt : suc k ≤ length xs = omega (arith, l, length_halves) in
      let q : length xs + suc k ≡ suc (n + k) = omega (arith, same) in
      ap₂ (λ a b. h (a, b)) (sym (get_or-zip xs ys k (d, e) lt (omega (arith, lt, front)))) (ap (λ i. nth ys i e) q ∙ sym (get_or-drop n ys k e))
      ∙ reads_pairs h (d, e) e (zip xs ys) (drop n ys) back k p l
