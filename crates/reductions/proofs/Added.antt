-- Runs with others added behind them: how many there are, which stands where, and sums over all of them.
use Rattle.std.proofs.Common.{◌≡◌, ℕ, zero, suc, ◌+◌, ◌-◌, ◌<◌, ◌≤◌, Bool, true, List, ◌++◌, length, filter, sym, refl, ap, ◌∙◌, subst, ap₂, ⊎_elim, arith, length-append}
use Rattle.std.specs.List.{range_with_len}
use Rattle.std.proofs.lemmas.List.{length-map}
use Rattle.std.proofs.lemmas.List.FromFn.{length-range_with_len, get_or-range_with_len}
use Rattle.std.proofs.lemmas.Bool.{cases_lt}
use Rattle.drawing.specs.declared.Run.{Run}
use Rattle.drawing.specs.Counts.{Within, sum_to, only, count_to, nth}
use Rattle.drawing.specs.Drawings.{no_run}
use Rattle.reductions.specs.Added.{added}
use Rattle.drawing.proofs.Sums.{sum_same}
use Rattle.reductions.proofs.Places.{sum_append, sum_picked, nth_front, nth_rest, nth_map, length_picked, nth_picked, sum_longer, each_picked, only_same}

nth_counting : (n k : ℕ) → Within n k → nth (range_with_len 1 n) k 0 ≡ k
nth_counting n zero w = refl
nth_counting n (suc k) w = omega (arith, get_or-range_with_len 1 n k 0 (omega arith))

module _ (xs : List Run) (n : ℕ) (t : ℕ → Bool) (make : ℕ → Run) where
  abbrev pub all : List Run
  all = xs ++ added n t make

  -- the number of what v added
  abbrev pub place : ℕ → ℕ
  place v = length xs + count_to v t

  -- t over the list 1 .. n is t
  renamed : (k : ℕ) → k ≤ n → count_to k (λ i. t (nth (range_with_len 1 n) i 0)) ≡ count_to k t
  renamed k h = sum_same k _ _ (λ i w. ap (λ j. only (t j) 1) (nth_counting n i (omega arith)))

  picked_count : length (filter t (range_with_len 1 n)) ≡ count_to n t
  picked_count = length_picked t 0 (range_with_len 1 n) ∙ ap (λ z. count_to z (λ i. t (nth (range_with_len 1 n) i 0))) (length-range_with_len 1 n) ∙ renamed n (omega arith)

  pub count_all : length all ≡ length xs + count_to n t
  count_all = length-append xs (added n t make) ∙ ap (λ z. length xs + z) (length-map (filter t (range_with_len 1 n)) make ∙ picked_count)

  rank_in : (v : ℕ) → Within n v → t v ≡ true → Within (count_to n t) (count_to v t)
  rank_in zero w e = omega arith
  rank_in (suc v) w e = omega (arith, sum_longer n (suc v) (λ i. only (t i) 1) w.1, ap (λ b. only b 1) e)

  pub front_in : (k : ℕ) → Within (length xs) k → Within (length all) k
  front_in k w = omega (arith, count_all)

  pub place_in : (v : ℕ) → Within n v → t v ≡ true → Within (length all) (place v)
  place_in v w e = omega (arith, count_all, rank_in v w e)

  pub at_front : (k : ℕ) → Within (length xs) k → nth all k no_run ≡ nth xs k no_run
  at_front k w = nth_front xs (added n t make) k no_run w

  pub at_place : (v : ℕ) → Within n v → t v ≡ true → nth all (place v) no_run ≡ make v
  at_place v w e =
      let c = count_to v t in
      let in_list : Within (length (range_with_len 1 n)) v = omega (arith, length-range_with_len 1 n) in
      let passes : t (nth (range_with_len 1 n) v 0) ≡ true = ap t (nth_counting n v w) ∙ e in
      nth_rest xs (added n t make) c no_run (rank_in v w e).0
      ∙ nth_map make (filter t (range_with_len 1 n)) c 0 no_run (omega (arith, rank_in v w e, picked_count))
      ∙ ap make (ap (λ z. nth (filter t (range_with_len 1 n)) z 0) (sym (renamed v w.1)) ∙ nth_picked t 0 (range_with_len 1 n) v in_list passes ∙ nth_counting n v w)

  -- a sum over all, by what was there and by what each v added
  pub sum_all : (g : Run → ℕ → ℕ) → sum_to (length all) (λ k. g (nth all k no_run) k)
      ≡ sum_to (length xs) (λ k. g (nth xs k no_run) k) + sum_to n (λ v. only (t v) (g (make v) (place v)))
  sum_all g =
      let m = length xs in
      let f : ℕ → ℕ = λ k. g (nth all k no_run) k in
      ap (λ z. sum_to z f) count_all
      ∙ sum_append m (count_to n t) f
      ∙ ap₂ ◌+◌ (sum_same m f _ (λ k w. ap (λ r. g r k) (at_front k w)))
      (sum_picked n t (λ j. f (m + j)) ∙ sum_same n _ _ (λ v w. only_same (t v) _ _ (λ e. ap (λ r. g r (place v)) (at_place v w e))))

  -- what holds of each
  pub each_all : (P : Run → ℕ → Type 0) → ((k : ℕ) → Within (length xs) k → P (nth xs k no_run) k)
      → ((v : ℕ) → Within n v → t v ≡ true → P (make v) (place v))
      → (k : ℕ) → Within (length all) k → P (nth all k no_run) k
  each_all P front rear k w =
      ⊎_elim
      (λ (h : length xs < k). behind h)
      (λ (h : k ≤ length xs). subst (λ r. P r k) (sym (at_front k (omega arith))) (front k (omega arith)))
      (cases_lt (length xs) k)
    where
      behind : length xs < k → P (nth all k no_run) k
      behind h =
          let q : length xs + (k - length xs) ≡ k = omega arith in
          subst (λ i. P (nth all i no_run) i) q
          (each_picked (λ j. P (nth all (length xs + j) no_run) (length xs + j)) n t
          (λ v u e. subst (λ r. P r (place v)) (sym (at_place v u e)) (rear v u e))
          (k - length xs) (omega (arith, count_all)))
