-- The arcs that the code writes are those of the runs.
use Rattle.std.proofs.Common.{◌≡◌, ℕ, ◌+◌, ◌*◌, ◌/◌, ◌%◌, ◌<◌, cond, eqb, List, length, get_or, set, sym, ap, ◌∙◌, arith}
use Rattle.std.proofs.lemmas.List.FromFn.{fill_by_all, length-map-range_with_len, get_or-map-range_with_len}
use Rattle.std.proofs.lemmas.Bool.{cond-true, cond-false, eq-eqb, ne_eqb}
use Rattle.drawing.specs.declared.Run.{Run}
use Rattle.drawing.specs.Drawings.{no_run}
use Rattle.residual.specs.Net.{before, mate_of, head_of, tail_of, Started}
use Rattle.residual.specs.Laying.{paired, heads_of, room_of, firsts_of, Ends, Laid}
use Rattle.residual.proofs.Moves.{mate_mate}
use Rattle.residual.proofs.Pairs.{each_arc, two_even, two_odd, mate_double}

pub paired_is : (f g : ℕ → ℕ) (m : ℕ) (xs : List ℕ) → length xs ≡ 2 * m → Laid f g m xs → xs ≡ paired f g m
unfolding paired
paired_is f g m xs len l =
    fill_by_all (λ a. cond (eqb (a % 2) 0) (f (a / 2)) (g (a / 2))) xs (2 * m) 0 len
    (each_arc (λ a. get_or xs a 0 ≡ cond (eqb (a % 2) 0) (f (a / 2)) (g (a / 2))) m
    (λ k h.
    let z : (2 * k) % 2 ≡ 0 = omega arith in
    let q : 2 * k / 2 ≡ k = omega arith in
    l.forth k h ∙ sym (ap f q) ∙ sym (cond-true (eqb (2 * k % 2) 0) (f (2 * k / 2)) (g (2 * k / 2)) (eq-eqb (2 * k % 2) 0 z)))
    (λ k h.
    let z : (2 * k + 1) % 2 ≡ 0 → ⊥ = λ y. omega arith in
    let q : (2 * k + 1) / 2 ≡ k = omega arith in
    l.back k h ∙ sym (ap g q) ∙ sym (cond-false (eqb ((2 * k + 1) % 2) 0) (f ((2 * k + 1) / 2)) (g ((2 * k + 1) / 2)) (ne_eqb ((2 * k + 1) % 2) 0 z))))

-- one pair more
pub laid_more : (f g : ℕ → ℕ) (i x y : ℕ) (xs : List ℕ) → 2 * i + 1 < length xs → x ≡ f i → y ≡ g i → Laid f g i xs → Laid f g (i + 1) (set (set xs (2 * i) x) (2 * i + 1) y)
laid_more f g i x y xs h ex ey l = record {
  forth = λ k kin. two_even xs i x y h k (f k) kin (l.forth k) (λ e. ex ∙ ap f (sym e));
  back = λ k kin. two_odd xs i x y h k (g k) kin (l.back k) (λ e. ey ∙ ap g (sym e));
}

module _ (f g : ℕ → ℕ) (m : ℕ) where
  pub length_paired : length (paired f g m) ≡ 2 * m
  unfolding paired
  length_paired = length-map-range_with_len (λ a. cond (eqb (a % 2) 0) (f (a / 2)) (g (a / 2))) 0 (2 * m)

  pub paired_laid : Laid f g m (paired f g m)
  unfolding paired
  paired_laid = record {
    forth = λ k h.
        let z : (2 * k) % 2 ≡ 0 = omega arith in
        let q : 2 * k / 2 ≡ k = omega arith in
        get_or-map-range_with_len (λ a. cond (eqb (a % 2) 0) (f (a / 2)) (g (a / 2))) 0 (2 * m) (2 * k) (2 * k) 0 (omega arith) (omega arith)
        ∙ cond-true (eqb (2 * k % 2) 0) (f (2 * k / 2)) (g (2 * k / 2)) (eq-eqb (2 * k % 2) 0 z) ∙ ap f q;
    back = λ k h.
        let z : (2 * k + 1) % 2 ≡ 0 → ⊥ = λ y. omega arith in
        let q : (2 * k + 1) / 2 ≡ k = omega arith in
        get_or-map-range_with_len (λ a. cond (eqb (a % 2) 0) (f (a / 2)) (g (a / 2))) 0 (2 * m) (2 * k + 1) (2 * k + 1) 0 (omega arith) (omega arith)
        ∙ cond-false (eqb ((2 * k + 1) % 2) 0) (f ((2 * k + 1) / 2)) (g ((2 * k + 1) / 2)) (ne_eqb ((2 * k + 1) % 2) 0 z) ∙ ap g q;
  }

module _ (runs : List Run) where
  pub length_heads : length (heads_of runs) ≡ 2 * length runs
  length_heads = length_paired (λ k. (get_or runs k no_run).head) (λ k. (get_or runs k no_run).tail) (length runs)

  pub length_room : length (room_of runs) ≡ 2 * length runs
  length_room = length_paired (λ k. (get_or runs k no_run).upper) (λ k. 0) (length runs)

  -- the ends of run k + 1 are those of its forward arc
  pub head_of_lem : (k : ℕ) → k < length runs → head_of (heads_of runs) (2 * k) ≡ (get_or runs k no_run).head
  head_of_lem = (paired_laid (λ k. (get_or runs k no_run).head) (λ k. (get_or runs k no_run).tail) (length runs)).forth

  pub tail_of_lem : (k : ℕ) → k < length runs → tail_of (heads_of runs) (2 * k) ≡ (get_or runs k no_run).tail
  tail_of_lem k h = ap (λ (x : ℕ). get_or (heads_of runs) x 0) (mate_double k) ∙ (paired_laid (λ k. (get_or runs k no_run).head) (λ k. (get_or runs k no_run).tail) (length runs)).back k h

  pub back_head : (k : ℕ) → k < length runs → head_of (heads_of runs) (2 * k + 1) ≡ (get_or runs k no_run).tail
  back_head k h = ap (λ (x : ℕ). get_or (heads_of runs) x 0) (sym (mate_double k)) ∙ tail_of_lem k h

  pub back_tail : (k : ℕ) → k < length runs → tail_of (heads_of runs) (2 * k + 1) ≡ (get_or runs k no_run).head
  back_tail k h = ap (λ (x : ℕ). tail_of (heads_of runs) x) (sym (mate_double k)) ∙ ap (λ (x : ℕ). get_or (heads_of runs) x 0) (mate_mate (2 * k)) ∙ head_of_lem k h

  pub room_forth : (k : ℕ) → k < length runs → get_or (room_of runs) (2 * k) 0 ≡ (get_or runs k no_run).upper
  room_forth = (paired_laid (λ k. (get_or runs k no_run).upper) (λ k. 0) (length runs)).forth

  pub room_back : (k : ℕ) → k < length runs → get_or (room_of runs) (mate_of (2 * k)) 0 ≡ 0
  room_back k h = ap (λ (x : ℕ). get_or (room_of runs) x 0) (mate_double k) ∙ (paired_laid (λ k. (get_or runs k no_run).upper) (λ k. 0) (length runs)).back k h

  pub heads_within : (n : ℕ) → Ends runs n → (a : ℕ) → a < length (heads_of runs) → head_of (heads_of runs) a < n
  heads_within n w a h =
      let long = length_heads in
      each_arc (λ b. head_of (heads_of runs) b < n) (length runs)
      (λ k q. let e = head_of_lem k q in let x = w.heads k q in omega arith)
      (λ k q.
      let e : head_of (heads_of runs) (2 * k + 1) ≡ (get_or runs k no_run).tail = (paired_laid (λ k. (get_or runs k no_run).head) (λ k. (get_or runs k no_run).tail) (length runs)).back k q in
      let x = w.tails k q in omega arith)
      a (omega arith)

pub firsts_is : (hs fs : List ℕ) (n : ℕ) → length fs ≡ n → Started hs fs → fs ≡ firsts_of hs n
unfolding firsts_of
firsts_is hs fs n len st = fill_by_all (λ v. before hs v (length hs)) fs n 0 len (λ k h. st.start k (omega arith))

pub length_firsts : (hs : List ℕ) (n : ℕ) → length (firsts_of hs n) ≡ n
unfolding firsts_of
length_firsts hs n = length-map-range_with_len (λ v. before hs v (length hs)) 0 n

pub firsts_started : (hs : List ℕ) (n : ℕ) → Started hs (firsts_of hs n)
unfolding firsts_of
firsts_started hs n = record {
  start = λ v h. let l = length-map-range_with_len (λ v. before hs v (length hs)) 0 n in get_or-map-range_with_len (λ v. before hs v (length hs)) 0 n v v 0 (omega arith) (omega arith);
}
