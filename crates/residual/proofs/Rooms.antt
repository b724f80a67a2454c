-- What the arcs of a plain drawing can carry at first.
use Rattle.std.proofs.Common.{◌≡◌, ℕ, zero, suc, ◌+◌, ◌-◌, ◌*◌, ◌%◌, ◌<◌, ◌≤◌, Bool, cond, List, length, get_or, sym, subst, ap, ◌∙◌, ⊎_elim, arith}
use Rattle.std.proofs.lemmas.Bool.{cases_eq, cond_both}
use Rattle.drawing.specs.declared.Run.{Run}
use Rattle.drawing.specs.Counts.{Within, sum_to}
use Rattle.drawing.specs.Drawings.{Network, point_count, run_count, run}
use Rattle.residual.specs.Net.{mate_of, head_of, tail_of, outs, Bounded}
use Rattle.residual.specs.Laying.{heads_of, room_of, Ends}
use Rattle.residual.specs.Plain.{Plain}
use Rattle.residual.proofs.Moves.{mate_odd}
use Rattle.residual.proofs.Pairs.{mate_double, each_arc}
use Rattle.residual.proofs.Arcs.{length_heads, length_room, room_forth, room_back}
use Rattle.residual.proofs.Cuts.{outs_two}

-- a term is at most the sum
term_le : (n : ℕ) (f : ℕ → ℕ) (k : ℕ) → Within n k → f k ≤ sum_to n f
term_le zero f k w = absurd (let z : ⊥ = omega arith in z)
term_le (suc n) f k w =
    ⊎_elim (λ (q : k ≡ suc n). omega (arith, ap f q)) (λ (q : k ≡ suc n → ⊥). omega (arith, term_le n f k (omega arith))) (cases_eq k (suc n))

cond_le : (b : Bool) (x y : ℕ) → x ≤ y → cond b x 0 ≤ y
cond_le b x y h = cond_both b x 0 (λ (z : ℕ). z ≤ y) (λ t. h) (λ t. omega arith)

module _ (d : Network) (p : Plain d) where
  pub ends : Ends d.runs (point_count d + 1)
  ends = record {
    tails = λ k h. let q = (p.lawful.each_run (suc k) (omega arith)).tail_in in omega arith;
    heads = λ k h. let q = (p.lawful.each_run (suc k) (omega arith)).head_in in omega arith;
  }

  uppers : sum_to (run_count d) (λ k. (run d k).upper) ≤ 1800000000
  uppers = let u = p.few_units in omega arith

  upper_le : (k : ℕ) → k < run_count d → (run d (suc k)).upper ≤ 1800000000
  upper_le k h = let t = term_le (run_count d) (λ k. (run d k).upper) (suc k) (omega arith) in let u = uppers in omega arith

  pub bounded : Bounded (room_of d.runs)
  bounded = record {
    bound = λ a h.
        let long = length_room d.runs in
        each_arc (λ b. get_or (room_of d.runs) b 0 + get_or (room_of d.runs) (mate_of b) 0 ≤ 1800000000) (run_count d)
        (λ k q. let f = room_forth d.runs k q in let b = room_back d.runs k q in let u = upper_le k q in omega arith)
        (λ k q.
        let f = room_forth d.runs k q in
        let b = room_back d.runs k q in
        let u = upper_le k q in
        let here = ap (λ (x : ℕ). get_or (room_of d.runs) x 0) (mate_double k) in
        let odd : (2 * k + 1) % 2 ≡ 1 = omega arith in
        let back : 2 * k + 1 - 1 ≡ 2 * k = omega arith in
        let there = ap (λ (x : ℕ). get_or (room_of d.runs) x 0) (mate_odd (2 * k + 1) odd ∙ back) in
        omega (arith, f, b, u, here, there))
        a (omega arith);
  }

  outs_le : (s : ℕ → Bool) (k : ℕ) → k ≤ run_count d → outs s (heads_of d.runs) (room_of d.runs) (2 * k) ≤ sum_to k (λ j. (run d j).upper)
  unfolding outs
  outs_le s zero h = omega arith
  outs_le s (suc k) h =
      let hs = heads_of d.runs in
      let rs = room_of d.runs in
      let q : k < run_count d = omega arith in
      let ih = outs_le s k (omega arith) in
      let e = outs_two s hs rs k in
      let f = room_forth d.runs k q in
      let b = room_back d.runs k q in
      let x = cond_le (s (tail_of hs (2 * k))) (get_or rs (2 * k) 0) (run d (suc k)).upper (omega arith) in
      let y = cond_le (s (head_of hs (2 * k))) (get_or rs (mate_of (2 * k)) 0) 0 (omega arith) in
      omega (arith, ih, e, x, y)

  -- no set of points can send more than the drawing's units
  pub outs_few : (s : ℕ → Bool) → outs s (heads_of d.runs) (room_of d.runs) (length (heads_of d.runs)) ≤ 1800000000
  outs_few s =
      let l = ap (λ (n : ℕ). outs s (heads_of d.runs) (room_of d.runs) n) (length_heads d.runs) in
      let o = outs_le s (run_count d) (omega arith) in
      let u = uppers in
      omega (arith, l, o, u)

  -- the same of runs and arcs that are the drawing's
  pub ends_at : (runs : List Run) (n : ℕ) → runs ≡ d.runs → point_count d + 1 ≡ n → Ends runs n
  ends_at runs n r e = subst (Ends runs) e (subst (λ (xs : List Run). Ends xs (point_count d + 1)) (sym r) ends)

  pub bounded_at : (rs : List ℕ) → rs ≡ room_of d.runs → Bounded rs
  bounded_at rs r = subst Bounded (sym r) bounded

  pub outs_at : (t : ℕ → Bool) (hs rs : List ℕ) → hs ≡ heads_of d.runs → rs ≡ room_of d.runs → outs t hs rs (length hs) ≤ 1800000000
  outs_at t hs rs h r =
      subst (λ (xs : List ℕ). outs t xs rs (length xs) ≤ 1800000000) (sym h)
      (subst (λ (ys : List ℕ). outs t (heads_of d.runs) ys (length (heads_of d.runs)) ≤ 1800000000) (sym r) (outs_few t))
