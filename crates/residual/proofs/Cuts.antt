-- From the arcs' facts to the drawing's: the balance of every set of points, and the worth of the near points.
use Rattle.std.proofs.Common.{◌≡◌, ℕ, zero, suc, ◌+◌, ◌-◌, ◌*◌, ◌%◌, ◌<◌, ◌≤◌, Bool, true, false, cond, not, ◌&&◌, List, length, get_or, sym, refl, ap, ◌∙◌, subst, ap₂, ⊎_elim, arith}
use Rattle.std.proofs.lemmas.Bool.{cases_lt, true≢false}
use Rattle.drawing.specs.Counts.{sum_to, only}
use Rattle.drawing.specs.Drawings.{Network, run_count, run}
use Rattle.residual.specs.Net.{mate_of, head_of, tail_of, outs, Sent}
use Rattle.residual.specs.Laying.{heads_of, room_of}
use Rattle.residual.specs.Readings.{Solved}
use Rattle.residual.proofs.Moves.{mate_within, mate_mate, mate_even}
use Rattle.residual.proofs.Pairs.{mate_double}
use Rattle.residual.proofs.Arcs.{length_heads, head_of_lem, tail_of_lem, room_forth, room_back}

-- what the two arcs of a run add
pub outs_two : (p : ℕ → Bool) (hs rs : List ℕ) (k : ℕ) → outs p hs rs (2 * suc k) ≡ outs p hs rs (2 * k) + (cond (p (tail_of hs (2 * k))) (get_or rs (2 * k) 0) 0 + cond (p (head_of hs (2 * k))) (get_or rs (mate_of (2 * k)) 0) 0)
unfolding outs
outs_two p hs rs k =
    let two : 2 * suc k ≡ suc (suc (2 * k)) = omega arith in
    let ev : (2 * k) % 2 ≡ 0 = omega arith in
    let m : mate_of (2 * k) ≡ suc (2 * k) = mate_even (2 * k) ev ∙ (let z : 2 * k + 1 ≡ suc (2 * k) = omega arith in z) in
    let t : tail_of hs (suc (2 * k)) ≡ head_of hs (2 * k) = ap (λ (x : ℕ). tail_of hs x) (sym m) ∙ ap (λ (x : ℕ). get_or hs x 0) (mate_mate (2 * k)) in
    let a = ap (λ (x : ℕ). outs p hs rs x) two in
    let b : cond (p (tail_of hs (suc (2 * k)))) (get_or rs (suc (2 * k)) 0) 0 ≡ cond (p (head_of hs (2 * k))) (get_or rs (mate_of (2 * k)) 0) 0 =
    ap (λ (x : ℕ). cond (p x) (get_or rs (suc (2 * k)) 0) 0) t ∙ ap (λ (x : ℕ). cond (p (head_of hs (2 * k))) (get_or rs x 0) 0) (sym m) in
    omega (arith, a, b)

-- the arcs of run k: r and s now, c and 0 at first
balanced_pair : (x y : Bool) (r s c z : ℕ) → r + s ≡ c → z ≡ 0 → (cond x r 0 + cond y s 0) + only x s ≡ (cond x c 0 + cond y z 0) + only y s
balanced_pair true true r s c z e zz = omega arith
balanced_pair true false r s c z e zz = omega arith
balanced_pair false true r s c z e zz = omega arith
balanced_pair false false r s c z e zz = omega arith

shut_pair : (x y : Bool) (r s c z : ℕ) → r + s ≡ c → z ≡ 0 → (x ≡ true → y ≡ false → r ≡ 0) → (y ≡ true → x ≡ false → s ≡ 0) → only (x && not y) c + (cond x r 0 + cond y s 0) ≡ cond x c 0 + cond y z 0
shut_pair true true r s c z e zz a b = omega arith
shut_pair true false r s c z e zz a b = let q = a refl refl in omega arith
shut_pair false true r s c z e zz a b = let q = b refl refl in omega arith
shut_pair false false r s c z e zz a b = omega arith

module _ (d : Network) (source sink : ℕ) (rs : List ℕ) (total : ℕ) (sent : Sent (heads_of d.runs) source sink (room_of d.runs) rs total) where
  abbrev hs : List ℕ
  hs = heads_of d.runs

  abbrev rs₀ : List ℕ
  rs₀ = room_of d.runs

  -- the flow of run k
  abbrev pub carried : ℕ → ℕ
  carried k = get_or rs (2 * k - 1) 0

  pub carried_is : (k : ℕ) → carried (suc k) ≡ get_or rs (mate_of (2 * k)) 0
  carried_is k = let e : 2 * suc k - 1 ≡ 2 * k + 1 = omega arith in ap (λ (x : ℕ). get_or rs x 0) (e ∙ sym (mate_double k))

  -- forward and backward a run can carry its upper in all
  pub whole : (k : ℕ) → k < run_count d → get_or rs (2 * k) 0 + carried (suc k) ≡ (run d (suc k)).upper
  whole k h =
      let p = sent.pairs (2 * k) in
      let f = room_forth d.runs k h in
      let b = room_back d.runs k h in
      let c = carried_is k in
      omega arith

  -- one run more of a set of points
  balance_pairs : (p : ℕ → Bool) (m : ℕ) → m ≤ run_count d → outs p hs rs (2 * m) + sum_to m (λ k. only (p (run d k).tail) (carried k)) ≡ outs p hs rs₀ (2 * m) + sum_to m (λ k. only (p (run d k).head) (carried k))
  unfolding outs
  balance_pairs p zero h = refl
  balance_pairs p (suc k) h =
      let kin : k < run_count d = omega arith in
      let ih = balance_pairs p k (omega arith) in
      let e = outs_two p hs rs k in
      let f = outs_two p hs rs₀ k in
      let w = whole k kin in
      let c = balanced_pair (p (tail_of hs (2 * k))) (p (head_of hs (2 * k))) (get_or rs (2 * k) 0) (get_or rs (mate_of (2 * k)) 0) (get_or rs₀ (2 * k) 0) (get_or rs₀ (mate_of (2 * k)) 0)
      (omega (arith, w, carried_is k, room_forth d.runs k kin)) (room_back d.runs k kin) in
      let t = ap₂ (λ (x y : ℕ). only (p x) y) (sym (tail_of_lem d.runs k kin)) (carried_is k) in
      let u = ap₂ (λ (x y : ℕ). only (p x) y) (sym (head_of_lem d.runs k kin)) (carried_is k) in
      omega (arith, ih, e, f, c, t, u)

  -- at each set of points what enters plus the supply is what leaves plus the delivery
  pub balance : (p : ℕ → Bool) → sum_to (run_count d) (λ k. only (p (run d k).head) (carried k)) + cond (p source) total 0 ≡ sum_to (run_count d) (λ k. only (p (run d k).tail) (carried k)) + cond (p sink) total 0
  balance p =
      let b = balance_pairs p (run_count d) (omega arith) in
      let x = ap (λ (n : ℕ). outs p hs rs n) (length_heads d.runs) in
      let y = ap (λ (n : ℕ). outs p hs rs₀ n) (length_heads d.runs) in
      let q = sent.flow p in
      omega (arith, b, x, y, q)

module _ (d : Network) (source sink : ℕ) (rs : List ℕ) (near : ℕ → Bool) (total : ℕ) (s : Solved d source sink rs near total) where
  abbrev heads : List ℕ
  heads = heads_of d.runs

  even : length heads % 2 ≡ 0
  even = let e = length_heads d.runs in omega arith

  -- an arc from near to far carries all it can
  full : (a : ℕ) → a < length heads → near (tail_of heads a) ≡ true → near (head_of heads a) ≡ false → get_or rs a 0 ≡ 0
  full a h n f = ⊎_elim (λ w. absurd (true≢false (sym (s.shut a h n w) ∙ f))) (λ w. omega arith) (cases_lt 0 (get_or rs a 0))

  worth_pairs : (m : ℕ) → m ≤ run_count d → sum_to m (λ k. only (near (run d k).tail && not (near (run d k).head)) (run d k).upper) + outs near heads rs (2 * m) ≡ outs near heads (room_of d.runs) (2 * m)
  unfolding outs
  worth_pairs zero h = refl
  worth_pairs (suc k) h =
      let kin : k < run_count d = omega arith in
      let ih = worth_pairs k (omega arith) in
      let long = length_heads d.runs in
      let ain : 2 * k < length heads = omega arith in
      let bin = mate_within (2 * k) (length heads) even ain in
      let e = outs_two near heads rs k in
      let f = outs_two near heads (room_of d.runs) k in
      let w = whole d source sink rs total s.sent k kin in
      let up = room_forth d.runs k kin in
      let c = shut_pair (near (tail_of heads (2 * k))) (near (head_of heads (2 * k))) (get_or rs (2 * k) 0) (get_or rs (mate_of (2 * k)) 0) (get_or (room_of d.runs) (2 * k) 0) (get_or (room_of d.runs) (mate_of (2 * k)) 0)
      (omega (arith, w, carried_is d source sink rs total s.sent k, up)) (room_back d.runs k kin)
      (λ n g. full (2 * k) ain n g)
      (λ n g. full (mate_of (2 * k)) bin (subst (λ (x : ℕ). near (get_or heads x 0) ≡ true) (sym (mate_mate (2 * k))) n) g) in
      let t = ap₂ (λ (x y : ℕ). only (near x && not (near y)) (run d (suc k)).upper) (sym (tail_of_lem d.runs k kin)) (sym (head_of_lem d.runs k kin)) in
      let u = ap (λ (x : ℕ). only (near (tail_of heads (2 * k)) && not (near (head_of heads (2 * k)))) x) (sym up) in
      omega (arith, ih, e, f, c, t, u)

  -- the uppers of the runs from near to far sum to the total
  pub crossed : sum_to (run_count d) (λ k. only (near (run d k).tail && not (near (run d k).head)) (run d k).upper) ≡ total
  crossed =
      let w = worth_pairs (run_count d) (omega arith) in
      let x = ap (λ (n : ℕ). outs near heads rs n) (length_heads d.runs) in
      let y = ap (λ (n : ℕ). outs near heads (room_of d.runs) n) (length_heads d.runs) in
      let q = s.sent.flow near in
      let a = ap (λ (b : Bool). cond b total 0) s.near_source in
      let b = ap (λ (b : Bool). cond b total 0) s.far_sink in
      omega (arith, w, x, y, q, a, b)
