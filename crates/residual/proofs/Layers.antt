-- The levels of a search are layers.
use Rattle.std.proofs.Common.{◌≡◌, ℕ, zero, suc, ◌+◌, ◌<◌, ◌≤◌, Bool, true, false, cond, ◌&&◌, eqb, ltb, ◌≢◌, ◌⊎◌, List, length, get_or, set, replicate, count_by, sym, refl, ap, ◌∙◌, subst, inl, inr, ⊎_elim, arith, length-set, get_or-set_other, get_or-set_same}
use Rattle.std.proofs.lemmas.List.Sums.{sum_by-set, count_by-le-length}
use Rattle.std.proofs.lemmas.Bool.{eqb-true, eqb-false, ltb-true, cases_eq, cases_lt, cond-true, cond-false, cond_both, eq-eqb, ne_eqb, and_parts, and_cases, true≢false}
use Rattle.std.proofs.lemmas.List.{get_or_past, get_or-replicate, length-replicate}
use Rattle.residual.specs.Net.{head_of, tail_of}
use Rattle.residual.specs.Search.{Marks, touch, spreads, visits, rounds, searches, levels}
use Rattle.residual.specs.Layers.{Into, Layered}
use Rattle.residual.proofs.Chains.{touch_yes, touch_had}

abbrev zeros : List ℕ → ℕ
zeros l = count_by (λ x. eqb x 0) l

-- what a part of a round does: it gives the level lv to some points that had none
record Marked (hs rs : List ℕ) (P : ℕ → Type 0) (lv : ℕ) (s t : Marks) : Type 0 where
  size : length t.0 ≡ length s.0
  kept : (u : ℕ) → 0 < get_or s.0 u 0 → get_or t.0 u 0 ≡ get_or s.0 u 0
  fresh : (u : ℕ) → get_or s.0 u 0 ≡ 0 → (get_or t.0 u 0 ≡ 0) ⊎ ((get_or t.0 u 0 ≡ lv) × Into hs rs P u)
  flag : ((t.1 ≡ s.1) × (t.0 ≡ s.0)) ⊎ ((t.1 ≡ true) × (zeros t.0 < zeros s.0))

marked_none : (hs rs : List ℕ) (P : ℕ → Type 0) (lv : ℕ) (s : Marks) → Marked hs rs P lv s s
marked_none hs rs P lv s = record { size = refl; kept = λ u h. refl; fresh = λ u h. inl h; flag = inl (refl, refl) }

marked_then : (hs rs : List ℕ) (P : ℕ → Type 0) (lv : ℕ) (r s t : Marks) → 0 < lv → Marked hs rs P lv r s → Marked hs rs P lv s t → Marked hs rs P lv r t
marked_then hs rs P lv r s t pos a b = record {
  size = b.size ∙ a.size;
  kept = λ u h. let e = a.kept u h in b.kept u (omega arith) ∙ e;
  fresh = λ u h. ⊎_elim (λ z. b.fresh u z) (λ n. let m = n.0 in let k = b.kept u (omega arith) in inr (k ∙ m, n.1)) (a.fresh u h);
  flag = ⊎_elim
      (λ x. ⊎_elim (λ y. inl (y.0 ∙ x.0, y.1 ∙ x.1)) (λ y. let e = ap zeros x.1 in let l = y.1 in inr (y.0, omega arith)) b.flag)
      (λ x. ⊎_elim (λ y. let e = ap zeros y.1 in let l = x.1 in inr (y.0 ∙ x.0, omega arith)) (λ y. let l = x.1 in let m = y.1 in inr (y.0, omega arith)) b.flag)
      a.flag;
}

fell : (y z p q : ℕ) → y + p ≡ z + q → p ≡ 1 → q ≡ 0 → y < z
fell y z p q e a b = omega arith

zeros_set : (l : List ℕ) (i x : ℕ) → i < length l → get_or l i 0 ≡ 0 → 0 < x → zeros (set l i x) < zeros l
zeros_set l i x h z pos =
    let e : zeros (set l i x) + cond (eqb (get_or l i 0) 0) 1 0 ≡ zeros l + cond (eqb x 0) 1 0 = sum_by-set (λ (y : ℕ). cond (eqb y 0) 1 0) l i x 0 h in
    let a : cond (eqb (get_or l i 0) 0) 1 0 ≡ 1 = cond-true (eqb (get_or l i 0) 0) 1 0 (eq-eqb (get_or l i 0) 0 z) in
    let ne : x ≡ 0 → ⊥ = λ q. omega arith in
    let b : cond (eqb x 0) 1 0 ≡ 0 = cond-false (eqb x 0) 1 0 (ne_eqb x 0 ne) in
    fell (zeros (set l i x)) (zeros l) _ _ e a b

module _ (hs rs : List ℕ) (n : ℕ) (heads : (a : ℕ) → a < length hs → head_of hs a < n) where
  touch_marked : (P : ℕ → Type 0) (lv k : ℕ) (l : List ℕ) (g : Bool) → 0 < lv → k < length hs → length l ≡ n → P (tail_of hs k) → Marked hs rs P lv (l, g) (touch hs rs lv k (l, g))
  unfolding touch
  touch_marked P lv k l g pos kin len p =
      cond_both (ltb 0 (get_or rs k 0) && eqb (get_or l (head_of hs k) 0) 0) (set l (head_of hs k) lv, true) (l, g) (Marked hs rs P lv (l, g))
      (λ t.
      let q = and_parts (ltb 0 (get_or rs k 0)) (eqb (get_or l (head_of hs k) 0) 0) t in
      let wide = ltb-true 0 (get_or rs k 0) q.0 in
      let none = eqb-true (get_or l (head_of hs k) 0) 0 q.1 in
      let hin : head_of hs k < length l = let h = heads k kin in omega arith in
      record {
        size = length-set l (head_of hs k) lv;
        kept = λ u h. let ne : u ≢ head_of hs k = λ e. let z : get_or l u 0 ≡ 0 = ap (λ (x : ℕ). get_or l x 0) e ∙ none in omega arith in get_or-set_other l (head_of hs k) u lv 0 ne;
        fresh = λ u h.
            elim (cases_eq u (head_of hs k)) [
              | inl e ↦ inr (rw e (get_or-set_same l (head_of hs k) lv 0 hin), record { arc = k; within = kin; to = sym e; wide = wide; from = p })
              | inr ne ↦ inl (get_or-set_other l (head_of hs k) u lv 0 ne ∙ h)
            ];
        flag = inr (refl, zeros_set l (head_of hs k) lv hin none pos);
      })
      (λ t. marked_none hs rs P lv (l, g))

  -- after arc k was tried its head has a level
  touch_covers : (lv k : ℕ) (l : List ℕ) (g : Bool) → 0 < lv → k < length hs → length l ≡ n → 0 < get_or rs k 0 → 0 < get_or (touch hs rs lv k (l, g)).0 (head_of hs k) 0
  touch_covers lv k l g pos kin len wide =
      let hin : head_of hs k < length l = let h = heads k kin in omega arith in
      elim (cases_eq (get_or l (head_of hs k) 0) 0) [
        | inl z ↦ rw (touch_yes hs rs lv k l g wide z, get_or-set_same l (head_of hs k) lv 0 hin) pos
        | inr ne ↦ rw (touch_had hs rs lv k l g ne) (omega arith)
      ]

  spreads_marked : (P : ℕ → Type 0) (v lv k : ℕ) (l : List ℕ) (g : Bool) → 0 < lv → k ≤ length hs → length l ≡ n → P v → Marked hs rs P lv (l, g) (spreads hs rs v lv k (l, g))
  unfolding spreads
  spreads_marked P v lv zero l g pos kin len p = marked_none hs rs P lv (l, g)
  spreads_marked P v lv (suc k) l g pos kin len p =
      let step : Marks = cond (eqb (tail_of hs k) v) (touch hs rs lv k (l, g)) (l, g) in
      let kh : k < length hs = omega arith in
      let m : Marked hs rs P lv (l, g) step =
      cond_both (eqb (tail_of hs k) v) (touch hs rs lv k (l, g)) (l, g) (Marked hs rs P lv (l, g))
      (λ t. touch_marked P lv k l g pos kh len (subst P (sym (eqb-true (tail_of hs k) v t)) p))
      (λ t. marked_none hs rs P lv (l, g)) in
      marked_then hs rs P lv (l, g) step _ pos m (spreads_marked P v lv k step.0 step.1 pos (omega arith) (m.size ∙ len) p)

  -- the head of each open arc from v has a level then
  spreads_covers : (v lv k : ℕ) (l : List ℕ) (g : Bool) → 0 < lv → k ≤ length hs → length l ≡ n → (a : ℕ) → a < k → tail_of hs a ≡ v → 0 < get_or rs a 0 → 0 < get_or (spreads hs rs v lv k (l, g)).0 (head_of hs a) 0
  unfolding spreads
  spreads_covers v lv zero l g pos kin len a ain tv wide = absurd (let z : ⊥ = omega arith in z)
  spreads_covers v lv (suc k) l g pos kin len a ain tv wide =
      let step : Marks = cond (eqb (tail_of hs k) v) (touch hs rs lv k (l, g)) (l, g) in
      let kh : k < length hs = omega arith in
      let m : Marked hs rs (λ t. t ≡ v) lv (l, g) step =
      cond_both (eqb (tail_of hs k) v) (touch hs rs lv k (l, g)) (l, g) (Marked hs rs (λ t. t ≡ v) lv (l, g))
      (λ t. touch_marked (λ t. t ≡ v) lv k l g pos kh len (eqb-true (tail_of hs k) v t))
      (λ t. marked_none hs rs (λ t. t ≡ v) lv (l, g)) in
      elim (cases_eq a k) [
        | inl e ↦
            let tk : tail_of hs k ≡ v = subst (λ (x : ℕ). tail_of hs x ≡ v) e tv in
            let wk : 0 < get_or rs k 0 = subst (λ (x : ℕ). 0 < get_or rs x 0) e wide in
            let st : step ≡ touch hs rs lv k (l, g) = cond-true (eqb (tail_of hs k) v) (touch hs rs lv k (l, g)) (l, g) (eq-eqb (tail_of hs k) v tk) in
            let c : 0 < get_or step.0 (head_of hs k) 0 = rw st (touch_covers lv k l g pos kh len wk) in
            let rest = spreads_marked (λ t. t ≡ v) v lv k step.0 step.1 pos (omega arith) (m.size ∙ len) refl in
            let ke = rest.kept (head_of hs k) c in
            rw e (omega arith)
        | inr ne ↦ spreads_covers v lv k step.0 step.1 pos (omega arith) (m.size ∙ len) a (omega arith) tv wide
      ]

  -- a point of level k in the course of a round had it before
  visits_marked : (l₀ : List ℕ) (k v : ℕ) (s : Marks) → 0 < k → length s.0 ≡ n → Marked hs rs (λ t. get_or l₀ t 0 ≡ k) (k + 1) (l₀, false) s → Marked hs rs (λ t. get_or l₀ t 0 ≡ k) (k + 1) s (visits hs rs k v s)
  unfolding visits
  visits_marked l₀ k v s pos len m =
      let P : ℕ → Type 0 = λ t. get_or l₀ t 0 ≡ k in
      let r : Marks = spreads hs rs v (k + 1) (length hs) (s.0, false) in
      cond_both (eqb (get_or s.0 v 0) k) (r.0, cond r.1 true s.1) s (Marked hs rs P (k + 1) s)
      (λ t.
      let here = eqb-true (get_or s.0 v 0) k t in
      let was : get_or l₀ v 0 ≡ k =
      elim (cases_eq (get_or l₀ v 0) 0) [
        | inl z ↦ absurd (⊎_elim (λ y. let b : ⊥ = omega arith in b) (λ y. let q = y.0 in let b : ⊥ = omega arith in b) (m.fresh v z))
        | inr ne ↦ sym (m.kept v (omega arith)) ∙ here
      ] in
      let q = spreads_marked P v (k + 1) (length hs) s.0 false (omega arith) (omega arith) len was in
      record {
        size = q.size;
        kept = q.kept;
        fresh = q.fresh;
        flag = ⊎_elim
            (λ x. inl (ap (λ (b : Bool). cond b true s.1) x.0, x.1))
            (λ x. inr (ap (λ (b : Bool). cond b true s.1) x.0, x.1))
            q.flag;
      })
      (λ t. marked_none hs rs P (k + 1) s)

  rounds_marked : (k v : ℕ) (l : List ℕ) → 0 < k → length l ≡ n → Marked hs rs (λ t. get_or l t 0 ≡ k) (k + 1) (l, false) (rounds hs rs k v l)
  unfolding rounds
  rounds_marked k zero l pos len = marked_none hs rs (λ t. get_or l t 0 ≡ k) (k + 1) (l, false)
  rounds_marked k (suc v) l pos len =
      let m = rounds_marked k v l pos len in
      marked_then hs rs (λ t. get_or l t 0 ≡ k) (k + 1) (l, false) (rounds hs rs k v l) _ (omega arith) m (visits_marked l k v (rounds hs rs k v l) pos (m.size ∙ len) m)

  visits_covers : (k v : ℕ) (s : Marks) → 0 < k → length s.0 ≡ n → get_or s.0 v 0 ≡ k → (a : ℕ) → a < length hs → tail_of hs a ≡ v → 0 < get_or rs a 0 → 0 < get_or (visits hs rs k v s).0 (head_of hs a) 0
  unfolding visits
  visits_covers k v s pos len here a ain tv wide =
      let r : Marks = spreads hs rs v (k + 1) (length hs) (s.0, false) in
      let e : visits hs rs k v s ≡ (r.0, cond r.1 true s.1) = cond-true (eqb (get_or s.0 v 0) k) _ _ (eq-eqb (get_or s.0 v 0) k here) in
      subst (λ (x : Marks). 0 < get_or x.0 (head_of hs a) 0) (sym e) (spreads_covers v (k + 1) (length hs) s.0 false (omega arith) (omega arith) len a ain tv wide)

  rounds_covers : (k v : ℕ) (l : List ℕ) → 0 < k → length l ≡ n → (a : ℕ) → a < length hs → tail_of hs a < v → get_or l (tail_of hs a) 0 ≡ k → 0 < get_or rs a 0 → 0 < get_or (rounds hs rs k v l).0 (head_of hs a) 0
  unfolding rounds
  rounds_covers k zero l pos len a ain tin lk wide = absurd (let z : ⊥ = omega arith in z)
  rounds_covers k (suc v) l pos len a ain tin lk wide =
      let s : Marks = rounds hs rs k v l in
      let m = rounds_marked k v l pos len in
      elim (cases_eq (tail_of hs a) v) [
        | inl e ↦
            let here : get_or s.0 v 0 ≡ k = let q = m.kept (tail_of hs a) (omega arith) in subst (λ (x : ℕ). get_or s.0 x 0 ≡ k) e (q ∙ lk) in
            visits_covers k v s pos (m.size ∙ len) here a ain e wide
        | inr ne ↦
            let c = rounds_covers k v l pos len a ain (omega arith) lk wide in
            let q = visits_marked l k v s pos (m.size ∙ len) m in
            let w = q.kept (head_of hs a) c in
            omega arith
      ]

  -- what holds before round k
  record Before (source k : ℕ) (l : List ℕ) : Type 0 where
    size : length l ≡ n
    pos : 0 < k
    least : (u : ℕ) → get_or l u 0 ≡ 1 → u ≡ source
    first : get_or l source 0 ≡ 1
    reached : (u : ℕ) → 1 < get_or l u 0 → Into hs rs (λ t. get_or l t 0 + 1 ≡ get_or l u 0) u
    low : (u : ℕ) → get_or l u 0 ≤ k
    shut : (a : ℕ) → a < length hs → 0 < get_or l (tail_of hs a) 0 → get_or l (tail_of hs a) 0 < k → 0 < get_or rs a 0 → (0 < get_or l (head_of hs a) 0) × (get_or l (head_of hs a) 0 ≤ get_or l (tail_of hs a) 0 + 1)

  round_more : (tails : (a : ℕ) → a < length hs → tail_of hs a < n) (source k : ℕ) (l : List ℕ) → Before source k l → Before source (k + 1) (rounds hs rs k (length l) l).0
  round_more tails source k l b =
      let m = rounds_marked k (length l) l b.pos b.size in
      let t : List ℕ = (rounds hs rs k (length l) l).0 in
      let kp = b.pos in
      -- a level below k + 1 was there before
      let old : (u : ℕ) → 0 < get_or t u 0 → get_or t u 0 < k + 1 → get_or t u 0 ≡ get_or l u 0 = λ u h c.
      elim (cases_eq (get_or l u 0) 0) [
        | inl z ↦ absurd (⊎_elim (λ y. let f : ⊥ = omega arith in f) (λ y. let q = y.0 in let f : ⊥ = omega arith in f) (m.fresh u z))
        | inr ne ↦ m.kept u (omega arith)
      ] in
      let lowt : (u : ℕ) → get_or t u 0 ≤ k + 1 = λ u.
      elim (cases_eq (get_or l u 0) 0) [
        | inl z ↦ ⊎_elim (λ y. omega arith) (λ y. let q = y.0 in omega arith) (m.fresh u z)
        | inr ne ↦ let ke = m.kept u (omega arith) in let lo = b.low u in omega arith
      ] in
      record {
        size = m.size ∙ b.size;
        pos = omega arith;
        least = λ u h. let o = old u (omega arith) (omega arith) in b.least u (sym o ∙ h);
        first = let f = b.first in m.kept source (omega arith) ∙ f;
        reached = λ u h.
            elim (cases_eq (get_or l u 0) 0) [
              | inl z ↦ ⊎_elim
                  (λ y. absurd (let f : ⊥ = omega arith in f))
                  (λ y.
                  let i = y.1 in
                  let fr = i.from in
                  let ke = m.kept (tail_of hs i.arc) (omega arith) in
                  let q = y.0 in
                  record { arc = i.arc; within = i.within; to = i.to; wide = i.wide; from = omega arith })
                  (m.fresh u z)
              | inr ne ↦
                  let ke = m.kept u (omega arith) in
                  let i = b.reached u (omega arith) in
                  let fr = i.from in
                  let kt = m.kept (tail_of hs i.arc) (omega arith) in
                  record { arc = i.arc; within = i.within; to = i.to; wide = i.wide; from = omega arith }
            ];
        low = lowt;
        shut = λ a ain h c wide.
            let o = old (tail_of hs a) h c in
            elim (cases_eq (get_or l (tail_of hs a) 0) k) [
              | inl e ↦
                  let up = lowt (head_of hs a) in
                  (rounds_covers k (length l) l b.pos b.size a ain (let x = tails a ain in let y = b.size in omega arith) e wide, omega arith)
              | inr ne ↦
                  let s = b.shut a ain (omega arith) (omega arith) wide in
                  let s0 = s.0 in
                  let s1 = s.1 in
                  let ke = m.kept (head_of hs a) s0 in
                  (omega arith, omega arith)
            ];
      }

  module _ (tails : (a : ℕ) → a < length hs → tail_of hs a < n) (source sink : ℕ) where
    layered_end : (k : ℕ) (l : List ℕ) (s : Marks) → k < 130 → Before source k l → Before source (k + 1) s.0 → Marked hs rs (λ t. get_or l t 0 ≡ k) (k + 1) (l, false) s → (s.1 && eqb (get_or s.0 sink 0) 0) ≡ false → Layered hs rs source sink s.0
    layered_end k l s kin b c m t = record {
      least = c.least;
      first = c.first;
      reached = c.reached;
      low = λ u. let q = c.low u in omega arith;
      shut = λ z a ain h wide.
          let dry : s.1 ≡ false = ⊎_elim (λ x. x) (λ x. absurd (eqb-false (get_or s.0 sink 0) 0 x z)) (and_cases s.1 (eqb (get_or s.0 sink 0) 0) t) in
          let same : s.0 ≡ l = ⊎_elim (λ x. x.1) (λ x. absurd (true≢false (sym x.0 ∙ dry))) m.flag in
          let e = ap (λ (y : List ℕ). get_or y (tail_of hs a) 0) same in
          let lo = b.low (tail_of hs a) in
          c.shut a ain h (omega arith) wide;
    }

    searches_layered : (f k : ℕ) (l : List ℕ) → Before source k l → k + f ≤ 130 → zeros l < f → Layered hs rs source sink (searches hs rs sink f k l)
    unfolding searches
    searches_layered zero k l b kf z = absurd (let q : ⊥ = omega arith in q)
    searches_layered (suc f) k l b kf z =
        let s : Marks = rounds hs rs k (length l) l in
        let m = rounds_marked k (length l) l b.pos b.size in
        let c = round_more tails source k l b in
        cond_both (s.1 && eqb (get_or s.0 sink 0) 0) (searches hs rs sink f (k + 1) s.0) s.0 (Layered hs rs source sink)
        (λ t.
        let on = (and_parts s.1 (eqb (get_or s.0 sink 0) 0) t).0 in
        let fewer : zeros s.0 < zeros l = ⊎_elim (λ x. absurd (true≢false (sym on ∙ x.0))) (λ x. x.1) m.flag in
        searches_layered f (k + 1) s.0 c (omega arith) (omega arith))
        (λ t. layered_end k l s (omega arith) b c m t)

    searches_size : (f k : ℕ) (l : List ℕ) → 0 < k → length l ≡ n → length (searches hs rs sink f k l) ≡ n
    unfolding searches
    searches_size zero k l pos len = len
    searches_size (suc f) k l pos len =
        let s : Marks = rounds hs rs k (length l) l in
        let m = rounds_marked k (length l) l pos len in
        cond_both (s.1 && eqb (get_or s.0 sink 0) 0) (searches hs rs sink f (k + 1) s.0) s.0 (λ (x : List ℕ). length x ≡ n)
        (λ t. searches_size f (k + 1) s.0 (omega arith) (m.size ∙ len))
        (λ t. m.size ∙ len)

    pub levels_size : length (levels hs rs n source sink) ≡ n
    levels_size = searches_size 129 1 (set (replicate n 0) source 1) (omega arith) (length-set (replicate n 0) source 1 ∙ length-replicate {A = ℕ} n 0)

    pub levels_layered : n ≤ 129 → source < n → Layered hs rs source sink (levels hs rs n source sink)
    levels_layered small sin =
        let zs : List ℕ = replicate n 0 in
        let l : List ℕ = set zs source 1 in
        let long : length zs ≡ n = length-replicate {A = ℕ} n 0 in
        let sz : source < length zs = omega (arith, long) in
        let none : (u : ℕ) → get_or zs u 0 ≡ 0 = λ u.
        ⊎_elim (λ h. get_or-replicate n u 0 0 h) (λ h. get_or_past zs u 0 (omega (arith, long))) (cases_lt u n) in
        let at : get_or l source 0 ≡ 1 = get_or-set_same zs source 1 0 sz in
        let off : (u : ℕ) → u ≢ source → get_or l u 0 ≡ 0 = λ u ne. get_or-set_other zs source u 1 0 ne ∙ none u in
        let fewer = zeros_set zs source 1 sz (none source) (omega arith) in
        let most = count_by-le-length (λ x. eqb x 0) zs in
        let here : (u : ℕ) → 0 < get_or l u 0 → u ≡ source = λ u h. ⊎_elim (λ e. e) (λ ne. let z = off u ne in absurd (let q : ⊥ = omega arith in q)) (cases_eq u source) in
        let one : (u : ℕ) → 0 < get_or l u 0 → get_or l u 0 ≡ 1 = λ u h. ap (λ (x : ℕ). get_or l x 0) (here u h) ∙ at in
        let b : Before source 1 l = record {
          size = length-set zs source 1 ∙ long;
          pos = omega arith;
          least = λ u h. here u (omega arith);
          first = at;
          reached = λ u h. let o = one u (omega arith) in absurd (let q : ⊥ = omega arith in q);
          low = λ u. ⊎_elim (λ h. let o = one u h in omega arith) (λ h. omega arith) (cases_lt 0 (get_or l u 0));
          shut = λ a ain h c wide. absurd (let q : ⊥ = omega arith in q);
        } in
        searches_layered 129 1 l b (omega arith) (omega arith)
