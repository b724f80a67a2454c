-- The levels of a search backward from the sink, and the heights.
use Rattle.std.proofs.Common.{◌≡◌, ℕ, zero, suc, ◌+◌, ◌-◌, ◌<◌, ◌≤◌, max, ◌⊎◌, List, length, get_or, ap, inl, inr, ⊎_elim, arith}
use Rattle.std.proofs.lemmas.List.{get_or_past}
use Rattle.std.proofs.lemmas.List.FromFn.{get_or-map-range_with_len, length-map-range_with_len}
use Rattle.std.proofs.lemmas.Bool.{cases_eq, cases_lt, cond-true, cond-false, eq-eqb, ne_eqb}
use Rattle.drawing.specs.Counts.{Within}
use Rattle.residual.specs.Net.{mate_of, head_of, tail_of}
use Rattle.residual.specs.Layers.{Layered}
use Rattle.residual.proofs.Moves.{mate_mate, mate_within}
use Rattle.residual.proofs.Layers.{levels_layered, levels_size}
use Rattle.preflow.specs.Turns.{flipped, aims, dist, raised}
use Rattle.preflow.specs.Preflow.{Steep, Arcs, Ends}
use Rattle.preflow.proofs.Gap.{above, above_falls, above_has, above_most}

module _ (hs rs : List ℕ) (n source sink : ℕ) (l : List ℕ) (la : Layered hs rs sink source l) (inside : (u : ℕ) → 0 < get_or l u 0 → Within n u) where
  -- each level below one that is there is there
  stair : (j : ℕ) (u : ℕ) → 0 < get_or l u 0 → j < get_or l u 0 → (w : ℕ) × (get_or l w 0 + j ≡ get_or l u 0)
  stair zero u pos h = (u, omega arith)
  stair (suc j) u pos h =
      let s = stair j u pos (omega arith) in
      let e = s.1 in
      let i = la.reached s.0 (omega (arith, e, h)) in
      let f = i.from in
      (tail_of hs i.arc, omega (arith, e, f))

  -- so there are no more levels than points
  few : (u : ℕ) → 0 < get_or l u 0 → (j : ℕ) → j < get_or l u 0 → above l j n + j ≤ n
  few u pos zero h = let a = above_most l 0 n in omega (arith, a)
  few u pos (suc j) h =
      let ih = few u pos j (omega arith) in
      let s = stair (get_or l u 0 - suc j) u pos (omega arith) in
      let e = s.1 in
      let w : get_or l s.0 0 ≡ suc j = omega (arith, e, h) in
      let a = above_falls l j s.0 w n (inside s.0 (omega (arith, w))) in
      omega (arith, a, ih)

  pub levels_most : (u : ℕ) → get_or l u 0 ≤ n
  levels_most u =
      ⊎_elim
      (λ pos.
      let j : ℕ = get_or l u 0 - 1 in
      let f = few u pos j (omega (arith, pos)) in
      let a = above_has l j u (omega (arith, pos)) n (inside u pos) in
      omega (arith, f, a, pos))
      (λ z. omega arith)
      (cases_lt 0 (get_or l u 0))

  -- no point is as high as its level, where open arcs go down by at most 1
  pub below_level : (ds : List ℕ) → get_or ds sink 0 ≡ 0 → ((a : ℕ) → a < length hs → 0 < get_or rs a 0 → get_or ds (head_of hs a) 0 ≤ get_or ds (tail_of hs a) 0 + 1) → (k u : ℕ) → 0 < get_or l u 0 → get_or l u 0 ≤ k → get_or ds u 0 + 1 ≤ get_or l u 0
  below_level ds ground steep zero u pos h = absurd (let z : ⊥ = omega arith in z)
  below_level ds ground steep (suc k) u pos h =
      elim (cases_eq (get_or l u 0) 1) [
        | inl e ↦
            let q = ap (λ (x : ℕ). get_or ds x 0) (la.least u e) in
            omega (arith, q, ground, e)
        | inr ne ↦
            let i = la.reached u (omega (arith, pos, ne)) in
            let f = i.from in
            let t = i.to in
            let ih = below_level ds ground steep k (tail_of hs i.arc) (omega (arith, f, pos, ne)) (omega (arith, f, h)) in
            let s = steep i.arc i.within i.wide in
            let q = ap (λ (x : ℕ). get_or ds x 0) t in
            omega (arith, ih, f, s, q)
      ]

pub flipped_at : (rs : List ℕ) (a : ℕ) → a < length rs → get_or (flipped rs) a 0 ≡ get_or rs (mate_of a) 0
unfolding flipped
flipped_at rs a h = get_or-map-range_with_len (λ b. get_or rs (mate_of b) 0) 0 (length rs) a a 0 h (omega arith)

pub raised_at : (n : ℕ) (ls ds : List ℕ) (u : ℕ) → u ≤ n → get_or (raised n ls ds) u 0 ≡ max (get_or ds u 0) (dist n (get_or ls u 0))
unfolding raised
raised_at n ls ds u h = get_or-map-range_with_len (λ v. max (get_or ds v 0) (dist n (get_or ls v 0))) 0 (n + 1) u u 0 (omega arith) (omega arith)

pub raised_length : (n : ℕ) (ls ds : List ℕ) → length (raised n ls ds) ≡ n + 1
unfolding raised
raised_length n ls ds = length-map-range_with_len (λ v. max (get_or ds v 0) (dist n (get_or ls v 0))) 0 (n + 1)

cases_le : (u n : ℕ) → (u ≤ n) ⊎ (n < u)
cases_le u n = ⊎_elim (λ (x : u < n + 1). inl (omega arith)) (λ (x : n + 1 ≤ u). inr (omega arith)) (cases_lt u (n + 1))

dist_zero : (n l : ℕ) → l ≡ 0 → dist n l ≡ n
unfolding dist
dist_zero n l e = cond-true _ _ _ (eq-eqb l 0 e)

dist_pos : (n l : ℕ) → 0 < l → dist n l ≡ l - 1
unfolding dist
dist_pos n l h = cond-false _ _ _ (ne_eqb l 0 (λ q. omega (arith, q, h)))

dist_low : (n l : ℕ) → l ≤ n → dist n l ≤ n
dist_low n l h = ⊎_elim (λ p. let e = dist_pos n l p in omega (arith, e, h)) (λ z. let q : l ≡ 0 = omega arith in let e = dist_zero n l q in omega (arith, e)) (cases_lt 0 l)

module _ (hs rs : List ℕ) (n source sink : ℕ) (ar : Arcs hs n) (en : Ends n source sink) (lr : length rs ≡ length hs) (small : n ≤ 128) (ds : List ℕ)
    (high : get_or ds source 0 ≡ n) (ground : get_or ds sink 0 ≡ 0) (valid : Steep hs rs ds) where
  abbrev lv : List ℕ
  lv = aims hs rs n source sink

  heads : (a : ℕ) → a < length hs → head_of hs a < n + 1
  heads a h = let m = ar.most a h in omega (arith, m)

  tails : (a : ℕ) → a < length hs → tail_of hs a < n + 1
  tails a h = heads (mate_of a) (mate_within a (length hs) ar.even h)

  pub la : Layered hs (flipped rs) sink source lv
  la = let s = en.sink_most in levels_layered hs (flipped rs) (n + 1) heads tails sink source (omega arith) (omega arith)

  -- place 0 has no level, nor has one past the points
  inside : (u : ℕ) → 0 < get_or lv u 0 → Within n u
  inside u h =
      let z = levels_size hs (flipped rs) (n + 1) heads tails sink source in
      let le : u ≤ n = ⊎_elim (λ (x : u < n + 1). omega arith) (λ (x : n + 1 ≤ u). let p = get_or_past lv u 0 (omega (arith, z, x)) in absurd (let b : ⊥ = omega (arith, p, h) in b)) (cases_lt u (n + 1)) in
      elim (cases_eq (get_or lv u 0) 1) [
        | inl e ↦ let q = la.least u e in let s = en.sink_some in (omega (arith, q, s), le)
        | inr ne ↦ let i = la.reached u (omega (arith, h, ne)) in let t = i.to in let s = ar.some i.arc i.within in (omega (arith, t, s), le)
      ]

  flip_steep : (a : ℕ) → a < length hs → 0 < get_or (flipped rs) a 0 → get_or ds (head_of hs a) 0 ≤ get_or ds (tail_of hs a) 0 + 1
  flip_steep a h w =
      let f = flipped_at rs a (omega (arith, lr, h)) in
      let s = valid.steep (mate_of a) (mate_within a (length hs) ar.even h) (omega (arith, f, w)) in
      let q = ap (λ (x : ℕ). get_or ds (get_or hs x 0) 0) (mate_mate a) in
      omega (arith, s, q)

  most : (u : ℕ) → get_or lv u 0 ≤ n
  most = levels_most hs (flipped rs) n source sink lv la inside

  -- the source has no level
  pub unreached : get_or lv source 0 ≡ 0
  unreached =
      ⊎_elim
      (λ pos. let b = below_level hs (flipped rs) n source sink lv la inside ds ground flip_steep (get_or lv source 0) source pos (omega arith) in let m = most source in absurd (let z : ⊥ = omega (arith, b, m, high) in z))
      (λ z. omega arith)
      (cases_lt 0 (get_or lv source 0))

  pub aimed : 0 < get_or lv sink 0
  aimed = let f = la.first in omega (arith, f)

  pub closed : (a : ℕ) → a < length hs → 0 < get_or rs a 0 → 0 < get_or lv (head_of hs a) 0 → (0 < get_or lv (tail_of hs a) 0) × (get_or lv (tail_of hs a) 0 ≤ get_or lv (head_of hs a) 0 + 1)
  closed a h w p =
      let m = mate_within a (length hs) ar.even h in
      let f = flipped_at rs (mate_of a) (omega (arith, lr, m)) in
      let r = ap (λ (x : ℕ). get_or rs x 0) (mate_mate a) in
      let t = ap (λ (x : ℕ). get_or lv (get_or hs x 0) 0) (mate_mate a) in
      let s = la.shut unreached (mate_of a) m (omega (arith, t, p)) (omega (arith, f, r, w)) in
      let s0 = s.0 in
      let s1 = s.1 in
      (s0, omega (arith, s1, t))

  dist_steep : (a : ℕ) → a < length hs → 0 < get_or rs a 0 → dist n (get_or lv (tail_of hs a) 0) ≤ dist n (get_or lv (head_of hs a) 0) + 1
  dist_steep a h w =
      ⊎_elim
      (λ p.
      let c = closed a h w p in
      let c0 = c.0 in
      let c1 = c.1 in
      let x = dist_pos n (get_or lv (head_of hs a) 0) p in
      let y = dist_pos n (get_or lv (tail_of hs a) 0) c0 in
      omega (arith, x, y, c1, p))
      (λ z.
      let q : get_or lv (head_of hs a) 0 ≡ 0 = omega arith in
      let x = dist_zero n (get_or lv (head_of hs a) 0) q in
      let y = dist_low n (get_or lv (tail_of hs a) 0) (most (tail_of hs a)) in
      omega (arith, x, y))
      (cases_lt 0 (get_or lv (head_of hs a) 0))

  abbrev up : List ℕ
  up = raised n lv ds

  pub raised_valid : Steep hs rs up
  raised_valid = record {
    steep = λ a h w.
        let x = raised_at n lv ds (tail_of hs a) (let q = tails a h in omega (arith, q)) in
        let y = raised_at n lv ds (head_of hs a) (ar.most a h) in
        let s = valid.steep a h w in
        let d = dist_steep a h w in
        omega (arith, x, y, s, d);
  }

  pub raised_high : get_or up source 0 ≡ n
  raised_high = let x = raised_at n lv ds source en.source_most in let y = dist_low n (get_or lv source 0) (most source) in omega (arith, x, y, high)

  pub raised_ground : get_or up sink 0 ≡ 0
  raised_ground = let x = raised_at n lv ds sink en.sink_most in let f = la.first in let y = dist_pos n (get_or lv sink 0) (omega (arith, f)) in omega (arith, x, y, f, ground)

  pub raised_low : (u : ℕ) → get_or ds u 0 ≤ n + n → get_or up u 0 ≤ n + n
  raised_low u h =
      ⊎_elim (λ i. let x = raised_at n lv ds u i in let y = dist_low n (get_or lv u 0) (most u) in omega (arith, x, y, h))
      (λ o. let z = get_or_past up u 0 (let e = raised_length n lv ds in omega (arith, e, o)) in omega (arith, z)) (cases_le u n)

  pub raised_up : (u : ℕ) → u ≤ n → get_or ds u 0 ≤ get_or up u 0
  raised_up u i = let x = raised_at n lv ds u i in omega (arith, x)
