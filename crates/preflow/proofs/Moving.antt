-- One push of the code, and what it keeps.
use Rattle.std.proofs.Common.{◌≡◌, ℕ, ◌+◌, ◌<◌, ◌≤◌, min, ◌≢◌, List, length, get_or, set, sym, ap, ◌∙◌, arith, get_or-set_other}
use Rattle.drawing.specs.Counts.{Within}
use Rattle.residual.specs.Net.{mate_of, head_of, tail_of, moved, Bounded}
use Rattle.preflow.specs.Push.{shifted, joined}
use Rattle.preflow.specs.Preflow.{whole, Arcs, Lined}
use Rattle.preflow.proofs.Sums.{pair_le}
use Rattle.preflow.proofs.Kept.{Kept, kept_one}
use Rattle.preflow.proofs.Lines.{line_push, line_idle, line_short}

pub kept_bounded : (hs ds : List ℕ) (n v low : ℕ) (rs es rs' es' : List ℕ) → Kept hs ds n v low rs es rs' es' → Bounded rs → Bounded rs'
kept_bounded hs ds n v low rs es rs' es' k b = record { bound = λ a h. let e = k.pairs a in let l = k.same in let q = b.bound a (omega (arith, l, h)) in omega (arith, e, q) }

module _ (rs ds es : List ℕ) {hs : List ℕ} {n v low a x : ℕ} (ar : Arcs hs n) (p : (a < length hs) × (tail_of hs a ≡ v))
    (lr : length rs ≡ length hs) (le : length es ≡ n + 1) (vin : Within n v) (act : 0 < get_or es v 0) (wide : 0 < get_or rs a 0) (up : get_or ds (head_of hs a) 0 ≡ low) (nv : get_or ds v 0 ≢ low)
    (is : x ≡ min (get_or es v 0) (get_or rs a 0)) where
  pub ain : a < length hs
  ain = p.0

  win : Within n (head_of hs a)
  win = (ar.some a ain, ar.most a ain)

  pub push_kept : Kept hs ds n v low rs es (moved rs a x) (shifted es v (head_of hs a) x)
  push_kept =
      kept_one hs ds n v low a x rs es lr ar.even le ain p.1 vin win up nv (omega (arith, is)) (omega (arith, is))

  apart : v ≢ head_of hs a
  apart q = nv (ap (λ (y : ℕ). get_or ds y 0) q ∙ up)

  pub room_fits : Bounded rs → get_or rs (mate_of a) 0 + x ≤ 1800000000
  room_fits bd =
      let i = ain in
      let g = bd.bound a (omega (arith, i, lr)) in
      omega (arith, g, is)

  pub excess_fits : whole es n ≤ 1800000001 → (y : ℕ) → get_or (set es v y) (head_of hs a) 0 + x ≤ 1800000001
  excess_fits wh y =
      let w = head_of hs a in
      let o = get_or-set_other es v w y 0 (λ q. apart (sym q)) in
      let s = pair_le (λ u. get_or es u 0) v w n vin win apart in
      omega (arith, o, s, is, wh)

  module _ (source sink : ℕ) (qs : List ℕ) (l : Lined source sink v es qs) where
    pub push_lined : Lined source sink v (shifted es v (head_of hs a) x) (joined source sink (get_or es (head_of hs a) 0) (head_of hs a) qs)
    push_lined =
        let m = win.1 in
        let vm = vin.1 in
        line_push source sink v (head_of hs a) x es qs apart (omega (arith, le, vm)) (omega (arith, le, m)) (omega (arith, is, act, wide)) l

    pub join_fits : get_or es (head_of hs a) 0 ≡ 0 → length qs ≤ n
    join_fits e = line_short source sink v es qs l n le (head_of hs a) win.1 (line_idle source sink v es qs l (head_of hs a) e)
