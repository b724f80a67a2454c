-- One point's turn as a function: a lift, and pushes.
use Rattle.std.specs.Prelude.{ℕ, zero, suc, ◌+◌, ◌-◌, min, Bool, cond, not, ◌&&◌, List, [], ◌∷◌, ◌++◌, length, set, ◌==◌, nat_lt, slice_index, slice_set}
use Rattle.residual.specs.Net.{head_of, tail_of, moved}

-- an excess of x goes from v to w
unfoldable pub shifted : List ℕ → ℕ → ℕ → ℕ → List ℕ
shifted es v w x =
    let one : List ℕ = set es v (slice_index es v - x) in slice_set one w (slice_index one w + x)

-- u is an inner point, neither the source nor the sink, and has excess
unfoldable pub active : (source sink : ℕ) (es : List ℕ) (u : ℕ) → Bool
active source sink es u = nat_lt 0 (slice_index es u) && (not (u == source) && not (u == sink))

-- arc k at v: it leaves v, is open and goes to a point of height low
unfoldable pub apt : (hs ds : List ℕ) (v low k : ℕ) (rs : List ℕ) → Bool
apt hs ds v low k rs = tail_of hs k == v && (nat_lt 0 (slice_index rs k) && slice_index ds (head_of hs k) == low)

-- w joins the queue at the rear, where it is an inner point and had no excess
unfoldable pub joined : (source sink had w : ℕ) → List ℕ → List ℕ
joined source sink had w qs = cond (had == 0 && (not (w == source) && not (w == sink))) (qs ++ w ∷ []) qs

-- what the arcs can still carry, the excesses and the queue
abbrev pub Out : Type 0
Out = List ℕ × List ℕ × List ℕ

-- the arcs below k that leave v: each apt one takes what it can, until v has no excess
unfoldable pub scans : (hs ds : List ℕ) (source sink v low k : ℕ) (rs es qs : List ℕ) → Out
scans hs ds source sink v low zero rs es qs = (rs, es, qs)
scans hs ds source sink v low (suc k) rs es qs =
    let x : ℕ = min (slice_index es v) (slice_index rs k) in
    let w : ℕ = head_of hs k in
    let js : List ℕ = joined source sink (slice_index es w) w qs in
    cond (apt hs ds v low k rs)
    (cond (slice_index (shifted es v w x) v == 0)
    (moved rs k x, shifted es v w x, js)
    (scans hs ds source sink v low k (moved rs k x) (shifted es v w x) js))
    (scans hs ds source sink v low k rs es qs)

-- the least height that an open arc from v below k goes to
unfoldable pub lows : (hs rs ds : List ℕ) (v k low : ℕ) → ℕ
lows hs rs ds v zero low = low
lows hs rs ds v (suc k) low =
    lows hs rs ds v k (cond (tail_of hs k == v && nat_lt 0 (slice_index rs k)) (min low (slice_index ds (head_of hs k))) low)

-- v, at height low + 1, pushes, and joins the queue again where it has excess left
unfoldable pub serves : (hs ds : List ℕ) (source sink v low : ℕ) (rs es qs : List ℕ) → Out
serves hs ds source sink v low rs es qs =
    let o : Out = scans hs ds source sink v low (length hs) rs es qs in
    (o.0, o.1, cond (nat_lt 0 (slice_index o.1 v)) (o.2 ++ v ∷ []) o.2)
