-- The blocking flow as a function. By point, ls has the levels and cs the current arcs, each as a place in its chain.
use Rattle.std.specs.Prelude.{ℕ, zero, suc, ◌-◌, min, Bool, cond, ◌&&◌, List, ◌==◌, nat_lt, slice_index, slice_set}
use Rattle.residual.specs.Net.{head_of, tail_of, moved}

-- what the arcs can still carry, the current arcs, and what is left of the limit
abbrev pub Out : Type 0
Out = List ℕ × List ℕ × ℕ

-- arc k at v: it leaves v, is open and goes to a point of level lv
unfoldable pub apt : (hs ls : List ℕ) (v lv k : ℕ) (rs : List ℕ) → Bool
apt hs ls v lv k rs = tail_of hs k == v && (nat_lt 0 (slice_index rs k) && slice_index ls (head_of hs k) == lv)

-- o came of the push from the head of arc k; the scan ends there if nothing is left
unfoldable pub taken : (v k left amount : ℕ) (o : Out) (more : ℕ → List ℕ → List ℕ → Out) → Out
taken v k left amount o more =
    cond (left - (amount - o.2) == 0)
    (moved o.0 k (amount - o.2), slice_set o.1 v (suc k), 0)
    (more (left - (amount - o.2)) (moved o.0 k (amount - o.2)) o.1)

-- the arcs below k that leave v: each apt one is pushed along by P
unfoldable pub scans : (hs ls : List ℕ) (P : ℕ → ℕ → List ℕ → List ℕ → Out) (v lv k left : ℕ) (rs cs : List ℕ) → Out
scans hs ls P v lv zero left rs cs = (rs, slice_set cs v 0, left)
scans hs ls P v lv (suc k) left rs cs =
    cond (apt hs ls v lv k rs)
    (taken v k left (min left (slice_index rs k)) (P (head_of hs k) (min left (slice_index rs k)) rs cs) (λ l r c. scans hs ls P v lv k l r c))
    (scans hs ls P v lv k left rs cs)

-- from v, d levels before the sink's level `top`, at most lim
unfoldable pub pushes : (hs ls : List ℕ) (sink top d v lim : ℕ) (rs cs : List ℕ) → Out
pushes hs ls sink top zero v lim rs cs = (rs, cs, cond (v == sink) 0 lim)
pushes hs ls sink top (suc d) v lim rs cs =
    scans hs ls (pushes hs ls sink top d) v (top - d) (slice_index cs v) lim rs cs
