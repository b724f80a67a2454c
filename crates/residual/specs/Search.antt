-- The level search as a function: levels are a list, 0 says that a point has none.
use Rattle.std.specs.Prelude.{ℕ, zero, suc, ◌+◌, Bool, true, false, cond, ◌&&◌, List, length, replicate, ◌==◌, nat_lt, slice_index, slice_set}
use Rattle.residual.specs.Net.{head_of, tail_of}

-- levels, and whether a point got one
abbrev pub Marks : Type 0
Marks = List ℕ × Bool

-- arc k is tried: an open one to a point with no level gives it the level lv
unfoldable pub touch : (hs rs : List ℕ) (lv k : ℕ) → Marks → Marks
touch hs rs lv k s = cond (nat_lt 0 (slice_index rs k) && slice_index s.0 (head_of hs k) == 0) (slice_set s.0 (head_of hs k) lv, true) s

-- the arcs below k that leave v, by falling number
unfoldable pub spreads : (hs rs : List ℕ) (v lv k : ℕ) → Marks → Marks
spreads hs rs v lv zero s = s
spreads hs rs v lv (suc k) s = spreads hs rs v lv k (cond (tail_of hs k == v) (touch hs rs lv k s) s)

-- from v, where it has level k
unfoldable pub visits : (hs rs : List ℕ) (k v : ℕ) → Marks → Marks
visits hs rs k v s =
    cond (slice_index s.0 v == k)
    (let t : Marks = spreads hs rs v (k + 1) (length hs) (s.0, false) in (t.0, cond t.1 true s.1))
    s

-- one round over the points below v: from each of level k
unfoldable pub rounds : (hs rs : List ℕ) (k v : ℕ) → List ℕ → Marks
rounds hs rs k zero l = (l, false)
rounds hs rs k (suc v) l = visits hs rs k v (rounds hs rs k v l)

-- rounds k, k + 1, .. until one adds nothing, or the sink has a level; at most f of them
unfoldable pub searches : (hs rs : List ℕ) (sink f k : ℕ) → List ℕ → List ℕ
searches hs rs sink zero k l = l
searches hs rs sink (suc f) k l =
    let s : Marks = rounds hs rs k (length l) l in
    cond (s.1 && slice_index s.0 sink == 0) (searches hs rs sink f (k + 1) s.0) s.0

-- The levels from the source among n points: 1 for the source, k + 1 for a point that open arcs lead to from level k, up
-- to the sink's level. Each round but the last gives a point a level, so 129 of them are enough for 129 points.
abbrev pub levels : (hs rs : List ℕ) (n source sink : ℕ) → List ℕ
levels hs rs n source sink = searches hs rs sink 129 1 (slice_set (replicate n 0) source 1)
