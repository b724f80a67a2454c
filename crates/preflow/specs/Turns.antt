-- The turns of push-relabel as a function.
use Rattle.std.specs.Prelude.{ℕ, zero, suc, ◌+◌, ◌-◌, ◌*◌, ◌%◌, max, cond, List, [], ◌∷◌, map, length, set, replicate, ◌==◌, slice_index, slice_set}
use Rattle.std.specs.List.{range_with_len}
use Rattle.residual.specs.Net.{mate_of}
use Rattle.residual.specs.Search.{levels}
use Rattle.preflow.specs.Push.{Out, scans, lows, serves}

-- each arc with what its mate can carry
unfoldable pub flipped : List ℕ → List ℕ
flipped rs = map (λ a. slice_index rs (mate_of a)) (range_with_len 0 (length rs))

-- the levels of a search backward from the sink, over n points: the sink has level 1, and 0 says that a point has none
abbrev pub aims : (hs rs : List ℕ) (n source sink : ℕ) → List ℕ
aims hs rs n source sink = levels hs (flipped rs) (n + 1) sink source

-- how many arcs it is to the sink by the level; n where none lead there
unfoldable pub dist : (n l : ℕ) → ℕ
dist n l = cond (l == 0) n (l - 1)

-- each height is raised to the distance
unfoldable pub raised : (n : ℕ) (ls ds : List ℕ) → List ℕ
raised n ls ds = map (λ u. max (slice_index ds u) (dist n (slice_index ls u))) (range_with_len 0 (n + 1))

-- what the arcs can still carry, the excess and the height of each point, and the points that wait, the first in front
pub record State : Type 0 where
  pub left : List ℕ
  pub excess : List ℕ
  pub height : List ℕ
  pub queue : List ℕ

-- every 128 turns, first after 127, a search backward from the sink raises the heights
unfoldable pub refreshed : (hs : List ℕ) (n source sink k : ℕ) (rs ds : List ℕ) → List ℕ
refreshed hs n source sink k rs ds = cond (k % 128 == 127) (raised n (aims hs rs n source sink) ds) ds

-- v, which has left the queue, is lifted above the lowest point that it can push to, and pushes
unfoldable pub turned : (hs : List ℕ) (n source sink k v : ℕ) (rs es ds qs : List ℕ) → State
turned hs n source sink k v rs es ds qs =
    let up : List ℕ = refreshed hs n source sink k rs ds in
    let low : ℕ = lows hs rs up v (length hs) 1000 in
    let lifted : List ℕ = set up v (low + 1) in
    let o : Out = serves hs lifted source sink v low rs es qs in
    record { left = o.0; excess = o.1; height = lifted; queue = o.2 }

-- turn k + 1 serves the front of the queue; nothing is done where it is empty
unfoldable pub turn : (hs : List ℕ) (n source sink k : ℕ) → State → (queue : List ℕ) → State
turn hs n source sink k s [] = s
turn hs n source sink k s (v ∷ rest) = turned hs n source sink k v s.left s.excess s.height rest

-- the source at height n, the others at 0
abbrev pub first_heights : (n source : ℕ) → List ℕ
first_heights n source = slice_set (replicate (n + 1) 0) source n

-- the source with more than it can send, the others with nothing
abbrev pub first_excess : (n source : ℕ) → List ℕ
first_excess n source = slice_set (replicate (n + 1) 0) source 1800000001

-- the source has sent all that it can
unfoldable pub opening : (hs : List ℕ) (n source sink : ℕ) (rs : List ℕ) → State
opening hs n source sink rs =
    let o : Out = scans hs (first_heights n source) source sink source 0 (length hs) rs (first_excess n source) [] in
    record { left = o.0; excess = o.1; height = first_heights n source; queue = o.2 }

-- k turns from a state
unfoldable pub after : (hs : List ℕ) (n source sink : ℕ) → State → ℕ → State
after hs n source sink s zero = s
after hs n source sink s (suc k) = turn hs n source sink k (after hs n source sink s k) (after hs n source sink s k).queue

-- after k turns
abbrev pub states : (hs : List ℕ) (n source sink : ℕ) (rs : List ℕ) → ℕ → State
states hs n source sink rs k = after hs n source sink (opening hs n source sink rs) k

-- With S = 1,800,000,001, more than any excess, the sum over the n points of S * (2n - height) + excess * height falls
-- with every turn, and is less than this at first.
unfoldable pub turns_for : ℕ → ℕ
turns_for n = n * (1800000001 * (n + n)) + 1

abbrev pub final : (hs : List ℕ) (n source sink : ℕ) (rs : List ℕ) → State
final hs n source sink rs = states hs n source sink rs (turns_for n)
