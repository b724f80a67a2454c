-- A network by its arcs: arc 2k is run k + 1 forward, arc 2k + 1 the same run backward.
-- By arc, hs has the point that it goes to, ns the next arc of its chain and rs what it can still carry; by point, fs
-- has where its chain starts. The tail of an arc is the head of its mate.
use Rattle.std.specs.Prelude.{◌≡◌, ℕ, zero, suc, ◌+◌, ◌-◌, ◌%◌, ◌<◌, ◌≤◌, Bool, cond, List, [], ◌∷◌, length, set, ◌==◌, slice_index, slice_set}

-- the same run's other arc
unfoldable pub mate_of : ℕ → ℕ
mate_of a = cond (a % 2 == 0) (a + 1) (a - 1)

abbrev pub head_of : List ℕ → ℕ → ℕ
head_of hs a = slice_index hs a

abbrev pub tail_of : List ℕ → ℕ → ℕ
tail_of hs a = slice_index hs (mate_of a)

-- the last arc below k that leaves v, plus 1; or 0
unfoldable pub before : List ℕ → ℕ → ℕ → ℕ
before hs v zero = 0
before hs v (suc k) = cond (tail_of hs k == v) (suc k) (before hs v k)

-- the arcs below k that leave v, by falling numbers
unfoldable pub leavers : List ℕ → ℕ → ℕ → List ℕ
leavers hs v zero = []
leavers hs v (suc k) = cond (tail_of hs k == v) (k ∷ leavers hs v k) (leavers hs v k)

-- the chains of the arcs that leave each of n points
pub record Chained (hs ns : List ℕ) (n : ℕ) : Type 0 where
  pub nexts : length ns ≡ length hs
  pub short : length hs ≤ 2048
  pub even : length hs % 2 ≡ 0
  pub heads : (a : ℕ) → a < length hs → slice_index hs a < n
  pub chain : (a : ℕ) → a < length hs → slice_index ns a ≡ before hs (tail_of hs a) a

-- where the chain of each point starts
pub record Started (hs fs : List ℕ) : Type 0 where
  pub start : (v : ℕ) → v < length fs → slice_index fs v ≡ before hs v (length hs)

-- a place in the chain of v: an arc that leaves v, plus 1; or 0
pub record Place (hs : List ℕ) (v at : ℕ) : Type 0 where
  pub within : at ≤ length hs
  pub leaves : 0 < at → tail_of hs (at - 1) ≡ v

-- each current arc is a place in its point's chain
pub record Placed (hs cs : List ℕ) : Type 0 where
  pub place : (v : ℕ) → v < length cs → Place hs v (slice_index cs v)

-- no pair of arcs can carry more than the units of the largest drawing
pub record Bounded (rs : List ℕ) : Type 0 where
  pub bound : (a : ℕ) → a < length rs → slice_index rs a + slice_index rs (mate_of a) ≤ 1800000000

-- what can still leave the points of p along the arcs below k
unfoldable pub outs : (p : ℕ → Bool) (hs rs : List ℕ) (k : ℕ) → ℕ
outs p hs rs zero = 0
outs p hs rs (suc k) = outs p hs rs k + cond (p (tail_of hs k)) (slice_index rs k) 0

-- what the arcs can still carry once `got` has gone along arc k
unfoldable pub moved : List ℕ → ℕ → ℕ → List ℕ
moved rs k got =
    let one : List ℕ = set rs k (slice_index rs k - got) in slice_set one (mate_of k) (slice_index one (mate_of k) + got)

-- rs came of rs₀ by a flow of this total from the source to the sink: the pairs are kept, and each set of points
-- has lost the total where the source is in it, and gained it where the sink is
pub record Sent (hs : List ℕ) (source sink : ℕ) (rs₀ rs : List ℕ) (total : ℕ) : Type 0 where
  pub same : length rs ≡ length rs₀
  pub pairs : (a : ℕ) → slice_index rs a + slice_index rs (mate_of a) ≡ slice_index rs₀ a + slice_index rs₀ (mate_of a)
  pub flow : (p : ℕ → Bool) → outs p hs rs (length hs) + cond (p source) total 0 ≡ outs p hs rs₀ (length hs) + cond (p sink) total 0
