-- What push-relabel keeps, and what it ends in.
use Rattle.std.specs.Prelude.{◌≡◌, ℕ, ◌+◌, ◌%◌, ◌<◌, ◌≤◌, Bool, cond, not, ◌&&◌, List, length, ◌==◌, ◌≢◌, slice_index, slice_index_or}
use Rattle.drawing.specs.Counts.{sum_to, only}
use Rattle.residual.specs.Net.{mate_of, head_of, tail_of, outs, Sent}
use Rattle.preflow.specs.Push.{active}
use Rattle.preflow.specs.Fifo.{times}

-- all excess of the points 1 .. n
abbrev pub whole : (es : List ℕ) (n : ℕ) → ℕ
whole es n = sum_to n (λ u. slice_index es u)

-- the excess of those of p
abbrev pub exc : (p : ℕ → Bool) (es : List ℕ) (n : ℕ) → ℕ
exc p es n = sum_to n (λ u. cond (p u) (slice_index es u) 0)

-- an arc goes from one of the points 1 .. n to another
pub record Arcs (hs : List ℕ) (n : ℕ) : Type 0 where
  pub even : length hs % 2 ≡ 0
  pub some : (a : ℕ) → a < length hs → 0 < head_of hs a
  pub most : (a : ℕ) → a < length hs → head_of hs a ≤ n
  pub loopless : (a : ℕ) → a < length hs → head_of hs a ≢ tail_of hs a

-- the source and the sink are two of the points 1 .. n
pub record Ends (n source sink : ℕ) : Type 0 where
  pub source_some : 0 < source
  pub source_most : source ≤ n
  pub sink_some : 0 < sink
  pub sink_most : sink ≤ n
  pub apart : source ≡ sink → ⊥

-- while v is served the queue holds each other active point once
pub record Lined (source sink v : ℕ) (es qs : List ℕ) : Type 0 where
  pub line : (u : ℕ) → times u qs ≡ only (active source sink es u && not (u == v)) 1

-- an open arc goes down by at most 1
pub record Steep (hs rs ds : List ℕ) : Type 0 where
  pub steep : (a : ℕ) → a < length hs → 0 < slice_index rs a → slice_index ds (tail_of hs a) ≤ slice_index ds (head_of hs a) + 1

-- what has gone from the source stands in the arcs and in the excesses
pub record Preflow (hs rs₀ : List ℕ) (n source sink : ℕ) (rs es ds : List ℕ) : Type 0 where
  pub same : length rs ≡ length rs₀
  pub points : length es ≡ n + 1
  pub heights : length ds ≡ n + 1
  pub pairs : (a : ℕ) → slice_index rs a + slice_index rs (mate_of a) ≡ slice_index rs₀ a + slice_index rs₀ (mate_of a)
  pub flow : (p : ℕ → Bool) → outs p hs rs (length hs) + cond (p source) 1800000001 0 ≡ outs p hs rs₀ (length hs) + exc p es n
  pub all : whole es n ≡ 1800000001
  pub void : slice_index_or es 0 0 ≡ 0
  pub valid : Steep hs rs ds
  pub high : slice_index_or ds source 0 ≡ n
  pub ground : slice_index_or ds sink 0 ≡ 0
  pub low : (u : ℕ) → slice_index ds u ≤ n + n

-- far are the points with a level: those from which open arcs lead to the sink
pub record Ended (hs : List ℕ) (source sink : ℕ) (rs₀ rs ls : List ℕ) (total : ℕ) : Type 0 where
  pub sent : Sent hs source sink rs₀ rs total
  pub near : slice_index_or ls source 0 ≡ 0
  pub far : 0 < slice_index ls sink
  pub shut : (a : ℕ) → a < length hs → 0 < slice_index rs a → 0 < slice_index ls (head_of hs a) → 0 < slice_index ls (tail_of hs a)
