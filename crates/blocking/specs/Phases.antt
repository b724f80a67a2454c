-- Dinic's phases as a function, and what they end in.
use Rattle.std.specs.Prelude.{◌≡◌, ℕ, zero, suc, ◌+◌, ◌-◌, cond, List, length, ◌==◌, slice_index, slice_index_or}
use Rattle.residual.specs.Net.{Sent}
use Rattle.residual.specs.Search.{levels}
use Rattle.blocking.specs.Push.{Out, pushes}
use Rattle.residual.specs.Layers.{Layered}

-- At most f phases, each a search and, where it reaches the sink, a blocking flow: what the arcs can still carry, the
-- levels of the last search, and what the source has sent.
unfoldable pub phases : (hs fs : List ℕ) (source sink f : ℕ) (rs ls : List ℕ) (total : ℕ) → Out
phases hs fs source sink zero rs ls total = (rs, ls, total)
phases hs fs source sink (suc f) rs ls total =
    let l : List ℕ = levels hs rs (length fs) source sink in
    let o : Out = pushes hs l sink (slice_index l sink) (slice_index l sink - 1) source 1800000000 rs fs in
    cond (slice_index l sink == 0) (rs, l, total) (phases hs fs source sink f o.0 l (total + (1800000000 - o.2)))

-- the flow is sent, and the last search has not reached the sink
pub record Ended (hs : List ℕ) (source sink : ℕ) (rs₀ : List ℕ) (o : Out) : Type 0 where
  pub sent : Sent hs source sink rs₀ o.0 o.2
  pub layered : Layered hs o.0 source sink o.1
  pub apart : slice_index_or o.1 sink 0 ≡ 0
