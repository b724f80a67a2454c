-- What a push keeps and changes.
use Rattle.std.specs.Prelude.{◌≡◌, ℕ, ◌+◌, ◌-◌, ◌<◌, ◌≤◌, Bool, cond, List, length, slice_index}
use Rattle.residual.specs.Net.{mate_of, tail_of, outs, Placed}
use Rattle.blocking.specs.Push.{Out}

-- From rs to ss an amount has gone from v to the sink. For every set p of points, what can still
-- leave it is less by the amount where v is in it, and more by it where the sink is.
pub record Flows (hs ls : List ℕ) (sink v lv amount : ℕ) (rs ss : List ℕ) : Type 0 where
  pub same : length ss ≡ length rs
  pub pairs : (a : ℕ) → slice_index ss a + slice_index ss (mate_of a) ≡ slice_index rs a + slice_index rs (mate_of a)
  pub frame : (a : ℕ) → slice_index ls (tail_of hs a) < lv → slice_index ss a ≡ slice_index rs a
  pub flow : (p : ℕ → Bool) → outs p hs ss (length hs) + cond (p v) amount 0 ≡ outs p hs rs (length hs) + cond (p sink) amount 0

-- The outcome of a push of at most lim from v, which has level lv: what is not left of lim has gone to the sink.
pub record Good (hs ls : List ℕ) (sink v lv lim : ℕ) (rs cs : List ℕ) (o : Out) : Type 0 where
  pub flows : Flows hs ls sink v lv (lim - o.2) rs o.0
  pub same : length o.1 ≡ length cs
  pub under : o.2 ≤ lim
  pub placed : Placed hs o.1
