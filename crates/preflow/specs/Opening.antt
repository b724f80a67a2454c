-- The queue before the first turn.
use Rattle.std.specs.Prelude.{◌≡◌, ℕ, List}
use Rattle.preflow.specs.Turns.{State, first_excess}
use Rattle.preflow.specs.Fifo.{pushed, wakened}

-- The source pushes first: by its pushes points become active and join the empty queue, each as it does.
pub record Opened (n source sink : ℕ) (s : State) : Type 0 where
  pub pushes : List (ℕ × ℕ)
  pub excess : s.excess ≡ pushed source (first_excess n source) pushes
  pub queue : s.queue ≡ wakened source sink source (first_excess n source) pushes
