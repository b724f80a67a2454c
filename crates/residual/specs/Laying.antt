-- The arcs of runs: arc 2k is run k + 1 forward, with its upper, and arc 2k + 1 the same run backward, with nothing.
use Rattle.std.specs.Prelude.{◌≡◌, ℕ, ◌+◌, ◌*◌, ◌/◌, ◌%◌, ◌<◌, cond, List, map, length, ◌==◌, slice_index, slice_index_or}
use Rattle.std.specs.List.{range_with_len}
use Rattle.drawing.specs.declared.Run.{Run}
use Rattle.drawing.specs.Drawings.{no_run}
use Rattle.residual.specs.Net.{before}

-- 2m items: f's at the even places, g's at the odd ones
unfoldable pub paired : (f g : ℕ → ℕ) (m : ℕ) → List ℕ
paired f g m = map (λ a. cond (a % 2 == 0) (f (a / 2)) (g (a / 2))) (range_with_len 0 (2 * m))

-- where each arc goes
abbrev pub heads_of : List Run → List ℕ
heads_of runs = paired (λ k. (slice_index_or runs k no_run).head) (λ k. (slice_index_or runs k no_run).tail) (length runs)

-- what each arc can carry where no run has a flow
abbrev pub room_of : List Run → List ℕ
room_of runs = paired (λ k. (slice_index_or runs k no_run).upper) (λ k. 0) (length runs)

-- where the chain of each of the points below n starts
unfoldable pub firsts_of : (hs : List ℕ) (n : ℕ) → List ℕ
firsts_of hs n = map (λ v. before hs v (length hs)) (range_with_len 0 n)

-- the ends of each run are below n
pub record Ends (runs : List Run) (n : ℕ) : Type 0 where
  pub tails : (k : ℕ) → k < length runs → (slice_index_or runs k no_run).tail < n
  pub heads : (k : ℕ) → k < length runs → (slice_index_or runs k no_run).head < n

-- the items of the first m pairs
pub record Laid (f g : ℕ → ℕ) (m : ℕ) (xs : List ℕ) : Type 0 where
  pub forth : (k : ℕ) → k < m → slice_index xs (2 * k) ≡ f k
  pub back : (k : ℕ) → k < m → slice_index xs (2 * k + 1) ≡ g k
