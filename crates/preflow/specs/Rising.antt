-- The heights, and that the turns end.
use Rattle.std.specs.Prelude.{◌≡◌, ℕ, suc, ◌+◌, ◌<◌, ◌≤◌, true, [], ◌≢◌, slice_index, slice_index_or}
use Rattle.drawing.specs.Counts.{Within}
use Rattle.preflow.specs.Push.{active}
use Rattle.preflow.specs.Turns.{State}

-- Of the points 1 .. n the source starts at height n and the others at 0. No turn lowers a point, those with a
-- relabelling neither; an active point is lower than 2n. After the given number of turns no point waits.
pub record Rising (n source sink turns : ℕ) (after : ℕ → State) : Type 0 where
  pub high : slice_index_or (after 0).height source 0 ≡ n
  pub ground : (u : ℕ) → (u ≢ source) → slice_index (after 0).height u ≡ 0
  pub rises : (k u : ℕ) → Within n u → slice_index (after k).height u ≤ slice_index (after (suc k)).height u
  pub low : (k u : ℕ) → Within n u → active source sink (after k).excess u ≡ true → slice_index (after k).height u < n + n
  pub ends : (after turns).queue ≡ []
