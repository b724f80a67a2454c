-- The bounds of a rig's drawing.
use Rattle.std.specs.Prelude.{ℕ, ◌≤◌, Bool, ◌&&◌, leb, nat_le}
use Rattle.drawing.specs.Counts.{Within, every_to}
use Rattle.drawing.specs.Drawings.{Network, point_count, run_count, point, run, limit_of, Lawful, is_lawful}

-- It keeps the rules of drawings, has at most 60 points and 160 runs, and no upper or limit above 9,999.
pub record Bounded (d : Network) : Type 0 where
  pub lawful : Lawful d
  pub few_points : point_count d ≤ 60
  pub few_runs : run_count d ≤ 160
  pub small_uppers : (k : ℕ) → Within (run_count d) k → (run d k).upper ≤ 9999
  pub small_limits : (v : ℕ) → Within (point_count d) v → limit_of (point d v).limit ≤ 9999

-- the same as a test, which a type can have as its invariant (`decides_bounded` shows that it is the same)
unfoldable pub is_bounded : Network → Bool
is_bounded d =
    is_lawful d && nat_le (point_count d) 60 && nat_le (run_count d) 160
    && every_to (run_count d) (λ k. leb (run d k).upper 9999)
    && every_to (point_count d) (λ v. leb (limit_of (point d v).limit) 9999)
