-- Plain drawings: what a solver takes that says no to lower bounds, links, limits and terminals.
use Rattle.std.specs.Prelude.{◌≡◌, ℕ, zero, suc, ◌≤◌, Bool, false, cond, is_some}
use Rattle.drawing.specs.declared.Statements.{Statements}
use Rattle.drawing.specs.Counts.{Within}
use Rattle.drawing.specs.Drawings.{Network, Lawful, point_count, run_count, point, run, is_rack, is_bar, is_link, rack_count, bar_count, units as units_of}

-- no to all four, and the highest numbers
abbrev pub plain_statements : Statements
plain_statements = record { lowers = false; links = false; limits = false; terminals = false; points = 128; runs = 1024; units = 1800000000 }

-- leads with lower 0 alone, no limit, one rack and one bar
pub record Plain (d : Network) : Type 0 where
  pub lawful : Lawful d
  pub few_points : point_count d ≤ 128
  pub few_runs : run_count d ≤ 1024
  pub few_units : units_of d ≤ 1800000000
  pub lead : (k : ℕ) → Within (run_count d) k → is_link (run d k).kind ≡ false
  pub no_lower : (k : ℕ) → Within (run_count d) k → (run d k).lower ≡ 0
  pub no_limit : (v : ℕ) → Within (point_count d) v → is_some (point d v).limit ≡ false
  pub one_rack : rack_count d ≡ 1
  pub one_bar : bar_count d ≡ 1

-- the last of 1 .. n that passes the test, or 0
unfoldable pub last_to : ℕ → (ℕ → Bool) → ℕ
last_to zero t = 0
last_to (suc n) t = cond (t (suc n)) (suc n) (last_to n t)

abbrev pub rack_of : Network → ℕ
rack_of d = last_to (point_count d) (λ v. is_rack (point d v).mark)

abbrev pub bar_of : Network → ℕ
bar_of d = last_to (point_count d) (λ v. is_bar (point d v).mark)
