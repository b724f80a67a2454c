-- Drawings: marked points, and runs between them.
use Rattle.std.specs.Prelude.{◌≡◌, ℕ, ◌+◌, ◌≤◌, Bool, true, false, not, ◌&&◌, ◌||◌, ◌≢◌, List, length, is_some, Some, None, Option, ◌==◌, nat_le, nat_lt}
use Rattle.drawing.specs.declared.Mark.{Mark}
use Rattle.drawing.specs.declared.Mark.TheVariants.{Plain, Rack, Bar}
use Rattle.drawing.specs.declared.Point.{Point}
use Rattle.drawing.specs.declared.Kind.{Kind}
use Rattle.drawing.specs.declared.Kind.TheVariants.{Lead, Link}
use Rattle.drawing.specs.declared.Run.{Run}
use Rattle.drawing.specs.declared.Feature.{Feature}
use Rattle.drawing.specs.declared.Feature.TheVariants.{LowerBounds, Links, Limits, Terminals}
use Rattle.drawing.specs.Counts.{Within, sum_to, some_to, every_to, count_to, nth}

-- a drawing as definitions see it: its points and its runs, in order
pub record Network : Type 0 where
  pub points : List Point
  pub runs : List Run

abbrev pub point_count : Network → ℕ
point_count d = length d.points

abbrev pub run_count : Network → ℕ
run_count d = length d.runs

-- point v and run k, each counted from 1 (a stand-in past the end: no rule below reads one of a lawful drawing)
abbrev pub no_point : Point
no_point = record { mark = Plain; limit = None }

abbrev pub no_run : Run
no_run = record { kind = Lead; tail = 0; head = 0; lower = 0; upper = 0 }

abbrev pub point : Network → ℕ → Point
point d v = nth d.points v no_point

abbrev pub run : Network → ℕ → Run
run d k = nth d.runs k no_run

abbrev pub is_rack : Mark → Bool
is_rack Plain = false
is_rack Rack = true
is_rack Bar = false

abbrev pub is_bar : Mark → Bool
is_bar Plain = false
is_bar Rack = false
is_bar Bar = true

abbrev pub is_link : Kind → Bool
is_link Lead = false
is_link Link = true

-- the limit where there is one, else 0: for sums only (a limit of 0 is a limit)
abbrev pub limit_of : Option ℕ → ℕ
limit_of None = 0
limit_of (Some l) = l

-- A run (a lead is an arc with a lower bound, a link an undirected edge) joins two different points of 1 .. n and has lower ≤ upper; a link has lower 0.
-- Of a link, tail is the first end and head the second.
pub record LawfulRun (n : ℕ) (r : Run) : Type 0 where
  pub tail_in : Within n r.tail
  pub head_in : Within n r.head
  pub apart : r.tail ≢ r.head
  pub ordered : r.lower ≤ r.upper
  pub link_lower : is_link r.kind ≡ true → r.lower ≡ 0

-- The rules of a drawing: it has a point, and each run is lawful.
pub record Lawful (d : Network) : Type 0 where
  pub some_point : 1 ≤ point_count d
  pub each_run : (k : ℕ) → Within (run_count d) k → LawfulRun (point_count d) (run d k)

-- A drawing that a solver looks at: it keeps the rules and has at most 128 points and 1,024 runs.
pub record Admissible (d : Network) : Type 0 where
  pub lawful : Lawful d
  pub few_points : point_count d ≤ 128
  pub few_runs : run_count d ≤ 1024

-- the same as tests
abbrev pub is_lawful_run : ℕ → Run → Bool
is_lawful_run n r =
    nat_le 1 r.tail && nat_le r.tail n && nat_le 1 r.head && nat_le r.head n && not (r.tail == r.head)
    && nat_le r.lower r.upper && (not (is_link r.kind) || r.lower == 0)

abbrev pub is_lawful : Network → Bool
is_lawful d = nat_le 1 (point_count d) && every_to (run_count d) (λ k. is_lawful_run (point_count d) (run d k))

abbrev pub is_admissible : Network → Bool
is_admissible d = is_lawful d && nat_le (point_count d) 128 && nat_le (run_count d) 1024

-- the sum of its uppers and limits
abbrev pub units : Network → ℕ
units d = sum_to (run_count d) (λ k. (run d k).upper) + sum_to (point_count d) (λ v. limit_of (point d v).limit)

abbrev pub rack_count : Network → ℕ
rack_count d = count_to (point_count d) (λ v. is_rack (point d v).mark)

abbrev pub bar_count : Network → ℕ
bar_count d = count_to (point_count d) (λ v. is_bar (point d v).mark)

-- What a drawing uses: lower bounds if a lead has a lower above 0, links if it has one, limits if a point has one,
-- and terminals unless it has just one rack and one bar.
abbrev pub uses : Network → Feature → Bool
uses d LowerBounds = some_to (run_count d) (λ k. not (is_link (run d k).kind) && nat_lt 0 (run d k).lower)
uses d Links = some_to (run_count d) (λ k. is_link (run d k).kind)
uses d Limits = some_to (point_count d) (λ v. is_some (point d v).limit)
uses d Terminals = not (rack_count d == 1 && bar_count d == 1)
