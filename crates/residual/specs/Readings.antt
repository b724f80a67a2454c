-- The answer that stands in the arcs of a plain drawing, once no open arc leaves the near points.
use Rattle.std.specs.Prelude.{◌≡◌, ℕ, ◌-◌, ◌*◌, ◌<◌, Bool, true, false, cond, List, map, length, ℤ, pos, slice_index}
use Rattle.std.specs.List.{range_with_len}
use Rattle.drawing.specs.declared.Label.{Label}
use Rattle.drawing.specs.declared.Label.TheVariants.{Near, Far}
use Rattle.drawing.specs.Counts.{only}
use Rattle.drawing.specs.Drawings.{Network, point_count, run_count, point, is_rack, is_bar}
use Rattle.drawing.specs.Plans.{Plan}
use Rattle.drawing.specs.Answers.{Answer, Planned}
use Rattle.residual.specs.Net.{head_of, tail_of, Sent}
use Rattle.residual.specs.Laying.{heads_of, room_of}

-- the flow of run k is what its backward arc can carry
abbrev pub flows_in : ℕ → List ℕ → List ℤ
flows_in m rs = map (λ k. pos (slice_index rs (2 * k - 1))) (range_with_len 1 m)

abbrev pub plan_in : Network → List ℕ → ℕ → Plan
plan_in d rs total = record {
  flows = flows_in (run_count d) rs;
  supplies = map (λ v. only (is_rack (point d v).mark) total) (range_with_len 1 (point_count d));
  deliveries = map (λ v. only (is_bar (point d v).mark) total) (range_with_len 1 (point_count d));
}

-- near where the test holds, else far
abbrev pub labels_by : ℕ → (ℕ → Bool) → List Label
labels_by n near = map (λ v. cond (near v) Near Far) (range_with_len 1 n)

abbrev pub answer_in : Network → (rs : List ℕ) → (near : ℕ → Bool) → (total : ℕ) → Answer
answer_in d rs near total = Planned (plan_in d rs total) total (labels_by (point_count d) near)

-- the total has gone from the source to the sink, and no open arc leaves the near points, of which the source is one
-- and the sink none
pub record Solved (d : Network) (source sink : ℕ) (rs : List ℕ) (near : ℕ → Bool) (total : ℕ) : Type 0 where
  pub sent : Sent (heads_of d.runs) source sink (room_of d.runs) rs total
  pub near_source : near source ≡ true
  pub far_sink : near sink ≡ false
  pub shut : (a : ℕ) → a < length (heads_of d.runs) → near (tail_of (heads_of d.runs) a) ≡ true → 0 < slice_index rs a → near (head_of (heads_of d.runs) a) ≡ true
