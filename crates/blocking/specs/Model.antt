-- The answer of Dinic's method to each drawing.
use Rattle.std.specs.Prelude.{ℕ, ◌+◌, Bool, List, [], nat_lt, slice_index}
use Rattle.drawing.specs.Drawings.{Network, point_count}
use Rattle.drawing.specs.Answers.{Answer}
use Rattle.residual.specs.Laying.{heads_of, room_of, firsts_of}
use Rattle.residual.specs.Plain.{rack_of, bar_of}
use Rattle.residual.specs.Readings.{answer_in}
use Rattle.blocking.specs.Push.{Out}
use Rattle.blocking.specs.Phases.{phases}

-- what the arcs can still carry in the end, the levels of the last search, and the total: at most f phases
abbrev pub ending : Network → ℕ → Out
ending d f =
    phases (heads_of d.runs) (firsts_of (heads_of d.runs) (point_count d + 1)) (rack_of d) (bar_of d) f (room_of d.runs) [] 0

-- the points with a level
abbrev pub reached : List ℕ → ℕ → Bool
reached l u = nat_lt 0 (slice_index l u)

abbrev pub read : Network → Out → Answer
read d o = answer_in d o.0 (reached o.1) o.2

-- each phase sends a unit at least, and no drawing that it carries has more than 1,800,000,000
unfoldable pub dinic_answer : Network → Answer
dinic_answer d = read d (ending d 1800000001)
