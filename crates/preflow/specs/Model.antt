-- The answer of push-relabel to each drawing.
use Rattle.std.specs.Prelude.{ℕ, Bool, not, List, nat_lt, slice_index}
use Rattle.drawing.specs.Drawings.{Network, point_count}
use Rattle.drawing.specs.Answers.{Answer}
use Rattle.residual.specs.Laying.{heads_of, room_of}
use Rattle.residual.specs.Plain.{rack_of, bar_of}
use Rattle.residual.specs.Readings.{answer_in}
use Rattle.preflow.specs.Turns.{State, aims, states, turns_for}

-- the state after k turns
abbrev pub state_of : Network → ℕ → State
state_of d k = states (heads_of d.runs) (point_count d) (rack_of d) (bar_of d) (room_of d.runs) k

-- the points without a level
abbrev pub unreached : List ℕ → ℕ → Bool
unreached ls u = not (nat_lt 0 (slice_index ls u))

-- near are the points that a search backward from the bar does not reach; the total is what has reached the bar
abbrev pub read : Network → (rs ls : List ℕ) (total : ℕ) → Answer
read d rs ls total = answer_in d rs (unreached ls) total

abbrev pub read_state : Network → State → Answer
read_state d s = read d s.left (aims (heads_of d.runs) s.left (point_count d) (rack_of d) (bar_of d)) (slice_index s.excess (bar_of d))

-- after as many turns as there can be
unfoldable pub relabel_answer : Network → Answer
relabel_answer d = read_state d (state_of d (turns_for (point_count d)))
