-- What a check of an answer settles, in words of plans alone.
use Rattle.std.specs.Prelude.{◌≡◌, ℕ, ◌+◌, ◌≤◌, List, ℤ, pos, Some, None, Option}
use Rattle.drawing.specs.declared.Label.{Label}
use Rattle.drawing.specs.declared.Verdict.{Verdict}
use Rattle.drawing.specs.declared.Verdict.TheVariants.{Plan as PlanVerdict, Shortage as ShortageVerdict}
use Rattle.drawing.specs.Drawings.{Network, Admissible}
use Rattle.drawing.specs.Plans.{Plan, Feasible, total}
use Rattle.drawing.specs.Labels.{worth, Cut}
use Rattle.drawing.specs.Answers.{Answer, Planned, Short, Right}
use Rattle.duality.specs.declared.Finding.{Finding}
use Rattle.duality.specs.declared.Finding.TheVariants.{Most, NoPlan}

-- Some s: the worth of the cut exceeds the total of the feasible plan by s.
-- None: the drawing is not admissible, the plan not feasible or the labels no cut.
abbrev pub Slack : Network → Plan → List Label → Option ℕ → Type 0
Slack d p ls None = Admissible d → Feasible d p → Cut d ls → ⊥
Slack d p ls (Some s) = Admissible d × Feasible d p × Cut d ls × (worth d ls ≡ pos (total p + s))

-- what a finding says of the plans of a drawing
abbrev pub Says : Network → Finding → Type 0
Says d (Most t) = ((p : Plan) × Feasible d p × (total p ≡ t)) × ((q : Plan) → Feasible d q → total q ≤ t)
Says d (NoPlan w) = (p : Plan) → Feasible d p → ⊥

-- the finding by a verdict, the total and the worth of the labels
abbrev pub finding_by : Verdict → ℕ → ℤ → Finding
finding_by PlanVerdict t w = Most t
finding_by ShortageVerdict t w = NoPlan w

abbrev pub finding_of : Network → Answer → Finding
finding_of d (Planned p t ls) = Most t
finding_of d (Short ls) = NoPlan (worth d ls)

-- Some f: the answer is right, f is its finding, and what f says of the drawing's plans holds.
-- None: the drawing is not admissible or the answer not right.
abbrev pub Settled : Network → Answer → Option Finding → Type 0
Settled d a None = Admissible d → Right d a → ⊥
Settled d a (Some f) = Admissible d × Right d a × (f ≡ finding_of d a) × Says d f
