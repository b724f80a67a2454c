-- What cuts and shortages say of the plans of a drawing.
use Rattle.std.specs.Prelude.{◌≡◌, ℕ, ◌≤◌, List, pos, ◌≤ℤ◌}
use Rattle.drawing.specs.declared.Label.{Label}
use Rattle.drawing.specs.declared.Verdict.TheVariants.{Plan as PlanVerdict}
use Rattle.drawing.specs.Drawings.{Network, Lawful}
use Rattle.drawing.specs.Plans.{Plan, Feasible, total}
use Rattle.drawing.specs.Labels.{worth, Cut, Shortage}
use Rattle.drawing.specs.Answers.{Answer, Planned, Right, verdict_of, total_of}

-- no feasible plan's total is above the worth of any cut
abbrev pub WeakDuality : Type 0
WeakDuality = (d : Network) → Lawful d → (p : Plan) → Feasible d p → (ls : List Label) → Cut d ls → pos (total p) ≤ℤ worth d ls

-- where there is a shortage no plan is feasible
abbrev pub ShortageExcludes : Type 0
ShortageExcludes = (d : Network) → Lawful d → (ls : List Label) → Shortage d ls → (p : Plan) → Feasible d p → ⊥

-- the same verdict and, with plans, the same total
abbrev pub Agree : Answer → Answer → Type 0
Agree a b = (verdict_of a ≡ verdict_of b) × (total_of a ≡ total_of b)

-- two right answers to one drawing agree
abbrev pub AnswersAgree : Type 0
AnswersAgree = (d : Network) → Lawful d → (a b : Answer) → Right d a → Right d b → Agree a b

-- no feasible plan has a greater total than a right plan
abbrev pub RightIsMost : Type 0
RightIsMost = (d : Network) → Lawful d → (p : Plan) (t : ℕ) (ls : List Label) → Right d (Planned p t ls) → (q : Plan) → Feasible d q → total q ≤ t

-- a drawing has a feasible plan exactly when a right answer to it is a plan
abbrev pub PlanExactly : Type 0
PlanExactly = (d : Network) → Lawful d → (a : Answer) → Right d a
    → (verdict_of a ≡ PlanVerdict → (p : Plan) × Feasible d p) × ((p : Plan) → Feasible d p → verdict_of a ≡ PlanVerdict)
