-- Answers to a drawing, and which are right.
use Rattle.std.specs.Prelude.{◌≡◌, ℕ, List, ℤ, pos, Some, None, Option}
use Rattle.drawing.specs.declared.Label.{Label}
use Rattle.drawing.specs.declared.Verdict.{Verdict}
use Rattle.drawing.specs.declared.Verdict.TheVariants.{Plan as PlanVerdict, Shortage as ShortageVerdict}
use Rattle.drawing.specs.Drawings.{Network}
use Rattle.drawing.specs.Plans.{Plan, Feasible, total}
use Rattle.drawing.specs.Labels.{worth, Cut, Shortage}

-- a plan with its total and the labels of a cut, or the labels of a shortage
pub data Answer : Type 0 where
  Planned : Plan → ℕ → List Label → Answer
  Short : List Label → Answer

-- a feasible plan with its total, and a cut whose worth is that total; or a shortage
abbrev pub Right : Network → Answer → Type 0
Right d (Planned p t ls) = Feasible d p × (t ≡ total p) × Cut d ls × (worth d ls ≡ pos t)
Right d (Short ls) = Shortage d ls

abbrev pub verdict_of : Answer → Verdict
verdict_of (Planned p t ls) = PlanVerdict
verdict_of (Short ls) = ShortageVerdict

abbrev pub labels_of : Answer → List Label
labels_of (Planned p t ls) = ls
labels_of (Short ls) = ls

-- the number told with an answer: a plan's total, a shortage's worth
abbrev pub figure : Network → Answer → ℤ
figure d (Planned p t ls) = pos t
figure d (Short ls) = worth d ls

-- a plan's total; none with a shortage
abbrev pub total_of : Answer → Option ℕ
total_of (Planned p t ls) = Some t
total_of (Short ls) = None
