-- What the code's structs stand for.
use Rattle.std.specs.Prelude.{ℕ, List, [], ℤ, vec_items}
use Rattle.drawing.specs.declared.Drawing.{Drawing}
use Rattle.drawing.specs.declared.Label.{Label}
use Rattle.drawing.specs.declared.Verdict.{Verdict}
use Rattle.drawing.specs.declared.Verdict.TheVariants.{Plan as PlanVerdict, Shortage as ShortageVerdict}
use Rattle.drawing.specs.declared.record.Record.{Record}
use Rattle.drawing.specs.Drawings.{Network}
use Rattle.drawing.specs.Plans.{Plan}
use Rattle.drawing.specs.Answers.{Answer, Planned, Short}

-- the drawing that a value stands for
abbrev pub network : Drawing → Network
network d = record { points = vec_items d.points; runs = vec_items d.runs }

-- all that an answer record holds
pub record Contents : Type 0 where
  pub verdict : Verdict
  pub flows : List ℤ
  pub supplies : List ℕ
  pub deliveries : List ℕ
  pub total : ℕ
  pub labels : List Label

abbrev pub contents : Record → Contents
contents r = record { verdict = r.verdict; flows = vec_items r.flows; supplies = vec_items r.supplies; deliveries = vec_items r.deliveries; total = r.total; labels = vec_items r.labels }

-- what a record holds once an answer is written into it
abbrev pub filed : Answer → Contents
filed (Planned p t ls) = record { verdict = PlanVerdict; flows = p.flows; supplies = p.supplies; deliveries = p.deliveries; total = t; labels = ls }
filed (Short ls) = record { verdict = ShortageVerdict; flows = []; supplies = []; deliveries = []; total = 0; labels = ls }

-- The plan that stands in a record, and the answer as its verdict has it read: for checks of an answer.
-- What a solve leaves is said by contents and filed, which fix every list.
abbrev pub plan_in : Record → Plan
plan_in r = record { flows = vec_items r.flows; supplies = vec_items r.supplies; deliveries = vec_items r.deliveries }

abbrev pub answer_in : Record → Answer
answer_in r = elim r.verdict [ PlanVerdict ↦ Planned (plan_in r) r.total (vec_items r.labels) | ShortageVerdict ↦ Short (vec_items r.labels) ]
