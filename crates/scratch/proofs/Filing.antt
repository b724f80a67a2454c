-- Copies that fit, answers in records, and refusals that cannot be: what a layer's proofs share.
use Rattle.std.proofs.Common.{◌≡◌, ℕ, ◌≤◌, List, length, take, ℤ, Some, vec_items, refl, ap, ◌∙◌, arith, take_all}
use Rattle.drawing.specs.declared.Label.{Label}
use Rattle.drawing.specs.declared.Refusal.{Refusal}
use Rattle.drawing.specs.declared.Statements.{Statements}
use Rattle.drawing.specs.declared.Verdict.{Verdict}
use Rattle.drawing.specs.declared.Verdict.TheVariants.{Plan as PlanVerdict, Shortage as ShortageVerdict}
use Rattle.drawing.specs.declared.record.Record.{Record}
use Rattle.drawing.specs.Answers.{Answer, Planned, Short, Right}
use Rattle.drawing.specs.Drawings.{Network, point_count}
use Rattle.drawing.specs.Plans.{Plan}
use Rattle.drawing.specs.Records.{Contents, contents, filed, plan_in, answer_in}
use Rattle.drawing.specs.Codes.{refusal_code}
use Rattle.drawing.specs.Solvers.{Carried, refusal}
use Rattle.drawing.proofs.Carrying.{accepted}

-- a copy for which there is room
pub copied : {X : Type 0} (out from xs : List X) (room : ℕ) → out ≡ take room from → from ≡ xs → length xs ≤ room → out ≡ xs
copied out from xs room e f h = e ∙ ap (take room) f ∙ take_all room xs h

-- the answer that stands in a record
reading : Verdict → Plan → ℕ → List Label → Answer
reading v p t ls = elim v [ PlanVerdict ↦ Planned p t ls | ShortageVerdict ↦ Short ls ]

pub answer_plan : (r : Record) → r.verdict ≡ PlanVerdict → answer_in r ≡ Planned (plan_in r) r.total (vec_items r.labels)
unfolding reading
answer_plan r e = ap (λ v. reading v (plan_in r) r.total (vec_items r.labels)) e

pub answer_short : (r : Record) → r.verdict ≡ ShortageVerdict → answer_in r ≡ Short (vec_items r.labels)
unfolding reading
answer_short r e = ap (λ v. reading v (plan_in r) r.total (vec_items r.labels)) e

pub answer_filed : (r : Record) (a : Answer) → contents r ≡ filed a → answer_in r ≡ a
answer_filed r (Planned p t ls) e =
    answer_plan r (ap (λ (c : Contents). c.verdict) e)
    ∙ ap (λ (c : Contents). Planned (record { flows = c.flows; supplies = c.supplies; deliveries = c.deliveries }) c.total c.labels) e
answer_filed r (Short ls) e = answer_short r (ap (λ (c : Contents). c.verdict) e) ∙ ap (λ (c : Contents). Short c.labels) e

-- a plan whose parts are written
pub plan_filed : (fs fs' : List ℤ) (ss ss' ds ds' : List ℕ) (t : ℕ) (ls ls' : List Label) → fs ≡ fs' → ss ≡ ss' → ds ≡ ds' → ls ≡ ls'
    → ◌≡◌ {A = Contents} (record { verdict = PlanVerdict; flows = fs; supplies = ss; deliveries = ds; total = t; labels = ls })
    (filed (Planned (record { flows = fs'; supplies = ss'; deliveries = ds' }) t ls'))
plan_filed fs fs' ss ss' ds ds' t ls ls' a b c e = rw (a, b, c, e) refl

-- a drawing that is carried is not refused
pub not_refused : (s : Statements) (d e : Network) (x : Refusal) → Some (refusal_code x) ≡ refusal s d → d ≡ e → Carried s e → ⊥
not_refused s d e x h q c =
    let n = accepted s e c in
    let z : ◌≡◌ {A = ℕ} 0 1 = cc in
    omega arith

-- the labels of a right answer
pub labels_long : (d : Network) (r : Record) → Right d (answer_in r) → length (vec_items r.labels) ≡ point_count d
unfolding reading
labels_long d r h = by r.verdict h
  where
    by : (v : Verdict) → Right d (reading v (plan_in r) r.total (vec_items r.labels)) → length (vec_items r.labels) ≡ point_count d
    by PlanVerdict h = h.2.labelled.label_count
    by ShortageVerdict h = h.labelled.label_count
