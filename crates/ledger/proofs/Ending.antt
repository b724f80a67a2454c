-- What a rig's standing and record say of its ending.
use Rattle.std.proofs.Common.{◌≡◌, ℕ, true, Some, vec_items, sym, refl, ap, ◌∙◌, subst, arith}
use Rattle.std.proofs.lemmas.Bool.{and_parts, and_from}
use Rattle.drawing.specs.declared.Verdict.{Verdict}
use Rattle.drawing.specs.declared.Verdict.TheVariants.{Plan as PlanVerdict, Shortage as ShortageVerdict}
use Rattle.drawing.specs.declared.record.Record.{Record}
use Rattle.drawing.specs.Drawings.{Network}
use Rattle.drawing.specs.Plans.{plan_of}
use Rattle.drawing.specs.Answers.{Answer, Planned, Short, Right}
use Rattle.drawing.specs.Records.{plan_in, answer_in, Contents, contents, filed}
use Rattle.drawing.specs.Tests.{is_right}
use Rattle.drawing.proofs.Deciding.{decides_right}
use Rattle.ledger.specs.declared.Standing.{Standing}
use Rattle.ledger.specs.declared.Standing.TheVariants.{Planned as IsPlanned, Short as IsShort}
use Rattle.ledger.specs.Endings.{ending_of, is_plan_verdict, is_shortage_verdict, keeps_plan, keeps_shortage, is_sound, standing_by}

pub sound_same : (d e : Network) (s : Standing) (r : Record) → e ≡ d → is_sound d s r ≡ true → is_sound e s r ≡ true
sound_same d e s r q h = subst (λ x. is_sound x s r ≡ true) (sym q) h

plan_verdict : (v : Verdict) → is_plan_verdict v ≡ true → v ≡ PlanVerdict
plan_verdict PlanVerdict e = refl
plan_verdict ShortageVerdict e = absurd (let z : ◌≡◌ {A = ℕ} 0 1 = cc in omega arith)

shortage_verdict : (v : Verdict) → is_shortage_verdict v ≡ true → v ≡ ShortageVerdict
shortage_verdict PlanVerdict e = absurd (let z : ◌≡◌ {A = ℕ} 0 1 = cc in omega arith)
shortage_verdict ShortageVerdict e = refl

-- the answer in the record, read by its verdict
pub answer_planned : (r : Record) → r.verdict ≡ PlanVerdict → answer_in r ≡ Planned (plan_in r) r.total (vec_items r.labels)
answer_planned r e = ap (λ v. elim v [ PlanVerdict ↦ Planned (plan_in r) r.total (vec_items r.labels) | ShortageVerdict ↦ Short (vec_items r.labels) ]) e

pub answer_short : (r : Record) → r.verdict ≡ ShortageVerdict → answer_in r ≡ Short (vec_items r.labels)
answer_short r e = ap (λ v. elim v [ PlanVerdict ↦ Planned (plan_in r) r.total (vec_items r.labels) | ShortageVerdict ↦ Short (vec_items r.labels) ]) e

pub sound_planned : (d : Network) (r : Record) → is_sound d IsPlanned r ≡ true → (answer_in r ≡ Planned (plan_in r) r.total (vec_items r.labels)) × Right d (answer_in r)
unfolding keeps_plan
sound_planned d r h =
    let (v, right) = and_parts _ _ h in
    (answer_planned r (plan_verdict _ v), (decides_right d (answer_in r)).0 right)

pub sound_short : (d : Network) (r : Record) → is_sound d IsShort r ≡ true → (answer_in r ≡ Short (vec_items r.labels)) × Right d (answer_in r)
unfolding keeps_shortage
sound_short d r h =
    let (v, right) = and_parts _ _ h in
    (answer_short r (shortage_verdict _ v), (decides_right d (answer_in r)).0 right)

-- the plan of what a record holds
abbrev planned : Contents → Answer
planned c = Planned (plan_of c.flows c.supplies c.deliveries) c.total c.labels

-- After an accepted solve the record holds just the answer: the standing that the verdict gives has it as its ending.
pub filed_ending : (a : Answer) (r : Record) → contents r ≡ filed a → ending_of (standing_by r.verdict) r ≡ Some a
filed_ending (Planned p t ls) r e =
    let v : r.verdict ≡ PlanVerdict = ap (λ c. c.verdict) e in
    let same : ◌≡◌ {A = Answer} (Planned (plan_in r) r.total (vec_items r.labels)) (Planned p t ls) = ap planned e in
    ap (λ x. ending_of (standing_by x) r) v ∙ ap Some same
filed_ending (Short ls) r e =
    let v : r.verdict ≡ ShortageVerdict = ap (λ c. c.verdict) e in
    ap (λ x. ending_of (standing_by x) r) v ∙ ap (λ x. Some (Short x)) (ap (λ c. c.labels) e)

filed_answer : (a : Answer) (r : Record) → contents r ≡ filed a → answer_in r ≡ a
filed_answer (Planned p t ls) r e =
    let same : ◌≡◌ {A = Answer} (Planned (plan_in r) r.total (vec_items r.labels)) (Planned p t ls) = ap planned e in
    answer_planned r (ap (λ c. c.verdict) e) ∙ same
filed_answer (Short ls) r e = answer_short r (ap (λ c. c.verdict) e) ∙ ap Short (ap (λ c. c.labels) e)

sound_by : (d : Network) (r : Record) (v : Verdict) → r.verdict ≡ v → is_right d (answer_in r) ≡ true → is_sound d (standing_by v) r ≡ true
unfolding keeps_plan keeps_shortage
sound_by d r PlanVerdict e h = and_from _ _ (ap is_plan_verdict e) h
sound_by d r ShortageVerdict e h = and_from _ _ (ap is_shortage_verdict e) h

pub filed_sound : (d : Network) (a : Answer) (r : Record) → contents r ≡ filed a → Right d a → is_sound d (standing_by r.verdict) r ≡ true
filed_sound d a r e right =
    sound_by d r r.verdict refl ((decides_right d (answer_in r)).1 (subst (Right d) (sym (filed_answer a r e)) right))
