-- What a right answer settles, and that a cut's worth is never below a plan's total.
use Rattle.std.proofs.Common.{◌≡◌, ℕ, ◌+◌, Bool, true, cond, List, ℤ, pos, ◌≤ℤ◌, Some, None, Option, sym, refl, ap, ◌∙◌, subst, arith}
use Rattle.std.proofs.lemmas.Int.{ints}
use Rattle.std.proofs.lemmas.Bool.{and_from, eq-eqb}
use Rattle.drawing.specs.declared.Label.{Label}
use Rattle.drawing.specs.declared.Verdict.{Verdict}
use Rattle.drawing.specs.declared.Verdict.TheVariants.{Plan as PlanVerdict, Shortage as ShortageVerdict}
use Rattle.drawing.specs.Drawings.{Network, Admissible}
use Rattle.drawing.specs.Plans.{Plan, Feasible, total}
use Rattle.drawing.specs.Labels.{worth, Labelling, Cut}
use Rattle.drawing.specs.Answers.{Right}
use Rattle.drawing.proofs.Deciding.{decides_admissible, decides_labelling}
use Rattle.checkers.specs.Told.{told_total, told_worth}
use Rattle.duality.specs.declared.Finding.{Finding}
use Rattle.duality.specs.Findings.{finding_by, Slack, Settled}
use Rattle.duality.proofs.Duality.{reading, weak_duality, shortage_excludes, right_is_most}

pub labelled : (d : Network) (v : Verdict) (p : Plan) (t : ℕ) (ls : List Label) → Right d (reading v p t ls) → Labelling d ls
labelled d PlanVerdict p t ls right = right.2.labelled
labelled d ShortageVerdict p t ls right = right.labelled

taken : {A : Type 0} (b : Bool) (x : A) → b ≡ true → cond b (Some x) None ≡ Some x
taken b x e = ap (λ t. cond t (Some x) None) e

-- the total of a feasible plan and the worth of a labelling are told
pub total_told : (d : Network) (p : Plan) → Admissible d → Feasible d p → told_total d p.supplies ≡ Some (total p)
total_told d p ok feasible = taken _ (total p) (and_from _ _ ((decides_admissible d).1 ok) (eq-eqb _ _ feasible.supply_count))

pub worth_told : (d : Network) (ls : List Label) → Admissible d → Labelling d ls → told_worth d ls ≡ Some (worth d ls)
worth_told d ls ok marked = taken _ (worth d ls) (and_from _ _ ((decides_admissible d).1 ok) ((decides_labelling d ls).1 marked))

module _ (d : Network) (p : Plan) (ls : List Label) (ok : Admissible d) (feasible : Feasible d p) (cut : Cut d ls) (t : ℕ) (w : ℤ)
    (told : told_total d p.supplies ≡ Some t) (worthy : told_worth d ls ≡ Some w) where
  total_is_told : total p ≡ t
  total_is_told = cc (total_told d p ok feasible)

  worth_is_told : worth d ls ≡ w
  worth_is_told = cc (worth_told d ls ok cut.labelled)

  -- a cut's worth less a plan's total is not below 0
  pub not_below : pos t ≤ℤ w
  not_below = omega (arith, ints, weak_duality d ok.lawful p feasible ls cut, total_is_told, worth_is_told)

  pub slack_is : (s : ℕ) → w ≡ pos (t + s) → Slack d p ls (Some s)
  slack_is s e = (ok, feasible, cut, worth_is_told ∙ e ∙ ap (λ n. pos (n + s)) (sym total_is_told))

pub not_none : {A : Type 0} {o : Option A} {x : A} → o ≡ None → o ≡ Some x → ⊥
not_none p q = cc

settles : (d : Network) → Admissible d → (v : Verdict) (p : Plan) (t : ℕ) (ls : List Label) → Right d (reading v p t ls)
    → Settled d (reading v p t ls) (Some (finding_by v t (worth d ls)))
settles d ok PlanVerdict p t ls right = (ok, right, refl, ((p, right.0, sym right.1), right_is_most d ok.lawful p t ls right))
settles d ok ShortageVerdict p t ls right = (ok, right, refl, shortage_excludes d ok.lawful ls right)

pub settled_by : (d : Network) → Admissible d → (v : Verdict) (p : Plan) (t : ℕ) (ls : List Label) → Right d (reading v p t ls)
    → (w : ℤ) → told_worth d ls ≡ Some w → (f : Finding) → f ≡ finding_by v t w → Settled d (reading v p t ls) (Some f)
settled_by d ok v p t ls right w told f e =
    let is-worth : worth d ls ≡ w = cc (worth_told d ls ok (labelled d v p t ls right)) in
    let is_found : finding_by v t (worth d ls) ≡ f = ap (finding_by v t) is-worth ∙ sym e in
    subst (λ (g : Finding). Settled d (reading v p t ls) (Some g)) is_found (settles d ok v p t ls right)
