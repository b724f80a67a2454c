-- What the questions read of a rig's drawing and record is what the ledger tells.
use Rattle.std.proofs.Common.{◌≡◌, ℕ, ◌+◌, ◌-◌, ◌<◌, ◌≤◌, true, ◌&&◌, leb, ◌⊎◌, List, length, get_or, ℤ, nat_abs, Some, vec_items, Result, sym, refl, ap, ◌∙◌, subst, inl, inr, ⊎_elim, add-one, arith}
use Rattle.std.proofs.lemmas.List.{get_or_default}
use Rattle.std.proofs.lemmas.Bool.{and_from, le-leb, cond-true}
use Rattle.drawing.specs.declared.Label.{Label}
use Rattle.drawing.specs.declared.Refusal.{Refusal}
use Rattle.drawing.specs.declared.Run.{Run}
use Rattle.drawing.specs.declared.record.Record.{Record}
use Rattle.drawing.specs.Counts.{nth}
use Rattle.drawing.specs.Drawings.{Network, point_count, run_count, run}
use Rattle.drawing.specs.Plans.{flow}
use Rattle.drawing.specs.Labels.{label, Shortage}
use Rattle.drawing.specs.Answers.{Answer, Planned, Short, Right}
use Rattle.drawing.specs.Records.{plan_in, answer_in}
use Rattle.rig_drawing.specs.Changes.{is_point, is_run}
use Rattle.sheet.specs.Columns.{writing_tells, writing_leaves}
use Rattle.sheet.specs.Sheets.{sheet_text}
use Rattle.ledger.specs.declared.Standing.{Standing}
use Rattle.ledger.specs.declared.Standing.TheVariants.{Planned as IsPlanned, Short as IsShort}
use Rattle.ledger.specs.Endings.{ending_of, is_sound}
use Rattle.ledger.specs.Ledgers.{Reply, question, label_of, usage, sheet, reply_of, labelled, carries, written, tell, tell_ending, leave}
use Rattle.ledger.proofs.Ending.{sound_planned, sound_short}

-- what is read at an index is the k-th of the list, counted from 1
pub read_nth : {A : Type 0} (xs : List A) (i k : ℕ) (x d : A) → i + 1 ≡ k → i < length xs → x ≡ get_or xs i x → x ≡ nth xs k d
read_nth xs i k x d next lt e = e ∙ get_or_default xs i x d lt ∙ ap (λ j. nth xs j d) (sym (add-one i) ∙ next)

pub within : (n i v : ℕ) → i + 1 ≡ v → v ≤ n → (leb 1 v && leb v n) ≡ true
within n i v next b = and_from _ _ (le-leb _ _ (omega arith)) (le-leb _ _ b)

module _ (d : Network) (r : Record) where
  -- a rig that is planned or short has a right answer
  pub planned_right : (s : Standing) → s ≡ IsPlanned → is_sound d s r ≡ true → Right d (Planned (plan_in r) r.total (vec_items r.labels))
  planned_right s is h =
      let (same, right) = sound_planned d r (subst (λ t. is_sound d t r ≡ true) is h) in
      subst (Right d) same right

  pub short_right : (s : Standing) → s ≡ IsShort → is_sound d s r ≡ true → Shortage d (vec_items r.labels)
  short_right s is h =
      let (same, right) = sound_short d r (subst (λ t. is_sound d t r ≡ true) is h) in
      subst (Right d) same right

  pub solved_labels : (s : Standing) → (s ≡ IsPlanned) ⊎ (s ≡ IsShort) → is_sound d s r ≡ true → length (vec_items r.labels) ≡ point_count d
  solved_labels s is h = ⊎_elim (λ p. (planned_right s p h).2.labelled.label_count) (λ p. (short_right s p h).labelled.label_count) is

  pub planned_flows : (s : Standing) → s ≡ IsPlanned → is_sound d s r ≡ true → length (vec_items r.flows) ≡ run_count d
  planned_flows s is h = (planned_right s is h).0.flow_count

  pub solved_label : (s : Standing) (v : ℕ) (x : Label) → (s ≡ IsPlanned) ⊎ (s ≡ IsShort) → is_point d v ≡ true → x ≡ label (vec_items r.labels) v → labelled x ≡ tell_ending d (ending_of s r) (label_of v)
  solved_label s v x is p e =
      let asked : Standing → Reply = λ t. tell_ending d (ending_of t r) (label_of v) in
      ap labelled e ∙ sym (⊎_elim (λ t. ap asked t ∙ cond-true (is_point d v) _ _ p) (λ t. ap asked t ∙ cond-true (is_point d v) _ _ p) is)

  pub planned_use : (s : Standing) (k : ℕ) (f : ℤ) (spare : ℕ) (q : Run) → s ≡ IsPlanned → is_run d k ≡ true → f ≡ flow (plan_in r) k → q ≡ run d k → spare ≡ q.upper - nat_abs f
      → carries f spare ≡ tell_ending d (ending_of s r) (usage k)
  planned_use s k f spare q is p e same left =
      let spare-is : spare ≡ (run d k).upper - nat_abs (flow (plan_in r) k) = left ∙ ap (λ x. x.upper - nat_abs f) same ∙ ap (λ z. (run d k).upper - nat_abs z) e in
      ap (λ z. carries z spare) e ∙ ap (carries (flow (plan_in r) k)) spare-is
      ∙ sym (ap (λ t. tell_ending d (ending_of t r) (usage k)) is ∙ cond-true (is_run d k) _ _ p)

-- The sheet, of a plan and of a shortage alike.
tell_sheet : (d : Network) (e : Answer) (out : List ℕ) → tell d e (sheet out) ≡ reply_of written (writing_tells out (sheet_text d e))
tell_sheet d (Planned p t ls) out = refl
tell_sheet d (Short ls) out = refl

module _ (d : Network) (r : Record) where
  pub solved_ending : (s : Standing) → (s ≡ IsPlanned) ⊎ (s ≡ IsShort) → is_sound d s r ≡ true → (ending_of s r ≡ Some (answer_in r)) × Right d (answer_in r)
  solved_ending s (inl is) h =
      let (same, right) = sound_planned d r (subst (λ t. is_sound d t r ≡ true) is h) in
      (ap (λ t. ending_of t r) is ∙ ap Some (sym same), right)
  solved_ending s (inr is) h =
      let (same, right) = sound_short d r (subst (λ t. is_sound d t r ≡ true) is h) in
      (ap (λ t. ending_of t r) is ∙ ap Some (sym same), right)

  module _ (s : Standing) (is : (s ≡ IsPlanned) ⊎ (s ≡ IsShort)) (h : is_sound d s r ≡ true) (out : List ℕ) where
    pub sheet_told : (res : Result ℕ Refusal) → res ≡ writing_tells out (sheet_text d (answer_in r)) → reply_of written res ≡ tell_ending d (ending_of s r) (sheet out)
    sheet_told res e = ap (reply_of written) e ∙ sym (ap (λ x. tell_ending d x (sheet out)) (solved_ending s is h).0 ∙ tell_sheet d (answer_in r) out)

    pub sheet_left : (after : List ℕ) → after ≡ writing_leaves out (sheet_text d (answer_in r)) → question (sheet after) ≡ question (leave d (ending_of s r) (sheet out))
    sheet_left after e = ap (λ x. question (sheet x)) e ∙ sym (ap (λ x. question (leave d x (sheet out))) (solved_ending s is h).0)
