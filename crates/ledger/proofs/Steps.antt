-- A list of calls, one call after another.
use Rattle.std.proofs.Common.{◌≡◌, ℕ, zero, suc, ◌<◌, ◌≤◌, List, [], ◌∷◌, take, Some, None, Option, sym, refl, ap, ◌∙◌, subst, ⊎_elim, arith}
use Rattle.std.specs.List.{slice_get}
use Rattle.std.proofs.lemmas.Bool.{cases_lt}
use Rattle.drawing.specs.declared.Refusal.{Refusal}
use Rattle.drawing.specs.declared.Statements.{Statements}
use Rattle.drawing.specs.Drawings.{Network}
use Rattle.drawing.specs.Answers.{Answer}
use Rattle.drawing.specs.Solvers.{refusal_of}
use Rattle.rig_drawing.specs.Bounds.{Bounded}
use Rattle.rig_drawing.specs.Changes.{held_after}
use Rattle.ledger.specs.Ledgers.{Ledger, start, Change, mark, limit, lay, rerate, Request, change, solve, question, Reply, accepted, refused, replied, change_refusal, changed, done, says, next, spent, after, replies, all_spent}
use Rattle.ledger.specs.Law.{rig_at, Refused, Solved, Unchanged, Unsolved}
use Rattle.ledger.proofs.Keeping.{next_bounded}

pub after_bounded : (l : Ledger) (calls : List Request) → Bounded l.rig → Bounded (after l calls).rig
unfolding after
after_bounded l [] h = h
after_bounded l (a ∷ rest) h = after_bounded (next l a) rest (next_bounded l a h)

-- the ledger after a call that may not be there
abbrev stepped : Ledger → Option Request → Ledger
stepped l None = l
stepped l (Some a) = next l a

after_step : (l : Ledger) (calls : List Request) (k : ℕ) → after l (take (suc k) calls) ≡ stepped (after l (take k calls)) (slice_get calls k)
unfolding after
after_step l [] zero = refl
after_step l [] (suc k) = refl
after_step l (a ∷ rest) zero = refl
after_step l (a ∷ rest) (suc k) = after_step (next l a) rest k

-- what the call at k is told, and how it is left
pub reply_said : (l : Ledger) (calls : List Request) (k : ℕ) (a : Request) → slice_get calls k ≡ Some a → slice_get (replies l calls) k ≡ Some (says (after l (take k calls)) a)
unfolding after replies
reply_said l [] k a e = absurd (let z : ◌≡◌ {A = ℕ} 0 1 = cc in omega arith)
reply_said l (b ∷ rest) zero a e = let s : b ≡ a = cc in ap (λ x. Some (says l x)) s
reply_said l (b ∷ rest) (suc k) a e = reply_said (next l b) rest k a e

pub call_spent : (l : Ledger) (calls : List Request) (k : ℕ) (a : Request) → slice_get calls k ≡ Some a → slice_get (all_spent l calls) k ≡ Some (spent (after l (take k calls)) a)
unfolding after all_spent
call_spent l [] k a e = absurd (let z : ◌≡◌ {A = ℕ} 0 1 = cc in omega arith)
call_spent l (b ∷ rest) zero a e = let s : b ≡ a = cc in ap (λ x. Some (spent l x)) s
call_spent l (b ∷ rest) (suc k) a e = call_spent (next l b) rest k a e

pub reply_at : (l : Ledger) (calls : List Request) (k : ℕ) (a : Request) (r : Reply) → slice_get calls k ≡ Some a → slice_get (replies l calls) k ≡ Some r → says (after l (take k calls)) a ≡ r
reply_at l calls k a r e f = let g = reply_said l calls k a e in cc

-- A refused change or solve leaves the ledger, and a solve or a question the rig.
accepted_apart : (code : ℕ × Option ℕ) → accepted ≡ refused code → ⊥
accepted_apart code e = let z : ◌≡◌ {A = ℕ} 0 1 = cc in omega arith

done_apart : (d : Network) (c : Change) (code : ℕ × Option ℕ) → done d c ≡ refused code → ⊥
done_apart d (mark v c) code e = accepted_apart code e
done_apart d (limit v l) code e = accepted_apart code e
done_apart d (lay r) code e = let z : ◌≡◌ {A = ℕ} 0 1 = cc in omega arith
done_apart d (rerate k lower upper) code e = accepted_apart code e

refused_kept : (o : Option Refusal) (r : Reply) (code : ℕ × Option ℕ) (new old : Ledger) → (r ≡ refused code → ⊥) → replied o r ≡ refused code → held_after o new old ≡ old
refused_kept None r code new old apart e = absurd (apart e)
refused_kept (Some x) r code new old apart e = refl

change_refused : (l : Ledger) (c : Change) (code : ℕ × Option ℕ) → says l (change c) ≡ refused code → next l (change c) ≡ l
change_refused l c code e = refused_kept (change_refusal l.rig c) (done l.rig c) code (start (changed l.rig c)) l (done_apart l.rig c code) e

abbrev ended : Ledger → Answer → Ledger
ended l e = record { rig = l.rig; ending = Some e }

solve_refused : (l : Ledger) (st : Statements) (answer : Network → Answer) (code : ℕ × Option ℕ) → says l (solve st answer) ≡ refused code → next l (solve st answer) ≡ l
solve_refused l st answer code e = refused_kept (refusal_of st l.rig) accepted code (ended l (answer l.rig)) l (accepted_apart code) e

same_rig_held : (o : Option Refusal) (new old : Ledger) → new.rig ≡ old.rig → (held_after o new old).rig ≡ old.rig
same_rig_held None new old e = e
same_rig_held (Some x) new old e = refl

solve_rig : (l : Ledger) (st : Statements) (answer : Network → Answer) → (next l (solve st answer)).rig ≡ l.rig
solve_rig l st answer = same_rig_held (refusal_of st l.rig) (ended l (answer l.rig)) l refl

-- An accepted solve is not refused, and its answer is the ending.
not_refused : (o : Option Refusal) → replied o accepted ≡ accepted → o ≡ None
not_refused None e = refl
not_refused (Some x) e = absurd (accepted_apart _ (sym e))

pub solve_carried : (l : Ledger) (st : Statements) (answer : Network → Answer) → says l (solve st answer) ≡ accepted → refusal_of st l.rig ≡ None
solve_carried l st answer e = not_refused (refusal_of st l.rig) e

pub solve_accepted : (l : Ledger) (st : Statements) (answer : Network → Answer) → refusal_of st l.rig ≡ None → says l (solve st answer) ≡ accepted
solve_accepted l st answer e = ap (λ o. replied o accepted) e

solve_ends : (l : Ledger) (st : Statements) (answer : Network → Answer) → refusal_of st l.rig ≡ None → next l (solve st answer) ≡ ended l (answer l.rig)
solve_ends l st answer e = ap (λ o. held_after o (ended l (answer l.rig)) l) e

module _ (l : Ledger) (calls : List Request) where
  -- the ledger before the call at k
  abbrev pub here : ℕ → Ledger
  here k = after l (take k calls)

  -- One call further: a refused change or solve, a question, or no call at all, leaves the ledger.
  still_step : (i : ℕ) (o : Option Request) → slice_get calls i ≡ o
      → ((c : Change) → slice_get calls i ≡ Some (change c) → Refused (slice_get (replies l calls) i))
      → ((st : Statements) (answer : Network → Answer) → slice_get calls i ≡ Some (solve st answer) → Refused (slice_get (replies l calls) i))
      → stepped (here i) o ≡ here i
  still_step i None e u v = refl
  still_step i (Some (question q)) e u v = refl
  still_step i (Some (change c)) e u v =
      let (code, told) = u c e in change_refused (here i) c code (reply_at l calls i (change c) (refused code) e told)
  still_step i (Some (solve st answer)) e u v =
      let (code, told) = v st answer e in solve_refused (here i) st answer code (reply_at l calls i (solve st answer) (refused code) e told)

  pub still : (k j : ℕ) → k < j → Unchanged calls (replies l calls) k j → Unsolved calls (replies l calls) k j → here j ≡ here (suc k)
  still k zero h u v = absurd (omega arith)
  still k (suc i) h u v =
      ⊎_elim
      (λ (lt : k < i).
      (after_step l calls i ∙ still_step i (slice_get calls i) refl (λ c. u i c lt (omega arith)) (λ st answer. v i st answer lt (omega arith)))
      ∙ still k i lt (λ m c a b. u m c a (omega arith)) (λ m st answer a b. v m st answer a (omega arith)))
      (λ (ge : i ≤ k). let s : i ≡ k = omega arith in ap (λ n. here (suc n)) s)
      (cases_lt k i)

  -- and one that is no accepted change leaves the rig
  rig_step : (i : ℕ) (o : Option Request) → slice_get calls i ≡ o
      → ((c : Change) → slice_get calls i ≡ Some (change c) → Refused (slice_get (replies l calls) i))
      → (stepped (here i) o).rig ≡ (here i).rig
  rig_step i None e u = refl
  rig_step i (Some (question q)) e u = refl
  rig_step i (Some (change c)) e u =
      let (code, told) = u c e in ap (λ m. m.rig) (change_refused (here i) c code (reply_at l calls i (change c) (refused code) e told))
  rig_step i (Some (solve st answer)) e u = solve_rig (here i) st answer

  pub same_rig : (k j : ℕ) (st : Statements) (answer : Network → Answer) → slice_get calls k ≡ Some (solve st answer) → k < j → Unchanged calls (replies l calls) k j → rig_at l calls j ≡ rig_at l calls k
  same_rig k zero st answer e h u = absurd (omega arith)
  same_rig k (suc i) st answer e h u =
      ⊎_elim
      (λ (lt : k < i).
      (ap (λ m. m.rig) (after_step l calls i) ∙ rig_step i (slice_get calls i) refl (λ c. u i c lt (omega arith)))
      ∙ same_rig k i st answer e lt (λ m c a b. u m c a (omega arith)))
      (λ (ge : i ≤ k).
      let s : i ≡ k = omega arith in
      let t : (stepped (here k) (slice_get calls k)).rig ≡ (here k).rig = subst (λ o. (stepped (here k) o).rig ≡ (here k).rig) (sym e) (solve_rig (here k) st answer) in
      ap (λ n. (here (suc n)).rig) s ∙ (ap (λ m. m.rig) (after_step l calls k) ∙ t))
      (cases_lt k i)

  pub not_refused_at : (k : ℕ) (st : Statements) (answer : Network → Answer) → Solved calls (replies l calls) k st answer → refusal_of st (rig_at l calls k) ≡ None
  not_refused_at k st answer s = solve_carried (here k) st answer (reply_at l calls k (solve st answer) accepted s.asked s.told_so)

  -- the ledger after an accepted solve has its answer
  pub ending_at : (k : ℕ) (st : Statements) (answer : Network → Answer) → Solved calls (replies l calls) k st answer → here (suc k) ≡ ended (here k) (answer (rig_at l calls k))
  ending_at k st answer s =
      (after_step l calls k ∙ ap (stepped (here k)) s.asked) ∙ solve_ends (here k) st answer (not_refused_at k st answer s)
