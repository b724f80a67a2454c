-- A change that was made or refused is the ledger's.
use Rattle.std.proofs.Common.{◌≡◌, ℕ, Some, None, Ok, Err, Option, Result, sym, refl, ap, ◌∙◌, arith}
use Rattle.drawing.specs.declared.Refusal.{Refusal}
use Rattle.drawing.specs.Drawings.{Network}
use Rattle.rig_drawing.specs.Changes.{answered, held_after}
use Rattle.ledger.specs.Ledgers.{Ledger, start, Change, change, Reply, refuse, replied, change_refusal, changed, done, says, next}

-- what an answer says of the refusal
pub answered_ok : {A : Type 0} (o : Option Refusal) (a b : A) → ◌≡◌ {A = Result A Refusal} (Ok b) (answered o a) → (o ≡ None) × (b ≡ a)
answered_ok None a b e = (refl, cc)
answered_ok (Some x) a b e = absurd (let z : ◌≡◌ {A = ℕ} 0 1 = cc in omega arith)

pub answered_err : {A : Type 0} (o : Option Refusal) (a : A) (e : Refusal) → ◌≡◌ {A = Result A Refusal} (Err e) (answered o a) → o ≡ Some e
answered_err None a e h = absurd (let z : ◌≡◌ {A = ℕ} 0 1 = cc in omega arith)
answered_err (Some x) a e h = ap Some (cc)

-- What is told of a change and held after it: n is the drawing after it.
pub record Done (l : Ledger) (c : Change) (r : Reply) (m : Ledger) : Type 0 where
  pub told : r ≡ says l (change c)
  pub held : m ≡ next l (change c)

module _ {A : Type 0} (l : Ledger) (c : Change) (a : A) (n : Network) (after : n ≡ held_after (change_refusal l.rig c) (changed l.rig c) l.rig) where
  pub change_made : (b : A) (f : A → Reply) → f a ≡ done l.rig c → ◌≡◌ {A = Result A Refusal} (Ok b) (answered (change_refusal l.rig c) a) → Done l c (f b) (start n)
  change_made b f fits e =
      let (none, same) = answered_ok (change_refusal l.rig c) a b e in
      record {
        told = ap f same ∙ fits ∙ sym (ap (λ o. replied o (done l.rig c)) none);
        held = ap start (after ∙ ap (λ o. held_after o (changed l.rig c) l.rig) none) ∙ sym (ap (λ o. held_after o (start (changed l.rig c)) l) none);
      }

  pub change_refused : (x : Refusal) → ◌≡◌ {A = Result A Refusal} (Err x) (answered (change_refusal l.rig c) a) → Done l c (refuse x) (record { rig = n; ending = l.ending })
  change_refused x e =
      let some = answered_err (change_refusal l.rig c) a x e in
      record {
        told = sym (ap (λ o. replied o (done l.rig c)) some);
        held = ap (λ d. record { rig = d; ending = l.ending }) (after ∙ ap (λ o. held_after o (changed l.rig c) l.rig) some) ∙ sym (ap (λ o. held_after o (start (changed l.rig c)) l) some);
      }

  -- a refused change leaves the drawing
  pub refused_same : (x : Refusal) → ◌≡◌ {A = Result A Refusal} (Err x) (answered (change_refusal l.rig c) a) → n ≡ l.rig
  refused_same x e = after ∙ ap (λ o. held_after o (changed l.rig c) l.rig) (answered_err (change_refusal l.rig c) a x e)
