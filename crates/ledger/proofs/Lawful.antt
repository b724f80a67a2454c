-- The law over every list of calls.
use Rattle.std.proofs.Common.{◌≡◌, ℕ, List, take, Some, None, Option, refl, ap, ◌∙◌, subst, arith}
use Rattle.drawing.specs.declared.Refusal.{Refusal}
use Rattle.drawing.specs.declared.Statements.{Statements}
use Rattle.drawing.specs.Drawings.{Network}
use Rattle.drawing.specs.Answers.{Answer, Planned, Short, Right}
use Rattle.drawing.specs.Solvers.{refusal_of, code_of}
use Rattle.drawing.proofs.Carrying as carrying
use Rattle.duality.proofs.Duality.{right_is_most, shortage_excludes, answers_agree}
use Rattle.rig_drawing.specs.Bounds.{Bounded}
use Rattle.ledger.specs.Ledgers.{Ledger, Request, solve, question, sheet, says, spent, accepted, replies}
use Rattle.ledger.specs.Law.{rig_at, Solved, Ends, Meant, LawStands}
use Rattle.ledger.proofs.Steps.{after_bounded, here, reply_said, call_spent, reply_at, solve_carried, solve_accepted, still, same_rig, not_refused_at, ending_at}

ends_right : (d : Network) (e : Answer) → Bounded d → Right d e → Ends d e
ends_right d (Planned p t ls) h r = (r.0, r.1, right_is_most d h.lawful p t ls r, r.2, r.3)
ends_right d (Short ls) h r = (shortage_excludes d h.lawful ls r, r)

-- no code, no refusal
none_from : (o : Option Refusal) → code_of o ≡ None → o ≡ None
none_from None e = refl
none_from (Some x) e = absurd (let z : ◌≡◌ {A = ℕ} 0 1 = cc in omega arith)

module _ (l : Ledger) (calls : List Request) (bounded : Bounded l.rig) (meant : Meant calls) where
  bounds : (k : ℕ) → Bounded (rig_at l calls k)
  bounds k = after_bounded l (take k calls) bounded

  right : (k : ℕ) (st : Statements) (answer : Network → Answer) → Solved calls (replies l calls) k st answer → Right (rig_at l calls k) (answer (rig_at l calls k))
  right k st answer s = meant k st answer s.asked (rig_at l calls k) (carrying.carried st (rig_at l calls k) (ap code_of (not_refused_at l calls k st answer s)))

pub law_stands : LawStands
law_stands l calls bounded meant = record {
  answers = refl;
  outputs = refl;
  held = refl;
  bounded = bounds l calls bounded meant;
  accepts = λ k st answer e. (
    λ told. carrying.carried st _ (ap code_of (solve_carried (here l calls k) st answer (reply_at l calls k (solve st answer) accepted e told))),
    λ carried. reply_said l calls k (solve st answer) e ∙ ap Some (solve_accepted (here l calls k) st answer (none_from (refusal_of st (rig_at l calls k)) (carrying.accepted st (rig_at l calls k) carried))),
  );
  ends = λ k st answer s. ends_right _ _ (bounds l calls bounded meant k) (right l calls bounded meant k st answer s);
  tells = λ k st answer s j h u v.
      let m = still l calls k j h u v ∙ ending_at l calls k st answer s in
      record {
        replied = λ q e. reply_said l calls j (question q) e ∙ ap (λ n. Some (says n (question q))) m;
        output = λ out e. call_spent l calls j (question (sheet out)) e ∙ ap (λ n. Some (spent n (question (sheet out)))) m;
      };
  agree = λ i j st su answer other s t h u.
      let same : rig_at l calls j ≡ rig_at l calls i = same_rig l calls i j st answer s.asked h u in
      answers_agree _ (bounds l calls bounded meant i).lawful _ _ (right l calls bounded meant i st answer s)
      (subst (λ d. Right d (other (rig_at l calls j))) same (right l calls bounded meant j su other t));
}
