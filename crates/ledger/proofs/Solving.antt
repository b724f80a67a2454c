-- A solve that was accepted or refused is the ledger's.
use Rattle.std.proofs.Common.{◌≡◌, ℕ, Some, None, Option, sym, refl, ap, ◌∙◌, arith}
use Rattle.drawing.specs.declared.Refusal.{Refusal}
use Rattle.drawing.specs.declared.Statements.{Statements}
use Rattle.drawing.specs.declared.record.Record.{Record}
use Rattle.drawing.specs.Codes.{refusal_code}
use Rattle.drawing.specs.Drawings.{Network}
use Rattle.drawing.specs.Answers.{Answer}
use Rattle.drawing.specs.Records.{contents, filed}
use Rattle.drawing.specs.Solvers.{refusal_of, refusal, code_of}
use Rattle.rig_drawing.specs.Changes.{held_after}
use Rattle.ledger.specs.declared.Standing.{Standing}
use Rattle.ledger.specs.Endings.{ending_of, standing_by}
use Rattle.ledger.specs.Ledgers.{Ledger, solve, Reply, accepted, refused, refuse, replied, says, next}
use Rattle.ledger.proofs.Ending.{filed_ending}

-- the refusal, as it is told
coded_none : (o : Option Refusal) → None ≡ code_of o → o ≡ None
coded_none None e = refl
coded_none (Some x) e = absurd (let z : ◌≡◌ {A = ℕ} 0 1 = cc in omega arith)

coded_some : (o : Option Refusal) (x : Refusal) → Some (refusal_code x) ≡ code_of o → (y : Refusal) × (o ≡ Some y) × (refusal_code x ≡ refusal_code y)
coded_some None x e = absurd (let z : ◌≡◌ {A = ℕ} 0 1 = cc in omega arith)
coded_some (Some y) x e = (y, refl, cc)

pub record Ran (l : Ledger) (st : Statements) (answer : Network → Answer) (r : Reply) (m : Ledger) : Type 0 where
  pub told : r ≡ says l (solve st answer)
  pub held : m ≡ next l (solve st answer)

module _ (l : Ledger) (st : Statements) (answer : Network → Answer) where
  -- the record now holds the answer, and the standing is what its verdict gives
  pub solve_made : (s : Standing) (r : Record) → None ≡ refusal st l.rig → s ≡ standing_by r.verdict → contents r ≡ filed (answer l.rig)
      → Ran l st answer accepted (record { rig = l.rig; ending = ending_of s r })
  solve_made s r e by holds =
      let none = coded_none (refusal_of st l.rig) e in
      record {
        told = sym (ap (λ o. replied o accepted) none);
        held = ap (λ x. record { rig = l.rig; ending = x }) (ap (λ t. ending_of t r) by ∙ filed_ending (answer l.rig) r holds)
            ∙ sym (ap (λ o. held_after o (record { rig = l.rig; ending = Some (answer l.rig) }) l) none);
      }

  pub solve_refused : (x : Refusal) (m : Ledger) → Some (refusal_code x) ≡ refusal st l.rig → m ≡ l → Ran l st answer (refuse x) m
  solve_refused x m e same =
      let (y, some, codes) = coded_some (refusal_of st l.rig) x e in
      record {
        told = ap refused codes ∙ sym (ap (λ o. replied o accepted) some);
        held = same ∙ sym (ap (λ o. held_after o (record { rig = l.rig; ending = Some (answer l.rig) }) l) some);
      }
