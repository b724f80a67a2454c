-- What a list of calls feeds the ledger, where its solvers keep the trait's laws.
use Rattle.std.proofs.Common.{◌≡◌, ℕ, zero, suc, List, [], ◌∷◌, map, sym, ap, subst, arith}
use Rattle.drawing.specs.declared.Statements.{Statements}
use Rattle.drawing.specs.Drawings.{Network}
use Rattle.drawing.specs.Answers.{Answer, Right}
use Rattle.drawing.specs.Solvers.{Carried}
use Rattle.rig_drawing.specs.Bounds.{Bounded}
use Rattle.ledger.specs.declared.Call.{Call}
use Rattle.ledger.specs.declared.Call.TheVariants.{Mark, Limit, Lead, Link, Rerate, Solve, Standing, Total, Worth, Label, Use, Sheet}
use Rattle.ledger.specs.Ledgers.{Ledger, Request, change, solve, question, Reply, all_spent, after}
use Rattle.ledger.specs.Calls.{request}
use Rattle.ledger.specs.Law.{Law, Meant}
use Rattle.ledger.proofs.Lawful.{law_stands}
use Rattle.ledger.proofs.Going.{Gone}

-- 1 for a solve, 0 for any other call
abbrev is_solve : Request → ℕ
is_solve (change c) = 0
is_solve (solve st answer) = 1
is_solve (question q) = 0

module _ {S : Type 0} (states : S → Statements) (answer : S → Network → Answer) (right : (s : S) (d : Network) → Carried (states s) d → Right d (answer s d)) where
  meant_here : (c : Call S) (st : Statements) (other : Network → Answer) → request states answer c ≡ solve st other → (d : Network) → Carried st d → Right d (other d)
  meant_here (Solve s) st other e d h =
      let p : states s ≡ st = cc in
      let q : answer s ≡ other = cc in
      subst (λ f. Right d (f d)) q (right s d (subst (λ u. Carried u d) (sym p) h))
  meant_here (Mark v c) st other e d h = absurd (let z = ap is_solve e in omega arith)
  meant_here (Limit v l) st other e d h = absurd (let z = ap is_solve e in omega arith)
  meant_here (Lead t u lo up) st other e d h = absurd (let z = ap is_solve e in omega arith)
  meant_here (Link t u up) st other e d h = absurd (let z = ap is_solve e in omega arith)
  meant_here (Rerate k lo up) st other e d h = absurd (let z = ap is_solve e in omega arith)
  meant_here Standing st other e d h = absurd (let z = ap is_solve e in omega arith)
  meant_here Total st other e d h = absurd (let z = ap is_solve e in omega arith)
  meant_here Worth st other e d h = absurd (let z = ap is_solve e in omega arith)
  meant_here (Label v) st other e d h = absurd (let z = ap is_solve e in omega arith)
  meant_here (Use k) st other e d h = absurd (let z = ap is_solve e in omega arith)
  meant_here (Sheet out) st other e d h = absurd (let z = ap is_solve e in omega arith)

  pub meant : (calls : List (Call S)) → Meant (map (request states answer) calls)
  meant [] k st other e = absurd (let z : ◌≡◌ {A = ℕ} 0 1 = cc in omega arith)
  meant (c ∷ calls) zero st other e = meant_here c st other (cc)
  meant (c ∷ calls) (suc k) st other e = meant calls k st other e

  -- the law of a list of calls that has come to its end
  pub law_gone : (l m : Ledger) (calls nows : List (Call S)) (told : List Reply)
      → Gone (request states answer) l calls told nows m → Bounded l.rig
      → Law l (map (request states answer) calls) told (map (request states answer) nows) m
  law_gone l m calls nows told gone bounded =
      let requests : List Request = map (request states answer) calls in
      subst (λ n. Law l requests told (map (request states answer) nows) n) gone.held_all
      (subst (λ x. Law l requests told x (after l requests)) gone.spent_all
      (subst (λ x. Law l requests x (all_spent l requests) (after l requests)) gone.told_all (law_stands l requests bounded (meant calls))))
