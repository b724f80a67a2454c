-- A call of a list as the ledger is fed it, and what it was told as the ledger's reply.
use Rattle.std.specs.Prelude.{ℕ, vec_items}
use Rattle.drawing.specs.declared.Kind.{Kind}
use Rattle.drawing.specs.declared.Kind.TheVariants.{Lead as LeadKind, Link as LinkKind}
use Rattle.drawing.specs.declared.Run.{Run}
use Rattle.drawing.specs.declared.Statements.{Statements}
use Rattle.drawing.specs.Drawings.{Network}
use Rattle.drawing.specs.Answers.{Answer}
use Rattle.ledger.specs.declared.Call.{Call}
use Rattle.ledger.specs.declared.Call.TheVariants.{Mark, Limit, Lead, Link, Rerate, Solve, Standing as AskStanding, Total as AskTotal, Worth as AskWorth, Label as AskLabel, Use as AskUse, Sheet as AskSheet}
use Rattle.ledger.specs.declared.Told.{Told}
use Rattle.ledger.specs.declared.Told.TheVariants.{Done, Laid, Standing, Total, Worth, Label, Use, Sheet}
use Rattle.ledger.specs.Ledgers.{Request, change, solve, question, mark, limit, lay, rerate, standing, total, shortfall, label_of, usage, sheet, Reply, accepted, numbered, stands, totals, falls, labelled, carries, written, reply_of}

abbrev pub run_of : Kind → ℕ → ℕ → ℕ → ℕ → Run
run_of kind tail head lower upper = record { kind = kind; tail = tail; head = head; lower = lower; upper = upper }

-- given what a solver states and answers
abbrev pub request : {S : Type 0} → (S → Statements) → (S → Network → Answer) → Call S → Request
request states answer (Mark v c) = change (mark v c)
request states answer (Limit v l) = change (limit v l)
request states answer (Lead tail head lower upper) = change (lay (run_of LeadKind tail head lower upper))
request states answer (Link first second upper) = change (lay (run_of LinkKind first second 0 upper))
request states answer (Rerate k lower upper) = change (rerate k lower upper)
request states answer (Solve s) = solve (states s) (answer s)
request states answer AskStanding = question standing
request states answer AskTotal = question total
request states answer AskWorth = question shortfall
request states answer (AskLabel v) = question (label_of v)
request states answer (AskUse k) = question (usage k)
request states answer (AskSheet out) = question (sheet (vec_items out))

abbrev pub reply : Told → Reply
reply (Done r) = reply_of (λ _. accepted) r
reply (Laid r) = reply_of numbered r
reply (Standing s) = stands s
reply (Total r) = reply_of totals r
reply (Worth r) = reply_of falls r
reply (Label r) = reply_of labelled r
reply (Use r) = reply_of (λ u. carries u.0 u.1) r
reply (Sheet r) = reply_of written r
