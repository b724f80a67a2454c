-- The ledger of a rig: what each call answers, what it leaves in its output, and what the ledger then holds.
use Rattle.std.specs.Prelude.{ℕ, ◌+◌, ◌-◌, cond, List, [], ◌∷◌, ℤ, is_some, Some, None, Ok, Err, Option, Result, unsigned_abs}
use Rattle.drawing.specs.declared.Run.{Run}
use Rattle.drawing.specs.declared.Label.{Label}
use Rattle.drawing.specs.declared.Statements.{Statements}
use Rattle.drawing.specs.declared.Refusal.{Refusal}
use Rattle.drawing.specs.declared.Refusal.TheVariants.{NoSuchPoint, NoSuchRun, NoSuchMark, NotSolved, OtherVerdict}
use Rattle.drawing.specs.Codes.{mark_of, refusal_code}
use Rattle.drawing.specs.Drawings.{Network, run_count, run}
use Rattle.drawing.specs.Plans.{Plan, flow}
use Rattle.drawing.specs.Labels.{label, worth}
use Rattle.drawing.specs.Answers.{Answer, Planned, Short}
use Rattle.drawing.specs.Solvers.{refusal_of}
use Rattle.rig_drawing.specs.Changes.{check, held_after, is_point, is_run, marked, limit_refusal, limited, lay_refusal, laid, rerate_refusal, rerated}
use Rattle.sheet.specs.Columns.{writing_tells, writing_leaves}
use Rattle.sheet.specs.Sheets.{sheet_text}
use Rattle.ledger.specs.declared.Standing.{Standing}
use Rattle.ledger.specs.declared.Standing.TheVariants.{Drawn as IsDrawn, Planned as IsPlanned, Short as IsShort}

-- The rig, which is each point's mark and limit and the runs in order, and the ending: none, or a solver's answer.
pub record Ledger : Type 0 where
  pub rig : Network
  pub ending : Option Answer

-- a rig just made has no ending
abbrev pub start : Network → Ledger
start d = record { rig = d; ending = None }

pub data Change : Type 0 where
  mark : ℕ → ℕ → Change
  limit : ℕ → Option ℕ → Change
  lay : Run → Change
  rerate : ℕ → ℕ → ℕ → Change

pub data Question : Type 0 where
  standing : Question
  total : Question
  shortfall : Question
  label_of : ℕ → Question
  usage : ℕ → Question
  sheet : List ℕ → Question

-- A call as the ledger is fed it: its arguments, with a solve the solver's statements and answers, with a sheet the bytes of its output.
pub data Request : Type 0 where
  change : Change → Request
  solve : Statements → (Network → Answer) → Request
  question : Question → Request

-- What a call answers; a refusal by its number and the feature that it names.
pub data Reply : Type 0 where
  accepted : Reply
  numbered : ℕ → Reply
  stands : Standing → Reply
  totals : ℕ → Reply
  falls : ℤ → Reply
  labelled : Label → Reply
  carries : ℤ → ℕ → Reply
  written : ℕ → Reply
  refused : ℕ × Option ℕ → Reply

abbrev pub refuse : Refusal → Reply
refuse e = refused (refusal_code e)

-- what a result tells: its value in the reply that fits it, or its refusal
abbrev pub reply_of : {A : Type 0} → (A → Reply) → Result A Refusal → Reply
reply_of f (Ok a) = f a
reply_of f (Err e) = refuse e

-- a reply, unless the call is refused
abbrev pub replied : Option Refusal → Reply → Reply
replied None r = r
replied (Some e) r = refuse e

-- Changes. A code that no mark has is told after a point that is not there.
abbrev pub change_refusal : Network → Change → Option Refusal
change_refusal d (mark v c) = check (is_point d v) NoSuchPoint (check (is_some (mark_of c)) NoSuchMark None)
change_refusal d (limit v l) = limit_refusal d v l
change_refusal d (lay r) = lay_refusal d r
change_refusal d (rerate k lower upper) = rerate_refusal d k lower upper

abbrev pub changed : Network → Change → Network
changed d (mark v c) = elim (mark_of c) [ Some m ↦ marked d v m | None ↦ d ]
changed d (limit v l) = limited d v l
changed d (lay r) = laid d r
changed d (rerate k lower upper) = rerated d k lower upper

-- only a run that is laid is answered by a number, its own
abbrev pub done : Network → Change → Reply
done d (mark v c) = accepted
done d (limit v l) = accepted
done d (lay r) = numbered (run_count d + 1)
done d (rerate k lower upper) = accepted

-- What each question tells while the rig d is drawn,
abbrev pub tell_drawn : Network → Question → Reply
tell_drawn d standing = stands IsDrawn
tell_drawn d total = refuse NotSolved
tell_drawn d shortfall = refuse NotSolved
tell_drawn d (label_of v) = refuse (cond (is_point d v) NotSolved NoSuchPoint)
tell_drawn d (usage k) = refuse (cond (is_run d k) NotSolved NoSuchRun)
tell_drawn d (sheet out) = refuse NotSolved

-- of a plan p with total t and the labels ls of a cut; the spare units of a run are its upper without the size of its flow,
abbrev pub tell_plan : Network → Plan → ℕ → List Label → Question → Reply
tell_plan d p t ls standing = stands IsPlanned
tell_plan d p t ls total = totals t
tell_plan d p t ls shortfall = refuse OtherVerdict
tell_plan d p t ls (label_of v) = cond (is_point d v) (labelled (label ls v)) (refuse NoSuchPoint)
tell_plan d p t ls (usage k) = cond (is_run d k) (carries (flow p k) ((run d k).upper - unsigned_abs (flow p k))) (refuse NoSuchRun)
tell_plan d p t ls (sheet out) = reply_of written (writing_tells out (sheet_text d (Planned p t ls)))

-- and of a shortage with the labels ls.
abbrev pub tell_short : Network → List Label → Question → Reply
tell_short d ls standing = stands IsShort
tell_short d ls total = refuse OtherVerdict
tell_short d ls shortfall = falls (worth d ls)
tell_short d ls (label_of v) = cond (is_point d v) (labelled (label ls v)) (refuse NoSuchPoint)
tell_short d ls (usage k) = refuse (cond (is_run d k) OtherVerdict NoSuchRun)
tell_short d ls (sheet out) = reply_of written (writing_tells out (sheet_text d (Short ls)))

-- what a question tells of an ending
abbrev pub tell : Network → Answer → Question → Reply
tell d (Planned p t ls) q = tell_plan d p t ls q
tell d (Short ls) q = tell_short d ls q

abbrev pub tell_ending : Network → Option Answer → Question → Reply
tell_ending d None q = tell_drawn d q
tell_ending d (Some e) q = tell d e q

-- a question after it was put: only a sheet's output is another
abbrev pub leave : Network → Option Answer → Question → Question
leave d e standing = standing
leave d e total = total
leave d e shortfall = shortfall
leave d e (label_of v) = label_of v
leave d e (usage k) = usage k
leave d None (sheet out) = sheet out
leave d (Some e) (sheet out) = sheet (writing_leaves out (sheet_text d e))

-- What a call answers,
abbrev pub says : Ledger → Request → Reply
says l (change c) = replied (change_refusal l.rig c) (done l.rig c)
says l (solve st answers) = replied (refusal_of st l.rig) accepted
says l (question q) = tell_ending l.rig l.ending q

-- what the ledger then holds: a change clears the ending, a solve puts the solver's answer in its place,
abbrev pub next : Ledger → Request → Ledger
next l (change c) = held_after (change_refusal l.rig c) (start (changed l.rig c)) l
next l (solve st answers) = held_after (refusal_of st l.rig) (record { rig = l.rig; ending = Some (answers l.rig) }) l
next l (question q) = l

-- and the call as it is left.
abbrev pub spent : Ledger → Request → Request
spent l (change c) = change c
spent l (solve st answers) = solve st answers
spent l (question q) = question (leave l.rig l.ending q)

-- The same of a whole list of calls.
unfoldable pub after : Ledger → List Request → Ledger
after l [] = l
after l (a ∷ rest) = after (next l a) rest

unfoldable pub replies : Ledger → List Request → List Reply
replies l [] = []
replies l (a ∷ rest) = says l a ∷ replies (next l a) rest

unfoldable pub all_spent : Ledger → List Request → List Request
all_spent l [] = []
all_spent l (a ∷ rest) = spent l a ∷ all_spent (next l a) rest
