-- The law of a rig over whole lists of calls, in any order, with refused ones among them, whatever solvers they take.
use Rattle.std.specs.Prelude.{◌≡◌, ℕ, ◌<◌, ◌≤◌, ◌↔◌, List, take, pos, Some, Option}
use Rattle.std.specs.List.{slice_get}
use Rattle.drawing.specs.declared.Statements.{Statements}
use Rattle.drawing.specs.Drawings.{Network}
use Rattle.drawing.specs.Plans.{Plan, Feasible, total as total_of_plan}
use Rattle.drawing.specs.Labels.{worth, Cut, Shortage}
use Rattle.drawing.specs.Answers.{Answer, Planned, Short, Right}
use Rattle.drawing.specs.Solvers.{Carried}
use Rattle.duality.specs.Duality.{Agree}
use Rattle.rig_drawing.specs.Bounds.{Bounded}
use Rattle.sheet.specs.Columns.{writing_leaves}
use Rattle.sheet.specs.Sheets.{sheet_text}
use Rattle.ledger.specs.Ledgers.{Ledger, Change, Question, sheet, Request, change, solve, question, Reply, accepted, refused, tell, after, replies, all_spent}

-- The ledger's rig as the call at k finds it; calls are counted from 0.
abbrev pub rig_at : Ledger → List Request → ℕ → Network
rig_at l calls k = (after l (take k calls)).rig

-- the call at k is a solve by a solver of these statements and answers, and was accepted
pub record Solved (calls : List Request) (told : List Reply) (k : ℕ) (st : Statements) (answers : Network → Answer) : Type 0 where
  pub asked : slice_get calls k ≡ Some (solve st answers)
  pub told_so : slice_get told k ≡ Some accepted

abbrev pub Refused : Option Reply → Type 0
Refused r = (code : ℕ × Option ℕ) × (r ≡ Some (refused code))

-- each change between the calls at i and at j was refused
abbrev pub Unchanged : List Request → List Reply → ℕ → ℕ → Type 0
Unchanged calls told i j = (k : ℕ) (c : Change) → i < k → k < j → slice_get calls k ≡ Some (change c) → Refused (slice_get told k)

-- and each solve
abbrev pub Unsolved : List Request → List Reply → ℕ → ℕ → Type 0
Unsolved calls told i j =
    (k : ℕ) (st : Statements) (answers : Network → Answer) → i < k → k < j → slice_get calls k ≡ Some (solve st answers) → Refused (slice_get told k)

-- A feasible plan of the largest total, beside a cut of that worth; or, where the drawing has no feasible plan, a shortage, whose worth is below 0.
abbrev pub Ends : Network → Answer → Type 0
Ends d (Planned p t ls) = Feasible d p × (t ≡ total_of_plan p) × ((q : Plan) → Feasible d q → total_of_plan q ≤ t) × Cut d ls × (worth d ls ≡ pos t)
Ends d (Short ls) = ((q : Plan) → Feasible d q → ⊥) × Shortage d ls

-- the question at j, if there is one, tells the ending e of the drawing d, and a sheet leaves its text in the output
pub record Tells (calls : List Request) (told : List Reply) (left : List Request) (d : Network) (e : Answer) (j : ℕ) : Type 0 where
  pub replied : (q : Question) → slice_get calls j ≡ Some (question q) → slice_get told j ≡ Some (tell d e q)
  pub output : (out : List ℕ) → slice_get calls j ≡ Some (question (sheet out)) → slice_get left j ≡ Some (question (sheet (writing_leaves out (sheet_text d e))))

-- l is the ledger before the calls and m after them; `told` is what they answered, and `left` the calls as they were left, with their outputs.
pub record Law (l : Ledger) (calls : List Request) (told : List Reply) (left : List Request) (m : Ledger) : Type 0 where
  -- answers, outputs and what is held are the ledger's
  pub answers : told ≡ replies l calls
  pub outputs : left ≡ all_spent l calls
  pub held : m ≡ after l calls
  -- every rig on the way keeps the rules and the bounds
  pub bounded : (k : ℕ) → Bounded (rig_at l calls k)
  -- a solve is accepted exactly when its solver carries the ledger's rig
  pub accepts : (k : ℕ) (st : Statements) (answer : Network → Answer) → slice_get calls k ≡ Some (solve st answer)
      → (slice_get told k ≡ Some accepted) ↔ Carried st (rig_at l calls k)
  -- it then ends in a largest feasible plan with a cut of its total, or in a shortage where there is no feasible plan
  pub ends : (k : ℕ) (st : Statements) (answer : Network → Answer) → Solved calls told k st answer
      → Ends (rig_at l calls k) (answer (rig_at l calls k))
  -- until the next accepted change or solve every question and the sheet tell that ending
  pub tells : (k : ℕ) (st : Statements) (answer : Network → Answer) → Solved calls told k st answer
      → (j : ℕ) → k < j → Unchanged calls told k j → Unsolved calls told k j
      → Tells calls told left (rig_at l calls k) (answer (rig_at l calls k)) j
  -- two accepted solves with no accepted change between them tell the same verdict and, with plans, the same total
  pub agree : (i j : ℕ) (st su : Statements) (answer other : Network → Answer) → Solved calls told i st answer → Solved calls told j su other
      → i < j → Unchanged calls told i j → Agree (answer (rig_at l calls i)) (other (rig_at l calls j))

-- each solver among the calls has a right answer to each drawing that it carries
abbrev pub Meant : List Request → Type 0
Meant calls = (k : ℕ) (st : Statements) (answer : Network → Answer) → slice_get calls k ≡ Some (solve st answer)
    → (d : Network) → Carried st d → Right d (answer d)

-- the law holds of what the ledger says, over every list of calls of such solvers
abbrev pub LawStands : Type 0
LawStands = (l : Ledger) (calls : List Request) → Bounded l.rig → Meant calls → Law l calls (replies l calls) (all_spent l calls) (after l calls)
