-- What a solver states, which drawings it carries, and what a solve does.
use Rattle.std.specs.Prelude.{◌≡◌, ℕ, ◌≤◌, Bool, true, cond, not, ◌&&◌, Some, None, Ok, Err, Option, Result, nat_le}
use Rattle.drawing.specs.declared.Feature.{Feature}
use Rattle.drawing.specs.declared.Feature.TheVariants.{LowerBounds, Links, Limits, Terminals}
use Rattle.drawing.specs.declared.Refusal.{Refusal}
use Rattle.drawing.specs.declared.Refusal.TheVariants.{BrokenDrawing, Unsupported, TooLarge}
use Rattle.drawing.specs.declared.Statements.{Statements}
use Rattle.drawing.specs.declared.record.Record.{Record}
use Rattle.drawing.specs.Codes.{refusal_code}
use Rattle.drawing.specs.Drawings.{Network, point_count, run_count, Admissible, is_admissible, units, uses}
use Rattle.drawing.specs.Answers.{Answer}
use Rattle.drawing.specs.Records.{contents, filed}

-- a solver's numbers are never above these
pub record Modest (s : Statements) : Type 0 where
  pub points : s.points ≤ 128
  pub runs : s.runs ≤ 1024
  pub units : s.units ≤ 1800000000

-- whether it says yes to a feature
abbrev pub says_yes : Statements → Feature → Bool
says_yes s LowerBounds = s.lowers
says_yes s Links = s.links
says_yes s Limits = s.limits
says_yes s Terminals = s.terminals

-- It carries an admissible drawing that uses nothing it says no to and keeps within its three numbers.
pub record Carried (s : Statements) (d : Network) : Type 0 where
  pub admissible : Admissible d
  pub says_yes_to : (f : Feature) → uses d f ≡ true → says_yes s f ≡ true
  pub few_points : point_count d ≤ s.points
  pub few_runs : run_count d ≤ s.runs
  pub few_units : units d ≤ s.units

-- the first feature, in their order, that is used and that it says no to
abbrev pub lacks : Statements → Network → Feature → Bool
lacks s d f = uses d f && not (says_yes s f)

abbrev pub first_lacking : Statements → Network → Option Feature
first_lacking s d =
    cond (lacks s d LowerBounds) (Some LowerBounds)
    (cond (lacks s d Links) (Some Links)
    (cond (lacks s d Limits) (Some Limits)
    (cond (lacks s d Terminals) (Some Terminals) None)))

abbrev pub is_within : Statements → Network → Bool
is_within s d = nat_le (point_count d) s.points && nat_le (run_count d) s.runs && nat_le (units d) s.units

-- the refusal of a drawing, by rising number, or none
abbrev pub refusal_of : Statements → Network → Option Refusal
refusal_of s d = cond (is_admissible d)
    (elim (first_lacking s d) [ Some f ↦ Some (Unsupported f) | None ↦ cond (is_within s d) None (Some TooLarge) ])
    (Some BrokenDrawing)

-- as it is told: 10, or 22 with the feature, or 23
abbrev pub code_of : Option Refusal → Option (ℕ × Option ℕ)
code_of None = None
code_of (Some e) = Some (refusal_code e)

abbrev pub refusal : Statements → Network → Option (ℕ × Option ℕ)
refusal s d = code_of (refusal_of s d)

-- what a result tells: nothing where it accepts, the refusal's number and feature where it refuses
abbrev pub told : {U : Type 0} → Result U Refusal → Option (ℕ × Option ℕ)
told (Ok u) = None
told (Err e) = Some (refusal_code e)

-- an accepted solve leaves the answer in the record and nothing else; a refused one leaves the record as it was
abbrev pub Written : {U : Type 0} → Answer → Record → Record → Result U Refusal → Type 0
Written a before after (Ok u) = contents after ≡ filed a
Written a before after (Err e) = after ≡ before
