-- The changes of a rig's drawing: which of them are refused, by rising number, and what the others write.
use Rattle.std.specs.Prelude.{ℕ, zero, suc, Bool, true, cond, not, ◌&&◌, ◌||◌, List, [], ◌∷◌, ◌++◌, replicate, Some, None, Ok, Err, Option, Result, ◌==◌, nat_le, nat_lt, slice_set}
use Rattle.drawing.specs.declared.Mark.{Mark}
use Rattle.drawing.specs.declared.Kind.{Kind}
use Rattle.drawing.specs.declared.Run.{Run}
use Rattle.drawing.specs.declared.Refusal.{Refusal}
use Rattle.drawing.specs.declared.Refusal.TheVariants.{PointCount, NoSuchPoint, NoSuchRun, BadRange, EqualEnds, RunsFull}
use Rattle.drawing.specs.Drawings.{Network, point_count, run_count, point, run, no_point, is_link}

-- a check, and the checks after it: where it fails, its refusal is told
abbrev pub check : Bool → Refusal → Option Refusal → Option Refusal
check passed e rest = cond passed rest (Some e)

-- what a call answers, and what is held after it: a refusal alters nothing
abbrev pub answered : {A : Type 0} → Option Refusal → A → Result A Refusal
answered None a = Ok a
answered (Some e) a = Err e

abbrev pub held_after : {A : Type 0} → Option Refusal → A → A → A
held_after None new old = new
held_after (Some e) new old = old

-- x in the place of the v-th of a list, counted from 1
abbrev pub put : {A : Type 0} → List A → ℕ → A → List A
put xs zero x = xs
put xs (suc k) x = slice_set xs k x

-- n plain points without limits, and no run
abbrev pub plain_rig : ℕ → Network
plain_rig n = record { points = replicate n no_point; runs = [] }

abbrev pub count_refusal : ℕ → Option Refusal
count_refusal n = check (nat_le 1 n && nat_le n 60) PointCount None

abbrev pub is_point : Network → ℕ → Bool
is_point d v = nat_le 1 v && nat_le v (point_count d)

abbrev pub is_run : Network → ℕ → Bool
is_run d k = nat_le 1 k && nat_le k (run_count d)

-- a range that a run of a rig may have
abbrev pub is_range : Kind → ℕ → ℕ → Bool
is_range kind lower upper = nat_le lower upper && nat_le upper 9999 && (not (is_link kind) || lower == 0)

-- a limit that a point of a rig may have: none, or at most 9,999
abbrev pub is_limit : Option ℕ → Bool
is_limit None = true
is_limit (Some l) = nat_le l 9999

-- point v is marked
abbrev pub mark_refusal : Network → ℕ → Option Refusal
mark_refusal d v = check (is_point d v) NoSuchPoint None

abbrev pub marked : Network → ℕ → Mark → Network
marked d v m = record { points = put d.points v (record { mark = m; limit = (point d v).limit }); runs = d.runs }

-- point v is given a limit, or none
abbrev pub limit_refusal : Network → ℕ → Option ℕ → Option Refusal
limit_refusal d v l = check (is_point d v) NoSuchPoint (check (is_limit l) BadRange None)

abbrev pub limited : Network → ℕ → Option ℕ → Network
limited d v l = record { points = put d.points v (record { mark = (point d v).mark; limit = l }); runs = d.runs }

-- a lead or a link is laid as the next run
abbrev pub lay_refusal : Network → Run → Option Refusal
lay_refusal d r =
    check (is_point d r.tail && is_point d r.head) NoSuchPoint
    (check (is_range r.kind r.lower r.upper) BadRange
    (check (not (r.tail == r.head)) EqualEnds
    (check (nat_lt (run_count d) 160) RunsFull None)))

abbrev pub laid : Network → Run → Network
laid d r = record { points = d.points; runs = d.runs ++ (r ∷ []) }

-- run k is looked for
abbrev pub run_refusal : Network → ℕ → Option Refusal
run_refusal d k = check (is_run d k) NoSuchRun None

-- run k is given another range
abbrev pub rerate_refusal : Network → ℕ → ℕ → ℕ → Option Refusal
rerate_refusal d k lower upper = check (is_run d k) NoSuchRun (check (is_range (run d k).kind lower upper) BadRange None)

abbrev pub ranged : Run → ℕ → ℕ → Run
ranged r lower upper = record { kind = r.kind; tail = r.tail; head = r.head; lower = lower; upper = upper }

abbrev pub rerated : Network → ℕ → ℕ → ℕ → Network
rerated d k lower upper = record { points = d.points; runs = put d.runs k (ranged (run d k) lower upper) }
