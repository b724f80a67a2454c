-- The lower-bounds layer: its two networks below, neither with lower bounds, how their answers are read, and what the layer states.
-- It is given leads only, no limits, one rack and one bar.
use Rattle.std.specs.Prelude.{ℕ, zero, suc, ◌+◌, ◌-◌, ◌*◌, ◌/◌, min, Bool, true, false, cond, ◌&&◌, List, [], ◌∷◌, ◌++◌, map, ℤ, pos, ◌-ℤ◌, ◌==◌, nat_le, nat_lt}
use Rattle.std.specs.List.{range_with_len}
use Rattle.drawing.specs.declared.Kind.TheVariants.{Lead}
use Rattle.drawing.specs.declared.Run.{Run}
use Rattle.drawing.specs.declared.Label.{Label}
use Rattle.drawing.specs.declared.Label.TheVariants.{Near}
use Rattle.drawing.specs.declared.Statements.{Statements}
use Rattle.drawing.specs.Counts.{sum_to, only}
use Rattle.drawing.specs.Drawings.{Network, point_count, run_count, point, run, is_rack, is_bar}
use Rattle.drawing.specs.Plans.{Plan, flow, forth}
use Rattle.drawing.specs.Labels.{is_near, is_far, label}
use Rattle.drawing.specs.Answers.{Answer, Planned, Short}
use Rattle.reductions.specs.Terminals.{new_rack, new_bar, one_rack_one_bar}

-- the number of the one that passes the test
abbrev pub the_one : ℕ → (ℕ → Bool) → ℕ
the_one n t = sum_to n (λ v. only (t v) v)

abbrev pub old_rack : Network → ℕ
old_rack d = the_one (point_count d) (λ v. is_rack (point d v).mark)

abbrev pub old_bar : Network → ℕ
old_bar d = the_one (point_count d) (λ v. is_bar (point d v).mark)

-- the lowers of the leads that enter v, of those that leave v, and of all; the uppers of the leads that leave v
abbrev pub lowers_in : Network → ℕ → ℕ
lowers_in d v = sum_to (run_count d) (λ k. only ((run d k).head == v) (run d k).lower)

abbrev pub lowers_out : Network → ℕ → ℕ
lowers_out d v = sum_to (run_count d) (λ k. only ((run d k).tail == v) (run d k).lower)

abbrev pub all_lowers : Network → ℕ
all_lowers d = sum_to (run_count d) (λ k. (run d k).lower)

abbrev pub uppers_out : Network → ℕ → ℕ
uppers_out d v = sum_to (run_count d) (λ k. only ((run d k).tail == v) (run d k).upper)

-- First network: each lead from 0 to upper minus lower; then each v in order gets a lead from n + 1 with the lowers entering v
-- and one to n + 2 with the lowers leaving v; last comes a lead from the old bar to the old rack.
abbrev pub slack : Run → Run
slack r = record { kind = Lead; tail = r.tail; head = r.head; lower = 0; upper = r.upper - r.lower }

abbrev pub supply_lead : Network → ℕ → Run
supply_lead d v = record { kind = Lead; tail = new_rack d; head = v; lower = 0; upper = lowers_in d v }

abbrev pub demand_lead : Network → ℕ → Run
demand_lead d v = record { kind = Lead; tail = v; head = new_bar d; lower = 0; upper = lowers_out d v }

abbrev pub return_lead : Network → Run
return_lead d = record { kind = Lead; tail = old_bar d; head = old_rack d; lower = 0; upper = uppers_out d (old_rack d) }

-- a 1, b 1, a 2, b 2, .. a n, b n
abbrev pub pairs : ℕ → (ℕ → Run) → (ℕ → Run) → List Run
pairs zero a b = []
pairs (suc n) a b = pairs n a b ++ (a (suc n) ∷ b (suc n) ∷ [])

abbrev pub lowers_first : Network → Network
lowers_first d = record {
  points = one_rack_one_bar d.points;
  runs = map slack d.runs ++ (pairs (point_count d) (supply_lead d) (demand_lead d) ++ (return_lead d ∷ []));
}

-- the flow found, with the lower added back, and the flow of the last lead
abbrev pub found : Network → Plan → ℕ → ℕ
found d p k = (run d k).lower + forth (flow p k)

abbrev pub last_flow : Network → Plan → ℕ
last_flow d p = forth (flow p (run_count d + (point_count d + point_count d + 1)))

-- the labels of a shortage: a far rack beside a near bar is read as near
abbrev pub short_label : Network → List Label → ℕ → Label
short_label d ls v = cond (is_rack (point d v).mark && (is_far (label ls (old_rack d)) && is_near (label ls (old_bar d)))) Near (label ls v)

abbrev pub short_labels : Network → List Label → List Label
short_labels d ls = map (short_label d ls) (range_with_len 1 (point_count d))

-- Second network, by the plan of the first: each lead from 0 to upper minus the flow found, then each reversed from 0 to that flow minus lower.
abbrev pub forward_lead : Network → Plan → ℕ → Run
forward_lead d p k = record { kind = Lead; tail = (run d k).tail; head = (run d k).head; lower = 0; upper = (run d k).upper - found d p k }

abbrev pub reversed_lead : Network → Plan → ℕ → Run
reversed_lead d p k = record { kind = Lead; tail = (run d k).head; head = (run d k).tail; lower = 0; upper = found d p k - (run d k).lower }

abbrev pub lowers_second : Network → Plan → Network
lowers_second d p = record {
  points = d.points;
  runs = map (forward_lead d p) (range_with_len 1 (run_count d)) ++ map (reversed_lead d p) (range_with_len 1 (run_count d));
}

-- the flow found plus forward minus reversed; supply and delivery are the last lead's flow in the first network plus the new total
abbrev pub raised_flow : Network → Plan → Plan → ℕ → ℤ
raised_flow d p p₂ k = pos (found d p k + forth (flow p₂ k)) -ℤ pos (forth (flow p₂ (run_count d + k)))

abbrev pub raised_plan : Network → Plan → Plan → ℕ → Plan
raised_plan d p p₂ t = record {
  flows = map (raised_flow d p p₂) (range_with_len 1 (run_count d));
  supplies = map (λ v. only (is_rack (point d v).mark) t) (range_with_len 1 (point_count d));
  deliveries = map (λ v. only (is_bar (point d v).mark) t) (range_with_len 1 (point_count d));
}

-- the answer above, by the plan of the first network and the answer to the second, which is never a shortage
abbrev pub raised_answer : Network → Plan → Answer → Answer
raised_answer d p (Planned p₂ t₂ ls₂) = Planned (raised_plan d p p₂ (last_flow d p + t₂)) (last_flow d p + t₂) ls₂
raised_answer d p (Short ls₂) = Short ls₂

-- The answer above, by the answer to the first network, which is never a shortage, and what is answered to the second:
-- a shortage if the total is under the sum of all lowers.
abbrev pub lowers_above : Network → Answer → (Network → Answer) → Answer
lowers_above d (Planned p t ls) again = cond (nat_lt t (all_lowers d)) (Short (short_labels d ls)) (raised_answer d p (again (lowers_second d p)))
lowers_above d (Short ls) again = Short ls

-- What the layer states, by what the solver below states. Its own most points are two fewer than below, two runs below are kept for each, and one more.
-- Where a difference would be below 0 all three numbers are 0.
abbrev pub lowers_fit : Statements → Bool
lowers_fit b = nat_le 2 b.points && nat_le (2 * (b.points - 2) + 1) b.runs

abbrev pub lowers_states : Statements → Statements
lowers_states b = record {
  lowers = true;
  links = false;
  limits = false;
  terminals = false;
  points = only (lowers_fit b) (b.points - 2);
  runs = only (lowers_fit b) (min (b.runs / 2) (b.runs - 2 * (b.points - 2) - 1));
  units = only (lowers_fit b) (b.units / 3);
}
