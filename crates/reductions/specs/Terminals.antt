-- The terminals layer: the network below, which has one rack and one bar, how its answer is read, and what the layer states.
use Rattle.std.specs.Prelude.{ℕ, suc, ◌+◌, ◌-◌, ◌/◌, Bool, true, cond, ◌&&◌, ◌||◌, List, [], ◌∷◌, ◌++◌, map, None, ◌==◌, nat_le}
use Rattle.std.specs.List.{range_with_len}
use Rattle.drawing.specs.declared.Mark.TheVariants.{Plain, Rack, Bar}
use Rattle.drawing.specs.declared.Point.{Point}
use Rattle.drawing.specs.declared.Kind.TheVariants.{Lead}
use Rattle.drawing.specs.declared.Run.{Run}
use Rattle.drawing.specs.declared.Label.{Label}
use Rattle.drawing.specs.declared.Label.TheVariants.{Near, Far}
use Rattle.drawing.specs.declared.Statements.{Statements}
use Rattle.drawing.specs.Counts.{sum_to, only, count_to}
use Rattle.drawing.specs.Drawings.{Network, point_count, run_count, point, run, is_rack, is_bar, is_link}
use Rattle.drawing.specs.Plans.{Plan, flow, forth}
use Rattle.drawing.specs.Labels.{is_near, is_far, label}
use Rattle.drawing.specs.Answers.{Answer, Planned, Short}
use Rattle.reductions.specs.Added.{added}

-- the old points keep their limits and lose their marks; n + 1 is the only rack and n + 2 the only bar
abbrev pub unmarked : Point → Point
unmarked q = record { mark = Plain; limit = q.limit }

abbrev pub new_rack : Network → ℕ
new_rack d = suc (point_count d)

abbrev pub new_bar : Network → ℕ
new_bar d = suc (suc (point_count d))

abbrev pub one_rack_one_bar : List Point → List Point
one_rack_one_bar ps = map unmarked ps ++ (record { mark = Rack; limit = None } ∷ record { mark = Bar; limit = None } ∷ [])

-- the upper of a run that is a lead leaving v or a link at v; a lead entering v or a link at v
abbrev pub upper_leaving : Run → ℕ → ℕ
upper_leaving r v = only (r.tail == v) r.upper + only (r.head == v) (only (is_link r.kind) r.upper)

abbrev pub upper_entering : Run → ℕ → ℕ
upper_entering r v = only (r.head == v) r.upper + only (r.tail == v) (only (is_link r.kind) r.upper)

abbrev pub uppers_leaving : Network → ℕ → ℕ
uppers_leaving d v = sum_to (run_count d) (λ k. upper_leaving (run d k) v)

abbrev pub uppers_entering : Network → ℕ → ℕ
uppers_entering d v = sum_to (run_count d) (λ k. upper_entering (run d k) v)

-- a lead from n + 1 to each old rack, and from each old bar to n + 2, in one pass by point
abbrev pub is_terminal : Network → ℕ → Bool
is_terminal d v = is_rack (point d v).mark || is_bar (point d v).mark

abbrev pub terminal_lead : Network → ℕ → Run
terminal_lead d v =
    cond (is_rack (point d v).mark)
    (record { kind = Lead; tail = new_rack d; head = v; lower = 0; upper = uppers_leaving d v })
    (record { kind = Lead; tail = v; head = new_bar d; lower = 0; upper = uppers_entering d v })

abbrev pub terminals_below : Network → Network
terminals_below d = record {
  points = one_rack_one_bar d.points;
  runs = d.runs ++ added (point_count d) (is_terminal d) (terminal_lead d);
}

-- the number below of the lead of the old rack or bar v
abbrev pub lead_of : Network → ℕ → ℕ
lead_of d v = run_count d + count_to v (is_terminal d)

-- the flows of those leads are the supplies and deliveries
abbrev pub terminals_plan : Network → Plan → Plan
terminals_plan d p = record {
  flows = map (flow p) (range_with_len 1 (run_count d));
  supplies = map (λ v. only (is_rack (point d v).mark) (forth (flow p (lead_of d v)))) (range_with_len 1 (point_count d));
  deliveries = map (λ v. only (is_bar (point d v).mark) (forth (flow p (lead_of d v)))) (range_with_len 1 (point_count d));
}

-- if n + 1 is near, a far old rack is read as near; if n + 2 is far, a near old bar is read as far
abbrev pub terminals_label : Network → List Label → ℕ → Label
terminals_label d ls v =
    cond (is_far (label ls v) && (is_rack (point d v).mark && is_near (label ls (new_rack d)))) Near
    (cond (is_near (label ls v) && (is_bar (point d v).mark && is_far (label ls (new_bar d)))) Far (label ls v))

abbrev pub terminals_labels : Network → List Label → List Label
terminals_labels d ls = map (terminals_label d ls) (range_with_len 1 (point_count d))

-- the answer above, by the answer to the network below
abbrev pub terminals_above : Network → Answer → Answer
terminals_above d (Planned p t ls) = Planned (terminals_plan d p) t (terminals_labels d ls)
terminals_above d (Short ls) = Short (terminals_labels d ls)

-- What the layer states, by what the solver below states. Its own most points are two fewer than below, and a run below
-- is kept for each. Where a difference would be below 0 all three numbers are 0.
abbrev pub terminals_fit : Statements → Bool
terminals_fit b = nat_le 2 b.points && nat_le (b.points - 2) b.runs

abbrev pub terminals_states : Statements → Statements
terminals_states b = record {
  lowers = b.lowers;
  links = b.links;
  limits = b.limits;
  terminals = true;
  points = only (terminals_fit b) (b.points - 2);
  runs = only (terminals_fit b) (b.runs - (b.points - 2));
  units = only (terminals_fit b) (b.units / 3);
}
