-- The limits layer: the network below, which has leads in place of limits, how its answer is read, and what the layer states.
-- It is given no links.
use Rattle.std.specs.Prelude.{ℕ, ◌+◌, ◌-◌, ◌/◌, Bool, true, false, cond, ◌&&◌, List, ◌++◌, map, is_some, None, nat_le}
use Rattle.std.specs.List.{range_with_len}
use Rattle.drawing.specs.declared.Mark.TheVariants.{Plain, Bar}
use Rattle.drawing.specs.declared.Point.{Point}
use Rattle.drawing.specs.declared.Kind.TheVariants.{Lead}
use Rattle.drawing.specs.declared.Run.{Run}
use Rattle.drawing.specs.declared.Label.{Label}
use Rattle.drawing.specs.declared.Label.TheVariants.{Near, Tight, Far}
use Rattle.drawing.specs.declared.Statements.{Statements}
use Rattle.drawing.specs.Counts.{only}
use Rattle.drawing.specs.Drawings.{Network, point_count, run_count, point, is_bar, limit_of}
use Rattle.drawing.specs.Plans.{Plan, flow, supply, delivery}
use Rattle.drawing.specs.Labels.{is_near, label}
use Rattle.drawing.specs.Answers.{Answer, Planned, Short}
use Rattle.reductions.specs.Added.{added}

-- Points v and n + v have no limits, and the mark of a limited bar v stands at n + v. Of an unlimited v, n + v is an isolated plain point.
abbrev pub entry : Point → Point
entry q = record { mark = cond (is_some q.limit && is_bar q.mark) Plain q.mark; limit = None }

abbrev pub beyond : Point → Point
beyond q = record { mark = cond (is_some q.limit && is_bar q.mark) Bar Plain; limit = None }

abbrev pub limited_at : Network → ℕ → Bool
limited_at d v = is_some (point d v).limit

-- where a lead that left v leaves
abbrev pub exit : Network → ℕ → ℕ
exit d v = cond (limited_at d v) (point_count d + v) v

abbrev pub moved : Network → Run → Run
moved d r = record { kind = r.kind; tail = exit d r.tail; head = r.head; lower = r.lower; upper = r.upper }

-- the lead for which v trades its limit
abbrev pub limit_lead : Network → ℕ → Run
limit_lead d v = record { kind = Lead; tail = v; head = point_count d + v; lower = 0; upper = limit_of (point d v).limit }

abbrev pub limits_below : Network → Network
limits_below d = record {
  points = map entry d.points ++ map beyond d.points;
  runs = map (moved d) d.runs ++ added (point_count d) (limited_at d) (limit_lead d);
}

-- a limited bar's delivery is that of n + v
abbrev pub limits_plan : Network → Plan → Plan
limits_plan d p = record {
  flows = map (flow p) (range_with_len 1 (run_count d));
  supplies = map (supply p) (range_with_len 1 (point_count d));
  deliveries = map (λ v. delivery p (exit d v)) (range_with_len 1 (point_count d));
}

-- a limited v is near if both are near, tight if only v is, and far otherwise
abbrev pub merged : Label → Label → Label
merged a b = cond (is_near a) (cond (is_near b) Near Tight) Far

abbrev pub limits_label : Network → List Label → ℕ → Label
limits_label d ls v = cond (limited_at d v) (merged (label ls v) (label ls (point_count d + v))) (label ls v)

abbrev pub limits_labels : Network → List Label → List Label
limits_labels d ls = map (limits_label d ls) (range_with_len 1 (point_count d))

-- the answer above, by the answer to the network below
abbrev pub limits_above : Network → Answer → Answer
limits_above d (Planned p t ls) = Planned (limits_plan d p) t (limits_labels d ls)
limits_above d (Short ls) = Short (limits_labels d ls)

-- What the layer states, by what the solver below states. Its own most points are half of those below, and a run below
-- is kept for each. Where a difference would be below 0 all three numbers are 0.
abbrev pub limits_fit : Statements → Bool
limits_fit b = nat_le (b.points / 2) b.runs

abbrev pub limits_states : Statements → Statements
limits_states b = record {
  lowers = b.lowers;
  links = false;
  limits = true;
  terminals = b.terminals;
  points = only (limits_fit b) (b.points / 2);
  runs = only (limits_fit b) (b.runs - b.points / 2);
  units = only (limits_fit b) b.units;
}
