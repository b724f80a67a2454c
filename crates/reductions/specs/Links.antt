-- The links layer: the network below, which has leads in place of links, how its answer is read, and what the layer states.
use Rattle.std.specs.Prelude.{ℕ, ◌+◌, ◌/◌, Bool, true, cond, ◌++◌, map, ℤ, ◌-ℤ◌}
use Rattle.std.specs.List.{range_with_len}
use Rattle.drawing.specs.declared.Kind.TheVariants.{Lead}
use Rattle.drawing.specs.declared.Run.{Run}
use Rattle.drawing.specs.declared.Statements.{Statements}
use Rattle.drawing.specs.Counts.{count_to}
use Rattle.drawing.specs.Drawings.{Network, run_count, run, is_link}
use Rattle.drawing.specs.Plans.{Plan, flow}
use Rattle.drawing.specs.Answers.{Answer, Planned, Short}
use Rattle.reductions.specs.Added.{added}

-- the run as a lead from its first end to its second, and a lead back from 0 to its upper
abbrev pub as_lead : Run → Run
as_lead r = record { kind = Lead; tail = r.tail; head = r.head; lower = r.lower; upper = r.upper }

abbrev pub lead_back : Run → Run
lead_back r = record { kind = Lead; tail = r.head; head = r.tail; lower = 0; upper = r.upper }

abbrev pub link_at : Network → ℕ → Bool
link_at d k = is_link (run d k).kind

-- each link becomes a lead, and the leads back follow in the order of the links
abbrev pub links_below : Network → Network
links_below d = record { points = d.points; runs = map as_lead d.runs ++ added (run_count d) (link_at d) (λ k. lead_back (run d k)) }

-- the number below of the lead back of link k
abbrev pub back_of : Network → ℕ → ℕ
back_of d k = run_count d + count_to k (link_at d)

-- the flow of a link is that of its lead minus that of its lead back; the flow of a lead passes up unchanged
abbrev pub links_flow : Network → Plan → ℕ → ℤ
links_flow d p k = cond (link_at d k) (flow p k -ℤ flow p (back_of d k)) (flow p k)

abbrev pub links_plan : Network → Plan → Plan
links_plan d p = record { flows = map (links_flow d p) (range_with_len 1 (run_count d)); supplies = p.supplies; deliveries = p.deliveries }

-- the answer above, by the answer to the network below
abbrev pub links_above : Network → Answer → Answer
links_above d (Planned p t ls) = Planned (links_plan d p) t ls
links_above d (Short ls) = Short ls

-- what the layer states, by what the solver below states
abbrev pub links_states : Statements → Statements
links_states b = record {
  lowers = b.lowers;
  links = true;
  limits = b.limits;
  terminals = b.terminals;
  points = b.points;
  runs = b.runs / 2;
  units = b.units / 2;
}
