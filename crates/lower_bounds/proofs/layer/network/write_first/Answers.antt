use Rattle.std.proofs.Common.{ℕ, [], length, ap, ◌∙◌, ap₂, rules, arith}
use Rattle.std.proofs.lemmas.Iterator.{YieldsList-from_slice, YieldsList-from_map}
use Rattle.std.proofs.lemmas.List.{length-map}
use Rattle.drawing.specs.Drawings.{Network, run_count, run}
use Rattle.drawing.specs.Records.{network}
use Rattle.drawing.proofs.Sums.{sum_below}
use Rattle.reductions.specs.Terminals.{one_rack_one_bar}
use Rattle.reductions.specs.LowerBounds.{old_rack, old_bar, uppers_out, slack}
use Rattle.scratch.proofs.Writing.{written}
use Rattle.lower_bounds.specs.Parts.{points_only, runs_only}
use Rattle.lower_bounds.proofs.Writing.{return_lead_lem, first_runs}
use Rattle.lower_bounds.proofs.layer.network.write_first.Goals as goal

pub push_pairs-requires : goal.push_pairs-requires
push_pairs-requires c =
    let d = network c.args.drawing.now in
    let law = c.requires.lawful in
    let slacks = written _ _ [] _ c.push_within.ensures.runs (YieldsList-from_map _ slack (YieldsList-from_slice d.runs (cc)) (cc) (λ x r q k. search rules)) c.clear.ensures.items
    (omega (arith, length-map d.runs slack, c.requires.runs, c.args.drawing.now.runs.ok.0, c.args.out.now.room)) in
    record {
      few = omega (arith, sum_below (run_count d) (λ k. (run d k).lower) (λ k. (run d k).upper) (λ k w. (law.each_run k w).ordered), c.requires.few);
      small = omega arith;
      room = omega (arith, ap length slacks, length-map d.runs slack, c.push_within.new.out.ok.0, c.push_within.ensures.capacity, c.args.drawing.now.runs.ok.0, c.args.out.now.room, c.requires.runs);
    }

pub returns : goal.returns
returns c =
    let d = network c.args.drawing.now in
    let points = c.deref.ensures.value in
    let slacks = written _ _ [] _ c.push_within.ensures.runs (YieldsList-from_map _ slack (YieldsList-from_slice d.runs (cc)) (cc) (λ x r q k. search rules)) c.clear.ensures.items
    (omega (arith, length-map d.runs slack, c.requires.runs, c.args.drawing.now.runs.ok.0, c.args.out.now.room)) in
    ap₂ (λ p r. let n : Network = record { points = p; runs = r } in n)
    (c.push_points.ensures.items ∙ ap one_rack_one_bar c.deref-3.ensures.value)
    (first_runs d _ _ _ _ slacks c.push_pairs.ensures.items c.push_reserved.ensures.items
    (c.lead.ensures ∙ return_lead_lem d _ _ _
    (ap (λ (p : ℕ × ℕ). p.0) c.ends-rack.ensures ∙ ap (λ l. old_rack (points_only l)) points)
    (ap (λ (p : ℕ × ℕ). p.1) c.ends-rack.ensures ∙ ap (λ l. old_bar (points_only l)) points)
    (c.uppers_leaving-upper.ensures ∙ ap (λ l. uppers_out (runs_only l) c.ends-rack.result.0) c.deref-2.ensures.value)))
