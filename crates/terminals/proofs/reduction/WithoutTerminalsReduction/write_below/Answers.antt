use Rattle.std.proofs.Common.{◌++◌, length, vec_items, vec_capacity, ap, ◌∙◌, ap₂, arith}
use Rattle.drawing.specs.Drawings.{Network, point_count}
use Rattle.drawing.specs.Records.{network}
use Rattle.reductions.specs.Added.{added}
use Rattle.reductions.specs.Terminals.{one_rack_one_bar, is_terminal, terminal_lead}
use Rattle.reductions.proofs.Carrying.{terminals_taken}
use Rattle.scratch.proofs.Filing.{copied}
use Rattle.terminals.proofs.reduction.WithoutTerminalsReduction.write_below.Goals as goal

pub push_points-requires : goal.push_points-requires
push_points-requires c =
    let (b, m, k) = c.requires in
    let fit = terminals_taken b (network c.args.drawing.now) m k in
    omega (arith, fit.points, ap length c.deref.ensures.value, c.args.out.now.room)

pub push_leads-requires : goal.push_leads-requires
push_leads-requires c =
    let (b, m, k) = c.requires in
    let fit = terminals_taken b (network c.args.drawing.now) m k in
    let runs = copied _ _ (vec_items c.args.drawing.now.runs) (vec_capacity c.args.out.now.drawing.runs) c.copy_into.ensures.items c.deref-2.ensures.value
    (omega (arith, fit.runs, c.args.out.now.room)) in
    record {
      lawful = k.admissible.lawful;
      few = fit.few;
      room = omega (arith, fit.runs, ap length runs, c.copy_into.new.out.ok.0, c.args.drawing.now.runs.ok.0, c.copy_into.ensures.capacity, c.args.out.now.room);
      small = omega (arith, fit.points, c.args.drawing.now.points.ok.0);
    }

pub returns : goal.returns
returns c =
    let d = network c.args.drawing.now in
    let (b, m, k) = c.requires in
    let fit = terminals_taken b d m k in
    let runs = copied _ _ d.runs (vec_capacity c.args.out.now.drawing.runs) c.copy_into.ensures.items c.deref-2.ensures.value (omega (arith, fit.runs, c.args.out.now.room)) in
    ap₂ (λ p r. let n : Network = record { points = p; runs = r } in n)
    (c.push_points.ensures.items ∙ ap one_rack_one_bar c.deref.ensures.value)
    (c.push_leads.ensures.items ∙ ap (λ l. l ++ added (point_count d) (is_terminal d) (terminal_lead d)) runs)
