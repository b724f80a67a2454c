use Rattle.std.proofs.Common.{[], ◌++◌, map, vec_items, ap, ◌∙◌, ap₂, rules, arith, length-append}
use Rattle.std.proofs.lemmas.Iterator.{YieldsList-from_slice, YieldsList-from_map}
use Rattle.std.proofs.lemmas.Iterator.Consumers.{YieldsList-from_chain}
use Rattle.std.proofs.lemmas.List.{length-map}
use Rattle.drawing.specs.Drawings.{Network, point_count}
use Rattle.drawing.specs.Records.{network}
use Rattle.reductions.specs.Added.{added}
use Rattle.reductions.specs.Limits.{entry, beyond, limited_at, limit_lead}
use Rattle.reductions.proofs.Carrying.{limits_taken}
use Rattle.scratch.proofs.Writing.{written}
use Rattle.limits.proofs.reduction.WithoutLimitsReduction.write_below.Goals as goal

pub push_runs-requires : goal.push_runs-requires
push_runs-requires c =
    let (b, m, k) = c.requires in
    let fit = limits_taken b (network c.args.drawing.now) m k in
    record {
      lawful = k.admissible.lawful;
      room = omega (arith, fit.runs, c.args.drawing.now.runs.ok.0, c.args.out.now.room);
      small = omega (arith, fit.points, c.args.drawing.now.points.ok.0);
    }

pub push_leads-requires : goal.push_leads-requires
push_leads-requires c =
    let (b, m, k) = c.requires in
    let fit = limits_taken b (network c.args.drawing.now) m k in
    record {
      room = omega (arith, fit.runs, c.push_runs.ensures.len, c.push_runs.ensures.capacity, c.args.drawing.now.runs.ok.0, c.args.drawing.now.points.ok.0, c.args.out.now.room);
      small = omega (arith, fit.points, c.args.drawing.now.points.ok.0);
    }

pub returns : goal.returns
returns c =
    let d = network c.args.drawing.now in
    let (b, m, k) = c.requires in
    let fit = limits_taken b d m k in
    let ps = vec_items c.args.drawing.now.points in
    let entries = YieldsList-from_map _ entry (YieldsList-from_slice ps (cc)) (cc) (λ x r q k. search rules) in
    let beyonds = YieldsList-from_map _ beyond (YieldsList-from_slice ps (cc)) (cc) (λ x r q k. search rules) in
    let points = written _ _ [] _ c.push_within.ensures.runs (YieldsList-from_chain entries beyonds (cc) (cc)) c.clear.ensures.items
    (omega (arith, length-append (map entry ps) (map beyond ps), length-map ps entry, length-map ps beyond, fit.points, c.args.out.now.room)) in
    ap₂ (λ p r. let n : Network = record { points = p; runs = r } in n)
    points
    (c.push_leads.ensures.items ∙ ap (λ l. l ++ added (point_count d) (limited_at d) (limit_lead d)) c.push_runs.ensures.items)
