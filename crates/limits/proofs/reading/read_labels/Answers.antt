use Rattle.std.proofs.Common.{◌≡◌, ◌+◌, cond, [], map, length, drop, is_some, sym, ap, ◌∙◌, rules, arith}
use Rattle.std.specs.List.{zip, range_with_len}
use Rattle.std.proofs.lemmas.Iterator.{YieldsList-from_slice, YieldsList-from_map, YieldsList-from_zip}
use Rattle.std.proofs.lemmas.List.{length-map, take_rest}
use Rattle.drawing.specs.declared.Label.{Label}
use Rattle.drawing.specs.declared.Label.TheVariants.{Near}
use Rattle.drawing.specs.declared.Point.{Point}
use Rattle.drawing.specs.Drawings.{no_point}
use Rattle.drawing.specs.Records.{network}
use Rattle.reductions.specs.Limits.{merged, limits_label}
use Rattle.reductions.proofs.Listed.{made_reads}
use Rattle.scratch.proofs.Writing.{written}
use Rattle.limits.proofs.Halves.{length_halves, reads_halves}
use Rattle.limits.proofs.reading.read_labels.Goals as goal

abbrev read : (Point × Label) × Label → Label
read ((q, own), beyond) = cond (is_some q.limit) (merged own beyond) own

pub returns-clause-items : goal.returns-clause-items
returns-clause-items c =
    let d = network c.args.drawing.now in
    let ps = d.points in
    let ls = c.args.labels.now in
    let n = c.len.result in
    let same : n ≡ length ps = omega (arith, c.len.ensures, c.args.drawing.now.points.ok.0) in
    let long : length ls ≡ length ps + length ps = omega (arith, c.requires.long, c.args.drawing.now.points.ok.0) in
    let count = length_halves no_point Near ps ls n same long in
    written _ _ [] _ c.push_within.ensures.runs
    (YieldsList-from_map _ read (YieldsList-from_zip (YieldsList-from_zip (YieldsList-from_slice ps (cc)) (YieldsList-from_slice ls (cc))) (YieldsList-from_slice (drop n ls) (cc (take_rest ls n)))) c.map.ensures.closure (λ x r q k. search rules))
    c.clear.ensures.items (omega (arith, length-map (zip (zip ps ls) (drop n ls)) read, count, c.requires.room, c.args.drawing.now.points.ok.0))
    ∙ sym (ap (λ k. map (limits_label d ls) (range_with_len 1 k)) (sym count) ∙ made_reads (limits_label d ls) read _ (reads_halves no_point Near ps ls n same long read))
