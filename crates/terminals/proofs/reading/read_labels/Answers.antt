use Rattle.std.proofs.Common.{◌≡◌, ℕ, suc, ◌+◌, ◌≤◌, cond, ◌&&◌, List, [], map, length, get_or, sym, ◌∙◌, ap₂, rules, arith}
use Rattle.std.specs.List.{zip, range_with_len}
use Rattle.std.proofs.lemmas.Iterator.{YieldsList-from_slice, YieldsList-from_map, YieldsList-from_zip}
use Rattle.std.proofs.lemmas.List.{length-map}
use Rattle.drawing.specs.declared.Label.{Label}
use Rattle.drawing.specs.declared.Label.TheVariants.{Near, Far}
use Rattle.drawing.specs.declared.Point.{Point}
use Rattle.drawing.specs.Drawings.{no_point, point, is_rack, is_bar}
use Rattle.drawing.specs.Labels.{is_near, is_far, label}
use Rattle.drawing.specs.Records.{network}
use Rattle.reductions.proofs.Listed.{made_pairs, length_pairs}
use Rattle.scratch.proofs.Writing.{written}
use Rattle.terminals.proofs.reading.read_labels.Goals as goal

-- the label read, by where the new rack and the new bar stand
abbrev read : List Label → ℕ → ℕ → Point × Label → Label
read ls r b (p, l) =
    cond (is_far l && (is_rack p.mark && is_near (get_or ls r Near))) Near
    (cond (is_near l && (is_bar p.mark && is_far (get_or ls b Near))) Far l)

pub returns-clause-items : goal.returns-clause-items
returns-clause-items c =
    let d = network c.args.drawing.now in
    let ps = d.points in
    let ls = c.args.labels.now in
    let n = c.len-n.result in
    let long : length ps ≤ length ls = omega (arith, c.requires.long, c.args.drawing.now.points.ok.0) in
    let rack : n ≡ length ps = omega (arith, c.len-n.ensures, c.args.drawing.now.points.ok.0) in
    let bar : n + 1 ≡ suc (length ps) = omega (arith, rack) in
    let h = read ls n (n + 1) in
    written _ _ [] _ c.push_within.ensures.runs
    (YieldsList-from_map _ h (YieldsList-from_zip (YieldsList-from_slice ps (cc)) (YieldsList-from_slice ls (cc))) c.map.ensures.closure (λ x r q k. search rules))
    c.clear.ensures.items (omega (arith, length-map (zip ps ls) h, length_pairs no_point Near ps ls long, c.requires.room, c.args.drawing.now.points.ok.0))
    ∙ sym (made_pairs no_point Near ps ls long h)
    ∙ ap₂ (λ r b. map (λ v. read ls r b (point d v, label ls v)) (range_with_len 1 (length ps))) rack bar
