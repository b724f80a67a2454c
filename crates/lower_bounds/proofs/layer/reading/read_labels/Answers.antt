use Rattle.std.proofs.Common.{ℕ, cond, ◌&&◌, [], map, length, sym, ap, ◌∙◌, ap₂, rules, arith}
use Rattle.std.specs.List.{zip, range_with_len}
use Rattle.std.proofs.lemmas.Iterator.{YieldsList-from_slice, YieldsList-from_map, YieldsList-from_zip}
use Rattle.std.proofs.lemmas.List.{length-map}
use Rattle.drawing.specs.declared.Point.{Point}
use Rattle.drawing.specs.declared.Label.{Label}
use Rattle.drawing.specs.declared.Label.TheVariants.{Near}
use Rattle.drawing.specs.Drawings.{no_point, point, is_rack}
use Rattle.drawing.specs.Labels.{is_near, is_far, label}
use Rattle.reductions.specs.LowerBounds.{old_rack, old_bar}
use Rattle.reductions.proofs.Listed.{made_pairs, length_pairs}
use Rattle.reductions.proofs.Ones.{one}
use Rattle.scratch.proofs.Writing.{written}
use Rattle.lower_bounds.specs.Parts.{points_only}
use Rattle.lower_bounds.proofs.Reading.{before}
use Rattle.lower_bounds.proofs.layer.reading.read_labels.Goals as goal

pub overflow_sub-rack : goal.overflow_sub-rack
overflow_sub-rack c = omega (arith, ap (λ (q : ℕ × ℕ). q.0) c.ends-rack.ensures, (one _ _ c.requires.rack).inside)

pub bounds-labels-rack : goal.bounds-labels-rack
bounds-labels-rack c = omega (arith, ap (λ (q : ℕ × ℕ). q.0) c.ends-rack.ensures, (one _ _ c.requires.rack).inside, c.requires.long)

pub overflow_sub-bar : goal.overflow_sub-bar
overflow_sub-bar c = omega (arith, ap (λ (q : ℕ × ℕ). q.1) c.ends-rack.ensures, (one _ _ c.requires.bar).inside)

pub bounds-labels-bar : goal.bounds-labels-bar
bounds-labels-bar c = omega (arith, ap (λ (q : ℕ × ℕ). q.1) c.ends-rack.ensures, (one _ _ c.requires.bar).inside, c.requires.long)

pub returns-clause-items : goal.returns-clause-items
returns-clause-items c =
    let ps = c.args.points.now in
    let ls = c.args.labels.now in
    let d = points_only ps in
    let rack = before ls _ (old_rack d) Near (ap (λ (q : ℕ × ℕ). q.0) c.ends-rack.ensures) (one _ _ c.requires.rack).inside.0 in
    let bar = before ls _ (old_bar d) Near (ap (λ (q : ℕ × ℕ). q.1) c.ends-rack.ensures) (one _ _ c.requires.bar).inside.0 in
    let turned = c.is_turned-turned.ensures ∙ ap₂ (λ a b. is_far a && is_near b) rack bar in
    let h : Point × Label → Label = λ x. cond (is_rack x.0.mark && c.is_turned-turned.result) Near x.1 in
    written _ _ [] _ c.push_within.ensures.runs
    (YieldsList-from_map _ h (YieldsList-from_zip (YieldsList-from_slice ps (cc)) (YieldsList-from_slice ls (cc))) c.map.ensures.closure (λ x r q k. search rules))
    c.clear.ensures.items (omega (arith, length-map (zip ps ls) h, length_pairs no_point Near ps ls c.requires.long, c.requires.room))
    ∙ sym (made_pairs no_point Near ps ls c.requires.long h)
    ∙ ap (λ t. map (λ v. cond (is_rack (point d v).mark && t) Near (label ls v)) (range_with_len 1 (length ps))) turned
