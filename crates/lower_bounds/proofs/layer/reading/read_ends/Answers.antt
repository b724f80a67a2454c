use Rattle.std.proofs.Common.{ℕ, [], sym, ◌∙◌, rules, arith}
use Rattle.std.proofs.lemmas.Iterator.{YieldsList-from_slice, YieldsList-from_map}
use Rattle.std.proofs.lemmas.List.{length-map}
use Rattle.drawing.specs.declared.Point.{Point}
use Rattle.drawing.specs.Counts.{only}
use Rattle.drawing.specs.Drawings.{no_point, is_rack, is_bar}
use Rattle.reductions.proofs.Listed.{made_items}
use Rattle.scratch.proofs.Writing.{written}
use Rattle.lower_bounds.proofs.layer.reading.read_ends.Goals as goal

pub returns-clause-supplied : goal.returns-clause-supplied
returns-clause-supplied c =
    let ps = c.args.points.now in
    let h : Point → ℕ = λ p. only (is_rack p.mark) c.args.total in
    written _ _ [] _ c.push_within.ensures.runs (YieldsList-from_map _ h (YieldsList-from_slice ps (cc)) c.map-supplied.ensures.closure (λ x r q k. search rules))
    c.clear.ensures.items (omega (arith, length-map ps h, c.requires.room.0))
    ∙ sym (made_items no_point ps h)

pub returns-clause-delivered : goal.returns-clause-delivered
returns-clause-delivered c =
    let ps = c.args.points.now in
    let h : Point → ℕ = λ p. only (is_bar p.mark) c.args.total in
    written _ _ [] _ c.push_within-2.ensures.runs (YieldsList-from_map _ h (YieldsList-from_slice ps (cc)) c.map-delivered.ensures.closure (λ x r q k. search rules))
    c.clear-2.ensures.items (omega (arith, length-map ps h, c.requires.room.1))
    ∙ sym (made_items no_point ps h)
