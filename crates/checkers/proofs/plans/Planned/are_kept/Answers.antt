use Rattle.std.proofs.Common.{ℕ, ◌+◌, Bool, length, sym, ap, ◌∙◌, rules, arith}
use Rattle.std.proofs.lemmas.List.{get_or_default}
use Rattle.std.proofs.lemmas.Iterator.{YieldsList-from_slice, YieldsList-from_zip, YieldsList-from_range}
use Rattle.std.proofs.lemmas.Iterator.Search.{all_from_yields_List}
use borrow.Author.Tests.{tests}
use Rattle.drawing.specs.declared.Point.{Point}
use Rattle.drawing.specs.Drawings.{no_point}
use Rattle.drawing.specs.Plans.{plan_of, entering, leaving}
use Rattle.drawing.specs.Tests.{is_kept}
use Rattle.checkers.specs.Told.{drawn, kept_at}
use Rattle.checkers.proofs.Shapes.{shape, every_numbered}
use Rattle.checkers.proofs.plans.Planned.are_kept.Goals as goal

pub returns : goal.returns
returns c =
    let points = c.args.self.now.drawing.points.now in
    let supplies = c.args.self.now.supplies.now in
    let deliveries = c.args.self.now.deliveries.now in
    let d = drawn points c.args.self.now.drawing.runs.now in
    let p = plan_of c.args.self.now.flows.now supplies deliveries in
    let lists = shape d p c.args.self.now.shaped in
    let kept : ((ℕ × Point) × ℕ) × ℕ → Bool = λ x. kept_at x.0.0.1 x.0.1 x.1 (entering d p x.0.0.0) (leaving d p x.0.0.0) in
    all_from_yields_List kept c.all.new.self _ c.all.result c.all.ensures.ran
    (YieldsList-from_zip {s = c.zip-3.result}
    (YieldsList-from_zip {s = c.zip-3.result.a}
    (YieldsList-from_zip {s = c.zip-3.result.a.a} (YieldsList-from_range 1 (length points + 1) (length points) (ap (λ z. z.a.a) c.zip-3.ensures.first ∙ ap (λ z. z.a) c.zip-2.ensures.first ∙ c.zip.ensures.first) (omega arith)) (YieldsList-from_slice {s = c.zip-3.result.a.a.b} points (cc)))
    (YieldsList-from_slice {s = c.zip-3.result.a.b} supplies (cc)))
    (YieldsList-from_slice {s = c.zip-3.result.b} deliveries (cc)))
    (λ x b q k. search (rules, tests))
    ∙ sym (every_numbered points supplies deliveries lists.supplies lists.deliveries (is_kept d p) kept (λ k x y z l.
    rw (get_or_default points k x no_point l, get_or_default supplies k y 0 (omega (arith, lists.supplies)), get_or_default deliveries k z 0 (omega (arith, lists.deliveries)))))
