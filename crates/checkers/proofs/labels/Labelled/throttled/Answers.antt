use Rattle.std.proofs.Common.{sym, ◌∙◌, rules, arith}
use Rattle.std.specs.List.{zip}
use Rattle.std.proofs.lemmas.Iterator.{YieldsList-from_slice, YieldsList-from_zip, YieldsList-from_map}
use Rattle.std.proofs.lemmas.Iterator.Consumers.{sum_by_from_yields_List}
use borrow.Author.Tests.{tests}
use Rattle.drawing.specs.declared.Label.TheVariants.{Near}
use Rattle.drawing.specs.Drawings.{no_point}
use Rattle.drawing.proofs.Deciding.{decides_labelling}
use Rattle.drawing.proofs.Lists.{sum_pairs}
use Rattle.checkers.specs.Told.{drawn, point_adds}
use Rattle.checkers.proofs.Bounds.{sum_below_top, pairs_few}
use Rattle.checkers.proofs.labels.Labelled.throttled.Goals as goal

pub returns-clause-value : goal.returns-clause-value
returns-clause-value c =
    let points = c.args.self.now.drawing.points.now in
    let labels = c.args.self.now.labels.now in
    let d = drawn points c.args.self.now.drawing.runs.now in
    sum_by_from_yields_List (λ x. point_adds x.1 x.0.limit) (zip points labels) c.map.result c.sum.result c.sum.ensures.ran
    (YieldsList-from_map _ (λ x. point_adds x.1 x.0.limit)
    (YieldsList-from_zip {s = c.map.result.iter} (YieldsList-from_slice {s = c.map.result.iter.a} points (cc)) (YieldsList-from_slice {s = c.map.result.iter.b} labels (cc)))
    c.map.ensures.closure (λ x r q k. search (rules, tests)))
    ∙ sym (sum_pairs no_point Near points labels ((decides_labelling d labels).0 c.args.self.now.labelling).label_count (λ x. point_adds x.1 x.0.limit))

pub returns-clause-bound : goal.returns-clause-bound
returns-clause-bound c =
    let points = c.args.self.now.drawing.points.now in
    let labels = c.args.self.now.labels.now in
    let same = ((decides_labelling (drawn points c.args.self.now.drawing.runs.now) labels).0 c.args.self.now.labelling).label_count in
    let held = sum_below_top c.sum.result 128 549755813761 _ (c.sum.ensures.runs tt)
    (pairs_few {s = c.map.result.iter} points labels 128 (cc) (cc) (omega arith))
    c.map.ensures.closure (omega arith) (λ x r q k. search (rules, tests)) in
    omega (arith, held)
