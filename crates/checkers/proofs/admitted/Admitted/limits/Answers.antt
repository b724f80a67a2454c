use Rattle.std.proofs.Common.{◌≡◌, sym, ◌∙◌, rules, arith}
use Rattle.std.specs.List.{sum_by, filter_map}
use Rattle.std.proofs.lemmas.Iterator.{YieldsList-from_slice, YieldsList-from_map}
use Rattle.std.proofs.lemmas.Iterator.Adapters.{fits_from_length}
use Rattle.std.proofs.lemmas.Iterator.Consumers.{YieldsList-from_filter_map, sum_by_from_yields_List}
use borrow.Author.Tests.{tests}
use Rattle.drawing.specs.Drawings.{no_point, limit_of}
use Rattle.drawing.proofs.Lists.{sum_items}
use Rattle.checkers.proofs.Bounds.{sum_below_top}
use Rattle.checkers.proofs.Limits.{few_limits, sum_limits}
use Rattle.checkers.proofs.admitted.Admitted.limits.Goals as goal

pub sum-requires-clause-fits : goal.sum-requires-clause-fits
sum-requires-clause-fits c =
    fits_from_length _ _ 128 _
    (few_limits c.args.self.now.points.now 128 (cc) (omega arith) c.filter_map.ensures.closure (λ x r q k. search (rules, tests)))
    c.map.ensures.closure (omega arith) (λ x r q k. search (rules, tests))

pub returns : goal.returns
returns c =
    let points = c.args.self.now.points.now in
    let limits : c.sum.result ≡ sum_by (λ x. x) (filter_map (λ p. p.limit) points)
    = sum_by_from_yields_List (λ x. x) (filter_map (λ p. p.limit) points) c.map.result c.sum.result c.sum.ensures.ran
    (YieldsList-from_map _ (λ x. x)
    (YieldsList-from_filter_map {s = c.map.result.iter} _ (λ p. p.limit) (YieldsList-from_slice points (cc)) c.filter_map.ensures.closure (λ x r q k. search (rules, tests)))
    c.map.ensures.closure (λ x r q k. search (rules, tests))) in
    let bound = sum_below_top c.sum.result 128 549755813761 _ (c.sum.ensures.runs tt)
    (few_limits points 128 (cc) (omega arith) c.filter_map.ensures.closure (λ x r q k. search (rules, tests)))
    c.map.ensures.closure (omega arith) (λ x r q k. search (rules, tests)) in
    record { value = limits ∙ sum_limits points ∙ sym (sum_items no_point points (λ p. limit_of p.limit)); bound = omega (arith, bound) }
