use Rattle.std.proofs.Common.{◌≡◌, sym, ◌∙◌, rules, arith}
use Rattle.std.specs.List.{sum_by}
use Rattle.std.proofs.lemmas.Iterator.Adapters.{fits_from_length}
use borrow.Author.Tests.{tests}
use Rattle.std.proofs.iter.Serving.{returning}
use Rattle.drawing.specs.Drawings.{no_run}
use Rattle.drawing.proofs.Lists.{sum_items}
use Rattle.checkers.proofs.Bounds.{sum_below_top, items_few}
use Rattle.checkers.proofs.admitted.Admitted.uppers.Goals as goal

pub sum-requires-clause-fits : goal.sum-requires-clause-fits
sum-requires-clause-fits c =
    fits_from_length _ _ 1024 _ (items_few c.args.self.now.runs.now 1024 (cc) (omega arith)) c.map.ensures.closure (omega arith) (λ x r q k. search (rules, tests))

pub returns : goal.returns
returns c =
    let runs = c.args.self.now.runs.now in
    let uppers : c.sum.result ≡ sum_by (λ r. r.upper) runs = search (rules, returning) in
    let bound = sum_below_top c.sum.result 1024 4398046510081 _ (c.sum.ensures.runs tt)
    (items_few runs 1024 (cc) (omega arith)) c.map.ensures.closure (omega arith) (λ x r q k. search (rules, tests)) in
    record { value = uppers ∙ sym (sum_items no_run runs (λ r. r.upper)); bound = omega (arith, bound) }
