use Rattle.std.proofs.Common.{◌≡◌, ◌+◌, pos, ◌-ℤ◌, sym, ◌∙◌, ap₂, rules, arith, SFits, w64}
use Rattle.std.specs.List.{sum_by}
use Rattle.std.proofs.lemmas.Int.{to_z-of_z}
use Rattle.std.proofs.lemmas.Iterator.Adapters.{fits_from_length}
use borrow.Author.Tests.{tests}
use Rattle.std.proofs.iter.Serving.{returning}
use Rattle.drawing.specs.Drawings.{no_run}
use Rattle.drawing.proofs.Lists.{sum_items}
use Rattle.checkers.specs.Told.{drawn, run_adds, run_deducts}
use Rattle.checkers.proofs.Bounds.{sum_below_top, items_few}
use Rattle.checkers.proofs.labels.Labelled.worth.Goals as goal

pub sum-crossing-requires-clause-fits : goal.sum-crossing-requires-clause-fits
sum-crossing-requires-clause-fits c =
    fits_from_length _ _ 1024 _ (items_few c.args.self.now.drawing.runs.now 1024 (cc) (omega arith)) c.map.ensures.closure (omega arith) (λ x r q k. search (rules, tests))

pub sum-forced-requires-clause-fits : goal.sum-forced-requires-clause-fits
sum-forced-requires-clause-fits c =
    fits_from_length _ _ 1024 _ (items_few c.args.self.now.drawing.runs.now 1024 (cc) (omega arith)) c.map-2.ensures.closure (omega arith) (λ x r q k. search (rules, tests))

pub overflow_add-crossing : goal.overflow_add-crossing
overflow_add-crossing c =
    let crossed = sum_below_top c.sum-crossing.result 1024 4398046510081 _ (c.sum-crossing.ensures.runs tt)
    (items_few c.args.self.now.drawing.runs.now 1024 (cc) (omega arith)) c.map.ensures.closure (omega arith) (λ x r q k. search (rules, tests)) in
    record { fits = omega (arith, crossed, c.throttled.ensures.bound) }

pub difference-requires : goal.difference-requires
difference-requires c =
    let crossed = sum_below_top c.sum-crossing.result 1024 4398046510081 _ (c.sum-crossing.ensures.runs tt)
    (items_few c.args.self.now.drawing.runs.now 1024 (cc) (omega arith)) c.map.ensures.closure (omega arith) (λ x r q k. search (rules, tests)) in
    let deducted = sum_below_top c.sum-forced.result 1024 4398046510081 _ (c.sum-forced.ensures.runs tt)
    (items_few c.args.self.now.drawing.runs.now 1024 (cc) (omega arith)) c.map-2.ensures.closure (omega arith) (λ x r q k. search (rules, tests)) in
    (omega (arith, crossed, c.throttled.ensures.bound), omega (arith, deducted))

pub returns : goal.returns
returns c =
    let d = drawn c.args.self.now.drawing.points.now c.args.self.now.drawing.runs.now in
    let ls = c.args.self.now.labels.now in
    let fits : SFits w64 c.difference.result = search rules in
    let crossed : c.sum-crossing.result ≡ sum_by (run_adds ls) d.runs = search (rules, returning) in
    let deducted : c.sum-forced.result ≡ sum_by (run_deducts ls) d.runs = search (rules, returning) in
    to_z-of_z w64 c.difference.result fits ∙ c.difference.ensures
    ∙ ap₂ (λ x y. pos x -ℤ pos y) (ap₂ ◌+◌ (crossed ∙ sym (sum_items no_run d.runs (run_adds ls))) c.throttled.ensures.value) (deducted ∙ sym (sum_items no_run d.runs (run_deducts ls)))
