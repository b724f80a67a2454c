use Rattle.std.proofs.Common.{◌≡◌, pos, sym, ◌∙◌, ap₂, rules, arith}
use Rattle.std.specs.List.{zip}
use Rattle.std.proofs.lemmas.Iterator.{YieldsList-from_slice, YieldsList-from_zip, YieldsList-from_map}
use Rattle.std.proofs.lemmas.Iterator.Adapters.{fits_from_length}
use Rattle.std.proofs.lemmas.Iterator.Consumers.{sum_by_from_yields_List}
use borrow.Author.Tests.{tests}
use Rattle.drawing.specs.Drawings.{no_run}
use Rattle.drawing.specs.Plans.{plan_of, brings, takes, entering, leaving}
use Rattle.drawing.proofs.Lists.{sum_pairs}
use Rattle.checkers.specs.Told.{drawn, kept_at}
use Rattle.checkers.proofs.Bounds.{sum_below_top, pairs_few}
use Rattle.checkers.proofs.Shapes.{shape}
use Rattle.checkers.proofs.plans.Planned.is_kept.Goals as goal

pub sum-entering-requires-clause-fits : goal.sum-entering-requires-clause-fits
sum-entering-requires-clause-fits c =
    let runs = c.args.self.now.drawing.runs.now in
    let flows = c.args.self.now.flows.now in
    fits_from_length _ _ 1024 _
    (pairs_few {s = c.map.result.iter} runs flows 1024 (cc) (cc) (omega arith))
    c.map.ensures.closure (omega arith) (λ x r q k. search (rules, tests))

pub sum-leaving-requires-clause-fits : goal.sum-leaving-requires-clause-fits
sum-leaving-requires-clause-fits c =
    let runs = c.args.self.now.drawing.runs.now in
    let flows = c.args.self.now.flows.now in
    fits_from_length _ _ 1024 _
    (pairs_few {s = c.map-2.result.iter} runs flows 1024 (cc) (cc) (omega arith))
    c.map-2.ensures.closure (omega arith) (λ x r q k. search (rules, tests))

pub is_kept-requires : goal.is_kept-requires
is_kept-requires c =
    let runs = c.args.self.now.drawing.runs.now in
    let flows = c.args.self.now.flows.now in
    let entered = sum_below_top c.sum-entering.result 1024 8796093020161 _ (c.sum-entering.ensures.runs tt)
    (pairs_few {s = c.map.result.iter} runs flows 1024 (cc) (cc) (omega arith))
    c.map.ensures.closure (omega arith) (λ x r q k. search (rules, tests)) in
    let left = sum_below_top c.sum-leaving.result 1024 8796093020161 _ (c.sum-leaving.ensures.runs tt)
    (pairs_few {s = c.map-2.result.iter} runs flows 1024 (cc) (cc) (omega arith))
    c.map-2.ensures.closure (omega arith) (λ x r q k. search (rules, tests)) in
    (omega (arith, entered), omega (arith, left))

pub returns : goal.returns
returns c =
    let runs = c.args.self.now.drawing.runs.now in
    let flows = c.args.self.now.flows.now in
    let d = drawn c.args.self.now.drawing.points.now runs in
    let p = plan_of flows c.args.self.now.supplies.now c.args.self.now.deliveries.now in
    let v = c.args.v in
    let same = (shape d p c.args.self.now.shaped).flows in
    let entered : c.sum-entering.result ≡ entering d p v
    = sum_by_from_yields_List (λ x. brings x.0 x.1 v) (zip runs flows) c.map.result c.sum-entering.result c.sum-entering.ensures.ran
    (YieldsList-from_map _ (λ x. brings x.0 x.1 v)
    (YieldsList-from_zip {s = c.map.result.iter} (YieldsList-from_slice {s = c.map.result.iter.a} runs (cc)) (YieldsList-from_slice {s = c.map.result.iter.b} flows (cc)))
    c.map.ensures.closure (λ x r q k. search (rules, tests)))
    ∙ sym (sum_pairs no_run (pos 0) runs flows same (λ x. brings x.0 x.1 v)) in
    let left : c.sum-leaving.result ≡ leaving d p v
    = sum_by_from_yields_List (λ x. takes x.0 x.1 v) (zip runs flows) c.map-2.result c.sum-leaving.result c.sum-leaving.ensures.ran
    (YieldsList-from_map _ (λ x. takes x.0 x.1 v)
    (YieldsList-from_zip {s = c.map-2.result.iter} (YieldsList-from_slice {s = c.map-2.result.iter.a} runs (cc)) (YieldsList-from_slice {s = c.map-2.result.iter.b} flows (cc)))
    c.map-2.ensures.closure (λ x r q k. search (rules, tests)))
    ∙ sym (sum_pairs no_run (pos 0) runs flows same (λ x. takes x.0 x.1 v)) in
    c.is_kept.ensures ∙ ap₂ (kept_at c.args.point c.args.supply c.args.delivery) entered left
