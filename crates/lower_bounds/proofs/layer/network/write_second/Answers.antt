use Rattle.std.proofs.Common.{◌+◌, ◌-◌, ◌≤◌, [], ◌++◌, map, length, ℤ, pos, vec_items, vec_capacity, sym, ◌∙◌, ap₂, rules, arith, length-append}
use Rattle.std.specs.List.{zip}
use Rattle.std.proofs.lemmas.Iterator.{YieldsList-from_slice, YieldsList-from_map, YieldsList-from_zip}
use Rattle.std.proofs.lemmas.Iterator.Consumers.{YieldsList-from_chain}
use Rattle.std.proofs.lemmas.List.{length-map}
use Rattle.drawing.specs.declared.Kind.TheVariants.{Lead}
use Rattle.drawing.specs.declared.Run.{Run}
use Rattle.drawing.specs.Drawings.{Network, no_run}
use Rattle.drawing.specs.Plans.{forth}
use Rattle.drawing.specs.Records.{network}
use Rattle.reductions.proofs.Listed.{made_pairs, length_pairs}
use Rattle.scratch.proofs.Filing.{copied}
use Rattle.scratch.proofs.Writing.{written}
use Rattle.lower_bounds.proofs.layer.network.write_second.Goals as goal

pub returns : goal.returns
returns c =
    let d = network c.args.drawing.now in
    let rs = d.runs in
    let fs = vec_items c.args.first.now.flows in
    let long : length rs ≤ length fs = omega (arith, c.requires.long, c.args.drawing.now.runs.ok.0, c.args.first.now.flows.ok.0) in
    let ahead : Run × ℤ → Run = λ x. record { kind = Lead; tail = x.0.tail; head = x.0.head; lower = 0; upper = x.0.upper - (x.0.lower + forth x.1) } in
    let back : Run × ℤ → Run = λ x. record { kind = Lead; tail = x.0.head; head = x.0.tail; lower = 0; upper = (x.0.lower + forth x.1) - x.0.lower } in
    let pairs = length_pairs no_run (pos 0) rs fs long in
    let runs = written _ _ [] _ c.push_within.ensures.runs
    (YieldsList-from_chain
    (YieldsList-from_map _ ahead (YieldsList-from_zip (YieldsList-from_slice rs (cc)) (YieldsList-from_slice fs (cc))) (cc) (λ x r q k. search rules))
    (YieldsList-from_map _ back (YieldsList-from_zip (YieldsList-from_slice rs (cc)) (YieldsList-from_slice fs (cc))) (cc) (λ x r q k. search rules))
    (cc) (cc))
    c.clear.ensures.items
    (omega (arith, length-append (map ahead (zip rs fs)) (map back (zip rs fs)), length-map (zip rs fs) ahead, length-map (zip rs fs) back, pairs, c.requires.runs, c.args.drawing.now.runs.ok.0, c.args.out.now.room)) in
    ap₂ (λ p r. let n : Network = record { points = p; runs = r } in n)
    (copied _ _ d.points (vec_capacity c.args.out.now.drawing.points) c.copy_into.ensures.items c.deref.ensures.value (omega (arith, c.args.drawing.now.points.ok.0, c.args.out.now.room)))
    (runs ∙ ap₂ ◌++◌ (sym (made_pairs no_run (pos 0) rs fs long ahead)) (sym (made_pairs no_run (pos 0) rs fs long back)))
