use Rattle.std.proofs.Common.{[], map, rules, arith}
use Rattle.std.proofs.lemmas.Iterator.{YieldsList-from_slice, YieldsList-from_map}
use Rattle.std.proofs.lemmas.List.{length-map}
use Rattle.reductions.specs.Terminals.{unmarked}
use Rattle.reductions.proofs.Steps.{two_more}
use Rattle.scratch.proofs.Writing.{written}
use Rattle.scratch.proofs.points.push_points.Goals as goal

pub returns-clause-items : goal.returns-clause-items
returns-clause-items c =
    let ps = c.args.points.now in
    let gives = YieldsList-from_map _ unmarked (YieldsList-from_slice ps (cc)) (cc) (λ x r q k. search rules) in
    let e = written _ _ [] _ c.push_within.ensures.runs gives c.clear.ensures.items (omega (arith, length-map ps unmarked, c.requires)) in
    two_more _ _ _ (map unmarked ps) _ _ e c.push_reserved.ensures.items c.push_reserved-2.ensures.items
