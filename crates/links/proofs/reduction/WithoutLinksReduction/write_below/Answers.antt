use Rattle.std.proofs.Common.{◌+◌, ◌≤◌, Bool, [], ◌++◌, map, filter, length, vec_items, vec_capacity, sym, ap, ◌∙◌, ap₂, rules, arith, length-append}
use Rattle.std.proofs.lemmas.Iterator.{YieldsList-from_slice, YieldsList-from_map}
use Rattle.std.proofs.lemmas.Iterator.Consumers.{YieldsList-from_filter, YieldsList-from_chain}
use Rattle.std.proofs.lemmas.List.{length-map}
use Rattle.std.proofs.lemmas.List.Sums.{length-filter, count_by-le-length}
use Rattle.drawing.specs.declared.Run.{Run}
use Rattle.drawing.specs.Drawings.{Network, no_run, is_link}
use Rattle.reductions.specs.Links.{as_lead, lead_back}
use Rattle.reductions.proofs.Listed.{added_items}
use Rattle.scratch.proofs.Filing.{copied}
use Rattle.scratch.proofs.Writing.{written}
use Rattle.links.proofs.reduction.WithoutLinksReduction.write_below.Goals as goal

pub returns : goal.returns
returns c =
    let (b, m, k) = c.requires in
    let ps = vec_items c.args.drawing.now.points in
    let rs = vec_items c.args.drawing.now.runs in
    let t : Run → Bool = λ r. is_link r.kind in
    let points = copied _ _ ps (vec_capacity c.args.out.now.drawing.points) c.copy_into.ensures.items c.deref.ensures.value (omega (arith, k.admissible.few_points, c.args.out.now.room)) in
    let leads = YieldsList-from_map _ as_lead (YieldsList-from_slice rs (cc)) (cc) (λ x r q k. search rules) in
    let links = YieldsList-from_filter _ t (YieldsList-from_slice rs (cc)) (cc) (λ x b q k. search rules) in
    let backs = YieldsList-from_map _ lead_back links (cc) (λ x r q k. search rules) in
    let few : length rs + length rs ≤ 1024 = omega (arith, k.few_runs, m.runs) in
    let all = length-append (map as_lead rs) (map lead_back (filter t rs)) in
    let runs = written _ _ [] _ c.push_within.ensures.runs (YieldsList-from_chain leads backs (cc) (cc)) c.clear.ensures.items
    (omega (arith, all, length-map rs as_lead, length-map (filter t rs) lead_back, length-filter t rs, count_by-le-length t rs, few, c.args.out.now.room)) in
    ap₂ (λ p r. let n : Network = record { points = p; runs = r } in n) points (runs ∙ ap (λ l. map as_lead rs ++ l) (sym (added_items no_run rs t lead_back)))
