use Rattle.std.proofs.Common.{ℕ, ◌&&◌, ◌||◌, eqb, vec_items, sym, ◌∙◌, rules, arith}
use Rattle.std.proofs.lemmas.Iterator.{YieldsList-from_slice, YieldsList-from_map}
use Rattle.std.proofs.lemmas.Iterator.Consumers.{sum_by_from_yields_List, fits_by_from_yields_list}
use Rattle.drawing.specs.declared.Run.{Run}
use Rattle.drawing.specs.Counts.{only}
use Rattle.drawing.specs.Drawings.{no_run, run_count, run, is_link}
use Rattle.drawing.specs.Records.{network}
use Rattle.drawing.proofs.Lists.{sum_items}
use Rattle.drawing.proofs.Sums.{only_le, sum_same}
use Rattle.reductions.proofs.Listed.{sum_fits}
use Rattle.reductions.proofs.Terminals.{entering_once}
use Rattle.terminals.proofs.network.uppers_entering.Goals as goal

pub sum-requires-clause-fits : goal.sum-requires-clause-fits
sum-requires-clause-fits c =
    let rs = vec_items c.args.drawing.now.runs in
    let v = c.args.v in
    let h : Run → ℕ = λ r. only (eqb r.head v || (is_link r.kind && eqb r.tail v)) r.upper in
    fits_by_from_yields_list h rs _ _ (YieldsList-from_map _ h (YieldsList-from_slice rs (cc)) c.map.ensures.closure (λ x r q k. search rules))
    (sum_fits h (λ r. r.upper) rs (λ r. only_le _ r.upper) (omega (arith, c.requires.few)))

pub returns : goal.returns
returns c =
    let d = network c.args.drawing.now in
    let rs = d.runs in
    let v = c.args.v in
    let h : Run → ℕ = λ r. only (eqb r.head v || (is_link r.kind && eqb r.tail v)) r.upper in
    sum_by_from_yields_List h rs _ _ c.sum.ensures.ran (YieldsList-from_map _ h (YieldsList-from_slice rs (cc)) c.map.ensures.closure (λ x r q k. search rules))
    ∙ sym (sum_items no_run rs h)
    ∙ sum_same (run_count d) _ _ (λ k w. entering_once (run d k) v (c.requires.lawful.each_run k w))
