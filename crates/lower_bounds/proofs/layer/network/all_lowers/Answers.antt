use Rattle.std.proofs.Common.{ℕ, sym, ◌∙◌, rules, arith}
use Rattle.std.proofs.lemmas.Iterator.{YieldsList-from_slice, YieldsList-from_map}
use Rattle.std.proofs.lemmas.Iterator.Consumers.{sum_by_from_yields_List, fits_by_from_yields_list}
use Rattle.drawing.specs.declared.Run.{Run}
use Rattle.drawing.specs.Drawings.{no_run}
use Rattle.drawing.proofs.Lists.{sum_items}
use Rattle.reductions.proofs.Listed.{sum_fits}
use Rattle.lower_bounds.proofs.layer.network.all_lowers.Goals as goal

pub sum-requires-clause-fits : goal.sum-requires-clause-fits
sum-requires-clause-fits c =
    let rs = c.args.runs.now in
    let h : Run → ℕ = λ r. r.lower in
    fits_by_from_yields_list h rs _ _ (YieldsList-from_map _ h (YieldsList-from_slice rs (cc)) c.map.ensures.closure (λ x r q k. search rules))
    (sum_fits h (λ r. r.lower) rs (λ r. omega arith) c.requires)

pub returns : goal.returns
returns c =
    let rs = c.args.runs.now in
    let h : Run → ℕ = λ r. r.lower in
    sum_by_from_yields_List h rs _ _ c.sum.ensures.ran (YieldsList-from_map _ h (YieldsList-from_slice rs (cc)) c.map.ensures.closure (λ x r q k. search rules))
    ∙ sym (sum_items no_run rs h)
