use Rattle.std.proofs.Common.{not, ◌&&◌, eqb, is_some, nat_lt, sym, ap, ◌∙◌, ap₂, rules}
use Rattle.std.proofs.lemmas.Iterator.{YieldsList-from_slice}
use Rattle.std.proofs.lemmas.Iterator.Search.{any_from_yields_List}
use borrow.Author.Tests.{tests}
use Rattle.drawing.specs.Drawings.{no_point, no_run, is_link, uses}
use Rattle.checkers.specs.Told.{drawn}
use Rattle.drawing.proofs.Lists.{some_items}
use Rattle.checkers.proofs.admitted.Admitted.uses.Goals as goal

pub returns-in-LowerBounds : goal.returns-in-LowerBounds
returns-in-LowerBounds c =
    let d = drawn c.args.self.now.points.now c.args.self.now.runs.now in
    any_from_yields_List (λ r. not (is_link r.kind) && nat_lt 0 r.lower) _ _ c.any.result c.any.ensures.ran (YieldsList-from_slice d.runs (cc)) (λ x b q k. search (rules, tests))
    ∙ sym (some_items no_run d.runs (λ r. not (is_link r.kind) && nat_lt 0 r.lower)) ∙ ap (uses d) (sym c.in-LowerBounds.is)

pub returns-in-Links : goal.returns-in-Links
returns-in-Links c =
    let d = drawn c.args.self.now.points.now c.args.self.now.runs.now in
    any_from_yields_List (λ r. is_link r.kind) _ _ c.any-in-Links.result c.any-in-Links.ensures.ran (YieldsList-from_slice d.runs (cc)) (λ x b q k. search (rules, tests))
    ∙ sym (some_items no_run d.runs (λ r. is_link r.kind)) ∙ ap (uses d) (sym c.in-Links.is)

pub returns-in-Limits : goal.returns-in-Limits
returns-in-Limits c =
    let d = drawn c.args.self.now.points.now c.args.self.now.runs.now in
    any_from_yields_List (λ p. is_some p.limit) _ _ c.any-in-Limits.result c.any-in-Limits.ensures.ran (YieldsList-from_slice d.points (cc)) (λ x b q k. search (rules, tests))
    ∙ sym (some_items no_point d.points (λ p. is_some p.limit)) ∙ ap (uses d) (sym c.in-Limits.is)
