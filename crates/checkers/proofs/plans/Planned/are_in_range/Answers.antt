use Rattle.std.proofs.Common.{pos, sym, ◌∙◌, rules}
use Rattle.std.proofs.lemmas.Iterator.{YieldsList-from_slice, YieldsList-from_zip}
use Rattle.std.proofs.lemmas.Iterator.Search.{all_from_yields_List}
use borrow.Author.Tests.{tests}
use Rattle.drawing.specs.Drawings.{no_run}
use Rattle.drawing.specs.Tests.{is_in_range}
use Rattle.drawing.proofs.Lists.{every_pairs}
use Rattle.checkers.proofs.Shapes.{shape}
use Rattle.checkers.proofs.plans.Planned.are_in_range.Goals as goal

pub returns : goal.returns
returns c =
    let runs = c.args.self.now.drawing.runs.now in
    let flows = c.args.self.now.flows.now in
    all_from_yields_List (λ x. is_in_range x.0.kind x.0.lower x.0.upper x.1) c.all.new.self _ c.all.result c.all.ensures.ran
    (YieldsList-from_zip {s = c.zip.result} (YieldsList-from_slice {s = c.zip.result.a} runs (cc)) (YieldsList-from_slice {s = c.zip.result.b} flows (cc))) (λ x b q k. search (rules, tests))
    ∙ sym (every_pairs no_run (pos 0) runs flows (shape _ _ c.args.self.now.shaped).flows (λ x. is_in_range x.0.kind x.0.lower x.0.upper x.1))
