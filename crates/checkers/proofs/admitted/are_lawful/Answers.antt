use Rattle.std.proofs.Common.{sym, ◌∙◌, rules}
use Rattle.std.proofs.lemmas.Iterator.{YieldsList-from_slice}
use Rattle.std.proofs.lemmas.Iterator.Search.{all_from_yields_List}
use borrow.Author.Tests.{tests}
use Rattle.drawing.specs.Drawings.{no_run, is_lawful_run}
use Rattle.drawing.proofs.Lists.{every_items}
use Rattle.checkers.proofs.admitted.are_lawful.Goals as goal

pub returns : goal.returns
returns c =
    all_from_yields_List (is_lawful_run c.args.n) _ _ c.all.result c.all.ensures.ran (YieldsList-from_slice c.args.runs.now (cc)) (λ x b q k. search (rules, tests))
    ∙ sym (every_items no_run c.args.runs.now (is_lawful_run c.args.n))
