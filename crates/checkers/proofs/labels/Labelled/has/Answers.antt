use Rattle.std.proofs.Common.{◌&&◌, sym, ◌∙◌, rules}
use Rattle.std.proofs.lemmas.Iterator.{YieldsList-from_slice, YieldsList-from_zip}
use Rattle.std.proofs.lemmas.Iterator.Search.{any_from_yields_List}
use borrow.Author.Tests.{tests}
use Rattle.drawing.specs.declared.Label.TheVariants.{Near}
use Rattle.drawing.specs.Drawings.{no_point}
use Rattle.drawing.proofs.Deciding.{decides_labelling}
use Rattle.drawing.proofs.Lists.{some_pairs}
use Rattle.checkers.specs.Told.{drawn, has_mark, has_label}
use Rattle.checkers.proofs.labels.Labelled.has.Goals as goal

pub returns : goal.returns
returns c =
    let points = c.args.self.now.drawing.points.now in
    let labels = c.args.self.now.labels.now in
    let d = drawn points c.args.self.now.drawing.runs.now in
    any_from_yields_List (λ x. has_mark c.args.mark x.0.mark && has_label c.args.label x.1) c.any.new.self _ c.any.result c.any.ensures.ran
    (YieldsList-from_zip {s = c.zip.result} (YieldsList-from_slice {s = c.zip.result.a} points (cc)) (YieldsList-from_slice {s = c.zip.result.b} labels (cc))) (λ x b q k. search (rules, tests))
    ∙ sym (some_pairs no_point Near points labels ((decides_labelling d labels).0 c.args.self.now.labelling).label_count (λ x. has_mark c.args.mark x.0.mark && has_label c.args.label x.1))
