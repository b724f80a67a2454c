use Rattle.std.proofs.Common.{◌≡◌, Some, sym, ap, ◌∙◌}
use Rattle.std.proofs.lemmas.Result.{err_from_is_err_and}
use Rattle.rig_lines.specs.Items.{said_by}
use Rattle.rig_lines.specs.Shapes.{shape, shapes}
use Rattle.reading.specs.Reading.{line_read}
use Rattle.rig_draft.specs.Drafts.{progress, left}
use Rattle.rigtext.specs.States.{line_from}
use Rattle.rigtext.proofs.Stepping.{shape_there, says_nothing, says, done, refused, line_refused, line_unknown, line_accepted, known, unknown}
use Rattle.rigtext.proofs.reader.lines.taken.Goals as goal

pub returns-in_err-line : goal.returns-in_err-line
returns-in_err-line c =
    let t = c.args.text.now in
    let start = c.args.start in
    let u = unknown c.at.result _ c.in_err-line.ensures.value in
    let out = line_unknown (progress c.args.draft.now) start (line_from t start) (says_nothing t start c.args.end c.requires.0 c.requires.1 (sym (ap shapes u.0) ∙ c.at.ensures)) in
    let p = err_from_is_err_and c.from_residual.result c.from_residual.ensures.1 in
    rw (p.1, p.2, u.1) (record { shown = out.shown; held = out.held })

pub returns-in_err-item : goal.returns-in_err-item
returns-in_err-item c =
    let t = c.args.text.now in
    let start = c.args.start in
    let x = shape c.in_ok-line.line in
    let there = sym (ap shapes (known c.at.result _ c.in_ok-line.ensures.value)) ∙ c.at.ensures in
    let u = unknown c.item.result _ c.in_err-item.ensures.value in
    let out = line_unknown (progress c.args.draft.now) start (line_from t start) (says t start c.args.end c.requires.0 c.requires.1 x _ there (sym u.0 ∙ c.item.ensures.said)) in
    let p = err_from_is_err_and c.from_residual-in_err-item.result c.from_residual-in_err-item.ensures.1 in
    rw (p.1, p.2, u.1) (record { shown = out.shown; held = out.held })

pub returns-in_err-take : goal.returns-in_err-take
returns-in_err-take c =
    let t = c.args.text.now in
    let start = c.args.start in
    let was = progress c.args.draft.now in
    let x = shape c.in_ok-line.line in
    let there = sym (ap shapes (known c.at.result _ c.in_ok-line.ensures.value)) ∙ c.at.ensures in
    let said = sym (known c.item.result _ c.in_ok-item.ensures.value) ∙ c.item.ensures.said in
    let item : said_by (line_from t start) ≡ Some c.in_ok-item.item = says t start c.args.end c.requires.0 c.requires.1 x _ there said in
    let out = line_refused was start (line_from t start) c.in_err-take.field-0.0 (ap (line_read was) item ∙ refused _ c.in_err-take.field-0.0 c.in_err-take.ensures.told) in
    let p = err_from_is_err_and c.from_residual-in_err-take.result c.from_residual-in_err-take.ensures.1 in
    rw (p.1, p.2) (record { shown = out.shown; held = c.in_err-take.ensures.held ∙ ap (λ o. left (line_read was o) was) (sym item) })

pub returns : goal.returns
returns c =
    let t = c.args.text.now in
    let start = c.args.start in
    let was = progress c.args.draft.now in
    let x = shape c.in_ok-line.line in
    let there = sym (ap shapes (known c.at.result _ c.in_ok-line.ensures.value)) ∙ c.at.ensures in
    let said = sym (known c.item.result _ c.in_ok-item.ensures.value) ∙ c.item.ensures.said in
    let item : said_by (line_from t start) ≡ Some c.in_ok-item.item = says t start c.args.end c.requires.0 c.requires.1 x _ there said in
    let taken = ap (line_read was) item ∙ done _ was (progress c.take.new.self) c.in_ok-take.ensures.told c.in_ok-take.ensures.held in
    let out = line_accepted was start (line_from t start) _ x taken (shape_there t start c.args.end c.requires.0 c.requires.1 (Some x) there) in
    record { shown = out.shown; held = out.held }
