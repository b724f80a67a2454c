use Rattle.std.proofs.Common.{sym, ap, ◌∙◌, subst}
use Rattle.std.proofs.lemmas.Bool.{cond-true}
use Rattle.std.proofs.lemmas.Result.{err_from_is_err_and}
use Rattle.rig_lines.specs.Shapes.{shape_of}
use Rattle.rig_draft.specs.Drafts.{progress}
use Rattle.rigtext.specs.States.{state, line_from, line_taken}
use Rattle.rigtext.proofs.Starting.{At, at_next}
use Rattle.rigtext.proofs.Stepping.{stands, stays, goes}
use Rattle.rigtext.proofs.reader.Reader.take_line.Goals as goal

pub returns-in_err-line : goal.returns-in_err-line
returns-in_err-line c =
    let s = state c.args.self.now in
    let i = c.args.self.now.place in
    let l = line_from s.text i in
    let p = err_from_is_err_and c.from_residual.result c.from_residual.ensures.1 in
    rw (p.1, p.2) (record { shown = c.in_err-line.ensures.shown; held = stays s (line_taken s.progress l) (shape_of i l) _ _ c.in_err-line.ensures.shown c.in_err-line.ensures.held })

pub invariant_of-self-2 : goal.invariant_of-self-2
invariant_of-self-2 c =
    let r = c.args.self.now in
    let place = c.drop-guard-2.ensures ∙ cond-true _ _ _ c.accept.ensures.accepted ∙ c.accept.ensures.stays.0 ∙ c.min-guard.ensures in
    let next = subst (λ k. At r.text.now k c.drop-guard-2.new.self.0) (sym c.accept.ensures.counted)
    (at_next r.text.now r.line r.place c.line_end-end.result _ (r.numbered, (r.begins, (r.reached, (r.unread, tt)))) c.requires.0 c.requires.1 c.line_end-end.ensures.value place) in
    record { numbered = next.0; begins = next.1.0; reached = next.1.1.0; unread = next.1.1.1.0 }

pub returns : goal.returns
returns c =
    let s = state c.args.self.now in
    let i = c.args.self.now.place in
    let l = line_from s.text i in
    let told = c.in_ok-line.ensures in
    record {
      shown = told.shown;
      held = ap (λ k. stands s k (progress c.taken.new.draft)) c.accept.ensures.counted ∙ goes s (line_taken s.progress l) (shape_of i l) _ _ told.shown told.held;
    }
