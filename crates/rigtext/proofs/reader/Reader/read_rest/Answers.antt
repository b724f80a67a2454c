use Rattle.std.proofs.Common.{◌≡◌, ◌<◌, length, Ok, sym, ap, ◌∙◌, subst}
use Rattle.std.proofs.lemmas.Result.{err_from_is_err_and}
use Rattle.rig_lines.specs.Shapes.{shape, shapes}
use Rattle.reading.specs.Lines.{start_of}
use Rattle.reading.specs.Reading.{finished}
use Rattle.rigtext.specs.States.{State, state, lines_left}
use Rattle.rigtext.specs.Reads.{rest_read, rig_in}
use Rattle.rigtext.proofs.Finishing.{Onward, text_stays, fault_read, line_read_lem, end_read, end_reached, whole_rig}
use Rattle.rigtext.proofs.reader.Reader.read_rest.Goals as goal

-- an accepted line
onward : (c : goal.In-Some) → Onward (state c.loop.self)
onward c =
    let shown = ap (λ o. Ok (shapes o)) (sym c.in-Some.is) ∙ c.in_ok-next_line.ensures.shown in
    line_read_lem (state c.loop.self) (shape c.in-Some.field-0) c.loop.self.numbered shown

pub loop-smaller : goal.loop-smaller
loop-smaller c =
    subst (λ z. length (lines_left z) < length (lines_left (state c.loop.self))) (sym c.in_ok-next_line.ensures.held) (onward c).fewer

pub loop-preserved : goal.loop-preserved
loop-preserved c =
    let held = c.in_ok-next_line.ensures.held in
    (ap (λ (z : State). z.text) held ∙ text_stays (state c.loop.self) ∙ c.loop.invariant.0, ap rest_read held ∙ (onward c).read ∙ c.loop.invariant.1)

pub returns-in_err-next_line : goal.returns-in_err-next_line
returns-in_err-next_line c =
    let s = state c.loop.self in
    let told = c.in_err-next_line.ensures in
    let f = c.in_err-next_line.field-0.0 in
    let text = ap (λ (z : State). z.text) told.held ∙ text_stays s ∙ c.loop.invariant.0 in
    let p = err_from_is_err_and c.from_residual.result c.from_residual.ensures.1 in
    rw (p.1, p.2) (record { means = sym c.loop.invariant.1 ∙ fault_read s f told.shown; place = told.place ∙ ap (λ t. start_of t f.line) text })

pub returns : goal.returns
returns c =
    let r = c.loop.self in
    let last = c.next_line.new.self in
    let told = c.in_ok-next_line.ensures in
    let end = end_read (state r) (ap (λ o. Ok (shapes o)) (sym c.in_default.is) ∙ told.shown) in
    let same : state last ≡ state r = told.held ∙ end.same in
    let rig : rig_in last ≡ end.rig = whole_rig last.draft.head (rig_in last) end.rig (ap (λ (z : State). finished z.progress) same ∙ end.whole) in
    let here : last.place ≡ length last.text.now = end_reached last.text.now last.line last.place last.begins (ap lines_left same ∙ end.none) in
    record {
      means = sym c.loop.invariant.1 ∙ end.read ∙ ap Ok (sym rig);
      place = here ∙ ap (λ (z : State). length z.text) same ∙ ap length c.loop.invariant.0;
    }
