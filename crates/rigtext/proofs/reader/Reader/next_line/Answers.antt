use Rattle.std.proofs.Common.{◌≡◌, [], Err, sym, ap, ◌∙◌, arith}
use Rattle.rig_lines.specs.Shapes.{shape_of}
use Rattle.reading.specs.Reading.{fault, finished}
use Rattle.rigtext.specs.States.{State, state, line_from, line_taken, faulted}
use Rattle.rigtext.proofs.Starting.{lines_left_lem, none_left}
use Rattle.rigtext.proofs.Turning.{shown_of_lem, left_of_lem, line_shown_lem, line_left, unmoved, end_place}
use Rattle.rigtext.proofs.reader.Reader.next_line.Goals as goal

pub returns-then-self : goal.returns-then-self
returns-then-self c =
    let r = c.args.self.now in
    let s = state r in
    let none = none_left s.text s.line r.place r.begins (omega arith) in
    record {
      shown = c.at_end.ensures ∙ sym (shown_of_lem s (omega arith) [] none);
      held = sym (left_of_lem s (omega arith) [] none);
      place = r.begins ∙ end_place s (finished s.progress) c.at_end.result c.at_end.ensures;
    }

pub returns-in-Ok : goal.returns-in-Ok
returns-in-Ok c =
    let r = c.args.self.now in
    let s = state r in
    let more = lines_left_lem s.text s.line r.place r.begins (omega arith) in
    record {
      shown = ap (faulted s.line) c.in-Ok.ensures.shown ∙ line_shown_lem s (omega arith) _ _ more r.place r.begins;
      held = c.in-Ok.ensures.held ∙ line_left s (omega arith) _ _ more r.place r.begins;
      place = c.take_line.new.self.begins;
    }

pub returns-in-Err : goal.returns-in-Err
returns-in-Err c =
    let r = c.args.self.now in
    let s = state r in
    let l = line_from s.text r.place in
    let e = c.in-Err.refusal in
    let more = lines_left_lem s.text s.line r.place r.begins (omega arith) in
    let same : state c.take_line.new.self ≡ s = c.in-Err.ensures.held ∙ unmoved s (line_taken s.progress l) (shape_of r.place l) e c.in-Err.ensures.shown in
    record {
      shown = ap (λ (x : State). Err (fault e x.line)) same ∙ ap (faulted s.line) c.in-Err.ensures.shown ∙ line_shown_lem s (omega arith) _ _ more r.place r.begins;
      held = c.in-Err.ensures.held ∙ line_left s (omega arith) _ _ more r.place r.begins;
      place = c.take_line.new.self.begins;
    }
