use Rattle.std.proofs.Common.{sym, ap, ◌∙◌}
use Rattle.rig_drawing.specs.Changes.{held_after, plain_rig}
use Rattle.reading.specs.Reading.{unheaded, headed, head_refusal, begun}
use Rattle.rig_draft.specs.Drafts.{told, left}
use Rattle.rig_draft.proofs.Drafting.{told_answered, left_answered}
use Rattle.rig_draft.proofs.Draft.first.Goals as goal

pub returns-in-Head : goal.returns-in-Head
returns-in-Head c =
    let head = c.in-Head in
    let refusal = head_refusal head.points head.runs in
    let new = headed head.form head.runs (plain_rig head.points) in
    record {
      told = c.begin.ensures.told ∙ told_answered refusal new ∙ ap (λ x. told (begun x)) (sym head.is);
      held = c.begin.ensures.held ∙ ap (held_after refusal new) c.requires ∙ left_answered refusal new unheaded ∙ ap (λ x. left (begun x) unheaded) (sym head.is);
    }
