use Rattle.std.proofs.Common.{count_by, ap, ◌∙◌}
use Rattle.drawing.specs.Drawings.{is_rack, is_bar}
use Rattle.drawing.specs.Records.{network}
use Rattle.rig_draft.proofs.Drafting.{role_counted}
use Rattle.rig_draft.proofs.counting.role_count.Goals as goal

pub returns : goal.returns
returns c = role_counted c.args.role (network c.args.rig.now.drawing) c.from.result c.count_marked.result c.from.ensures
    (λ e. c.count_marked.ensures.rack e ∙ ap (count_by (λ p. is_rack p.mark)) c.deref.ensures.value)
    (λ e. c.count_marked.ensures.bar e ∙ ap (count_by (λ p. is_bar p.mark)) c.deref.ensures.value)
