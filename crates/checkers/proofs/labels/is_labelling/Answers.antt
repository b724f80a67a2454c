use Rattle.std.proofs.Common.{not, ◌||◌, is_some, sym, ◌∙◌}
use Rattle.std.proofs.lemmas.Bool.{eq-eqb}
use Rattle.drawing.specs.declared.Label.TheVariants.{Near}
use Rattle.drawing.specs.Drawings.{no_point}
use Rattle.drawing.specs.Labels.{is_tight}
use Rattle.drawing.proofs.Lists.{every_pairs}
use Rattle.checkers.proofs.labels.is_labelling.Goals as goal

pub returns-then-labels-d : goal.returns-then-labels-d
returns-then-labels-d c =
    rw (eq-eqb _ _ c.if-labels-d.true)
    (c.are_allowed.ensures ∙ sym (every_pairs no_point Near c.args.d.points.now c.args.labels.now c.if-labels-d.true (λ x. not (is_tight x.1) || is_some x.0.limit)))
