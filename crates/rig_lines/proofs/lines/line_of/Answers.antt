use Rattle.std.proofs.Common.{sym, ap, ◌∙◌}
use Rattle.rig_lines.specs.Shapes.{shapes, shape_of, of_kind}
use Rattle.rig_lines.proofs.Shaping.{then_some, then_none, word_of}
use Rattle.rig_lines.proofs.lines.line_of.Goals as goal

pub returns-in_err-kind : goal.returns-in_err-kind
unfolding shape_of
returns-in_err-kind c =
    ap shapes c.from_residual.ensures ∙ sym (then_none _ (sym (c.in_err-kind.ensures ∙ word_of _ _ c.field_at.ensures)))

pub returns : goal.returns
unfolding shape_of
returns c =
    c.of_kind.ensures ∙ sym (then_some (λ k. of_kind k c.args.line.at c.args.line.bytes.now) (sym (c.in_ok-kind.ensures ∙ word_of _ _ c.field_at.ensures)))
