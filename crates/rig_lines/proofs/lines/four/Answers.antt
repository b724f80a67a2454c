use Rattle.rig_lines.proofs.Shaping.{four_parts_lem, not_four}
use Rattle.rig_lines.proofs.lines.four.Goals as goal

pub returns-then-not-ends_at : goal.returns-then-not-ends_at
returns-then-not-ends_at c =
    not_four c.args.line.at c.args.line.bytes.now c.next_at-a.ensures.value c.next_at-b.ensures.value c.next_at-c.ensures.value c.next_at-d.ensures.value c.if-not-ends_at.ensures

pub returns : goal.returns
returns c =
    four_parts_lem c.args.line.at c.args.line.bytes.now c.next_at-a.ensures.value c.next_at-b.ensures.value c.next_at-c.ensures.value c.next_at-d.ensures.value c.if-not-ends_at.ensures
    c.field_at.ensures c.field_at-2.ensures c.field_at-3.ensures c.field_at-4.ensures
