use Rattle.rig_lines.proofs.Shaping.{two_parts_lem, not_two}
use Rattle.rig_lines.proofs.lines.two.Goals as goal

pub returns-then-not-ends_at : goal.returns-then-not-ends_at
returns-then-not-ends_at c =
    not_two c.args.line.at c.args.line.bytes.now c.next_at-a.ensures.value c.next_at-b.ensures.value c.if-not-ends_at.ensures

pub returns : goal.returns
returns c =
    two_parts_lem c.args.line.at c.args.line.bytes.now c.next_at-a.ensures.value c.next_at-b.ensures.value c.if-not-ends_at.ensures
    c.field_at.ensures c.field_at-2.ensures
