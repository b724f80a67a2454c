use Rattle.rig_lines.proofs.Shaping.{three_parts_lem, not_three}
use Rattle.rig_lines.proofs.lines.three.Goals as goal

pub returns-then-not-ends-at : goal.returns-then-not-ends-at
returns-then-not-ends-at c =
    not_three c.args.line.at c.args.line.bytes.now c.next-at-a.ensures.value c.next-at-b.ensures.value c.next-at-c.ensures.value c.if-not-ends-at.ensures

pub returns : goal.returns
returns c =
    three_parts_lem c.args.line.at c.args.line.bytes.now c.next-at-a.ensures.value c.next-at-b.ensures.value c.next-at-c.ensures.value c.if-not-ends-at.ensures
    c.field-at.ensures c.field-at-2.ensures c.field-at-3.ensures
