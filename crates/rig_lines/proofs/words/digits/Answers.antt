use Rattle.std.proofs.Common.{◌+◌, ◌*◌, ◌<◌, drop, sym, ap, ◌∙◌, arith}
use Rattle.rig_lines.specs.Numbers.{number_from}
use Rattle.rig_lines.proofs.Reading.{short, longer, more, stops, ends}
use Rattle.rig_lines.proofs.words.digits.Goals as goal

pub returns-then-not-is_ascii_digit : goal.returns-then-not-is_ascii_digit
returns-then-not-is_ascii_digit c =
    stops c.loop-b.value c.loop-b.b-index c.args.word.now c.loop-b-test.true (sym c.if-not-is_ascii_digit.ensures.value) ∙ c.loop-b.invariant.1

pub overflow_mul-value : goal.overflow_mul-value
overflow_mul-value c =
    omega (arith, short c.loop-b.value c.loop-b.b-index _ c.loop-b.invariant.0 c.loop-b-test.true c.requires)

pub overflow_add-value : goal.overflow_add-value
overflow_add-value c =
    omega (arith, short c.loop-b.value c.loop-b.b-index _ c.loop-b.invariant.0 c.loop-b-test.true c.requires, c.if-not-is_ascii_digit.ensures.cases)

pub loop-b-preserved : goal.loop-b-preserved
loop-b-preserved c =
    let d : c.from.result < 10 = omega (arith, c.if-not-is_ascii_digit.ensures.cases) in (
      longer c.loop-b.value c.loop-b.b-index c.from.result c.loop-b.invariant.0 d,
      ap (λ k. number_from (c.loop-b.value * 10 + k) (drop (c.loop-b.b-index + 1) c.args.word.now)) c.from.ensures
          ∙ more c.loop-b.value c.loop-b.b-index c.args.word.now c.loop-b-test.true (sym c.if-not-is_ascii_digit.ensures.value) ∙ c.loop-b.invariant.1,
    )

pub returns : goal.returns
returns c = ends c.loop-b.value c.loop-b.b-index c.args.word.now (omega arith) ∙ c.loop-b.invariant.1
