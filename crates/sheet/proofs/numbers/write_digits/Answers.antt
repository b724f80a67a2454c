use Rattle.std.proofs.Common.{arith}
use Rattle.sheet.proofs.Digits.{none_yet, room, one_more, all_digits, all_columns}
use Rattle.sheet.proofs.numbers.write_digits.Goals as goal

pub loop-rest-init : goal.loop-rest-init
loop-rest-init c = (omega arith, omega arith, none_yet c.args.n c.args.cols.now c.requires.eight)

pub overflow_sub-at : goal.overflow_sub-at
overflow_sub-at c = room _ _ _ _ (omega arith) c.requires.narrow (omega arith) c.loop-rest.invariant.0 c.loop-rest.invariant.2 (omega arith)

pub loop-rest-preserved : goal.loop-rest-preserved
loop-rest-preserved c = (omega arith, omega arith, one_more _ _ _ _ (omega arith) c.requires.narrow (omega arith) c.loop-rest.invariant.0 c.loop-rest.invariant.2 (omega arith))

pub returns : goal.returns
returns c = record {
  within = all_columns _ _ _ _ (omega arith) c.requires.narrow (omega arith) c.loop-rest.invariant.0 c.loop-rest.invariant.2 (omega arith);
  digits = all_digits _ _ _ _ (omega arith) c.requires.narrow (omega arith) c.loop-rest.invariant.0 c.loop-rest.invariant.2 (omega arith);
}
