use Rattle.std.proofs.Common.{Ok, rules}
use Rattle.reading.proofs.Cutting.{lines_exactly}
use Rattle.reading.proofs.Texts.{reads_exactly, read_bounded}
use Rattle.rigtext.proofs.Finishing.{tells_by}
use Rattle.rigtext.proofs.reader.whole.read.Goals as goal

pub returns-in_err-reader-clause-lines : goal.returns-in_err-reader-clause-lines
returns-in_err-reader-clause-lines c = lines_exactly

pub returns-in_err-reader-clause-exactly : goal.returns-in_err-reader-clause-exactly
returns-in_err-reader-clause-exactly c = reads_exactly

pub returns-in_err-reader-clause-bounds : goal.returns-in_err-reader-clause-bounds
returns-in_err-reader-clause-bounds c = read_bounded

pub returns-in_err-told-clause-lines : goal.returns-in_err-told-clause-lines
returns-in_err-told-clause-lines c = lines_exactly

pub returns-in_err-told-clause-exactly : goal.returns-in_err-told-clause-exactly
returns-in_err-told-clause-exactly c = reads_exactly

pub returns-in_err-told-clause-bounds : goal.returns-in_err-told-clause-bounds
returns-in_err-told-clause-bounds c = read_bounded

pub returns-clause-lines : goal.returns-clause-lines
returns-clause-lines c = lines_exactly

pub returns-clause-exactly : goal.returns-clause-exactly
returns-clause-exactly c = reads_exactly

pub returns-clause-bounds : goal.returns-clause-bounds
returns-clause-bounds c = read_bounded

pub returns-in_err-told-clause-tells : goal.returns-in_err-told-clause-tells
returns-in_err-told-clause-tells c = tells_by _ _ (search rules)

pub returns-clause-tells : goal.returns-clause-tells
returns-clause-tells c = tells_by c.args.text.now (Ok c.into_rig.result) (search rules)
