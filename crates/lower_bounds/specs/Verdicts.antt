-- How the answer to the first network is read: whether it shows a shortage, and then which.
use Rattle.std.specs.Prelude.{Bool, true, nat_lt}
use Rattle.drawing.specs.Drawings.{Network}
use Rattle.drawing.specs.Answers.{Answer, Planned, Short}
use Rattle.reductions.specs.LowerBounds.{all_lowers, short_labels}

abbrev pub shows_shortage : Network → Answer → Bool
shows_shortage d (Planned p t ls) = nat_lt t (all_lowers d)
shows_shortage d (Short ls) = true

abbrev pub shortage_shown : Network → Answer → Answer
shortage_shown d (Planned p t ls) = Short (short_labels d ls)
shortage_shown d (Short ls) = Short ls
