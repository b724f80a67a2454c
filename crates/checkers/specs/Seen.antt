-- The drawing that was admitted.
use Rattle.drawing.specs.Drawings.{Network}
use Rattle.checkers.specs.declared.admitted.Admitted.{Admitted}
use Rattle.checkers.specs.Told.{drawn}

abbrev pub seen : Admitted → Network
seen a = drawn a.points.now a.runs.now
