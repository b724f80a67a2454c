-- What the layer reads of a drawing by its points alone or by its runs alone, and of a plan by its flows alone.
use Rattle.std.specs.Prelude.{List, [], ℤ}
use Rattle.drawing.specs.declared.Point.{Point}
use Rattle.drawing.specs.declared.Run.{Run}
use Rattle.drawing.specs.Drawings.{Network}
use Rattle.drawing.specs.Plans.{Plan}

abbrev pub points_only : List Point → Network
points_only ps = record { points = ps; runs = [] }

abbrev pub runs_only : List Run → Network
runs_only rs = record { points = []; runs = rs }

abbrev pub flows_only : List ℤ → Plan
flows_only fs = record { flows = fs; supplies = []; deliveries = [] }
