-- The sum of the supplies over the points of a drawing.
use Rattle.std.proofs.Common.{ℕ}
use Rattle.drawing.specs.Counts.{sum_to}
use Rattle.drawing.specs.Drawings.{Network, point_count}
use Rattle.drawing.specs.Plans.{Plan, supply}

-- of a feasible plan it is the total
abbrev pub supplied : Network → Plan → ℕ
supplied d p = sum_to (point_count d) (supply p)
