-- Which drawings a layer is given.
use Rattle.drawing.specs.declared.Statements.{Statements}
use Rattle.drawing.specs.Drawings.{Network}
use Rattle.drawing.specs.Solvers.{Modest, Carried}

-- a layer that states s over a solver of modest numbers carries the drawing
abbrev pub Taken : (Statements → Statements) → Network → Type 0
Taken s d = (b : Statements) × Modest b × Carried (s b) d
