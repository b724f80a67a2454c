-- What a layer adds to the runs of a drawing.
use Rattle.std.specs.Prelude.{ℕ, Bool, List, map, filter}
use Rattle.std.specs.List.{range_with_len}
use Rattle.drawing.specs.declared.Run.{Run}

-- a run for each of 1 .. n that passes the test, in their order
abbrev pub added : ℕ → (ℕ → Bool) → (ℕ → Run) → List Run
added n t make = map make (filter t (range_with_len 1 n))
