-- Points by their mark.
use Rattle.std.specs.Prelude.{ℕ, zero, suc, Bool, not, ◌||◌, Option, None, Some}
use Rattle.drawing.specs.declared.Mark.{Mark}
use Rattle.drawing.specs.declared.Mark.TheVariants.{Plain, Rack, Bar}
use Rattle.drawing.specs.Drawings.{is_rack, is_bar}

-- whether a point's mark is the wanted one
abbrev pub is_marked : (wanted mark : Mark) → Bool
is_marked Plain m = not (is_rack m || is_bar m)
is_marked Rack m = is_rack m
is_marked Bar m = is_bar m

-- points are numbered from 1, and 0 says that there is none
abbrev pub numbered : ℕ → Option ℕ
numbered zero = None
numbered (suc v) = Some (suc v)
