-- A number has one to seven digits and no needless leading zero.
use Rattle.std.specs.Prelude.{ℕ, ◌+◌, ◌-◌, ◌*◌, cond, ◌&&◌, ◌||◌, List, [], ◌∷◌, length, Some, None, Option, ◌==◌, nat_lt, slice_index}
use Rattle.std.specs.Char.{is_ascii_digit}

-- the number that digits write after the number n; none where a byte is no digit
abbrev pub number_from : ℕ → List ℕ → Option ℕ
number_from n [] = Some n
number_from n (c ∷ cs) = cond (is_ascii_digit c) (number_from (n * 10 + (c - 48)) cs) None

abbrev pub number_of : List ℕ → Option ℕ
number_of w =
    cond (length w == 0 || nat_lt 7 (length w)) None
    (cond (nat_lt 1 (length w) && slice_index w 0 == 48) None (number_from 0 w))
