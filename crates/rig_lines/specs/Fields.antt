-- The fields of a line, which spaces part, by their bytes and their places.
use Rattle.std.specs.Prelude.{ℕ, ◌+◌, ◌-◌, Bool, not, ◌&&◌, List, [], ◌∷◌, length, take, drop, Some, None, Option, ◌==◌, nat_lt}
use Rattle.std.specs.List.{prefix_len}

abbrev pub is_space : ℕ → Bool
is_space b = b == 32

-- whether a byte stands in a field
abbrev pub in_field : ℕ → Bool
in_field b = not (is_space b)

-- the place after the field that begins at a place
abbrev pub past : List ℕ → ℕ → ℕ
past l i = i + prefix_len in_field (drop i l)

-- the place after the spaces at a place
abbrev pub skip : List ℕ → ℕ → ℕ
skip l i = i + prefix_len is_space (drop i l)

-- the place of the field after the one that begins at a place
abbrev pub next : List ℕ → ℕ → ℕ
next l i = skip l (past l i)

-- a part of a text: its bytes, and the place of the first in the whole text
pub record Part : Type 0 where
  pub bytes : List ℕ
  pub at : ℕ

-- the bytes of the field that begins at a place of the line
abbrev pub word_at : List ℕ → ℕ → List ℕ
word_at l i = take (past l i - i) (drop i l)

-- the field itself, of a line that begins at the place start
abbrev pub part_at : ℕ → List ℕ → ℕ → Part
part_at start l i = record { bytes = word_at l i; at = start + i }

-- whether a field begins at the place, and the line ends with it
abbrev pub ends_at : List ℕ → ℕ → Bool
ends_at l i = nat_lt i (length l) && past l i == length l

-- the byte of a word that has just one
abbrev pub lone : List ℕ → Option ℕ
lone [] = None
lone (c ∷ []) = Some c
lone (c ∷ (d ∷ cs)) = None
