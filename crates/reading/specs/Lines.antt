-- The lines of a text, which LF ends.
use Rattle.std.specs.Prelude.{◌≡◌, ℕ, ◌-◌, min, Bool, cond, not, ◌≢◌, ◌⊎◌, ◌↔◌, List, [], ◌∷◌, ◌++◌, length, take, ◌==◌}
use Rattle.std.specs.List.{AllByRecursion}

-- the byte LF
abbrev pub LF : ℕ
LF = 10

-- whether a byte stands in a line
abbrev pub in_line : ℕ → Bool
in_line b = not (b == LF)

-- one more byte at the front of the first line
abbrev pub grown : ℕ → List (List ℕ) → List (List ℕ)
grown b [] = (b ∷ []) ∷ []
grown b (l ∷ ls) = (b ∷ l) ∷ ls

-- the lines without their LF; an LF at the text's end ends the last line and begins no other
unfoldable pub lines_of : List ℕ → List (List ℕ)
lines_of [] = []
lines_of (b ∷ t) = cond (b == LF) ([] ∷ lines_of t) (grown b (lines_of t))

-- the lines, each followed by LF
unfoldable pub ended : List (List ℕ) → List ℕ
ended [] = []
ended (l ∷ ls) = l ++ (LF ∷ ended ls)

-- where line k begins, counted from 1: after the lines before it, each with its LF; the line after the last begins at the text's end (and 0 is told of line 0)
abbrev pub start_of : List ℕ → ℕ → ℕ
start_of t k = min (length t) (length (ended (take (k - 1) (lines_of t))))

-- no byte of the line is LF
abbrev pub Unbroken : List ℕ → Type 0
Unbroken l = AllByRecursion (λ b. b ≢ LF) l

-- the text is the lines, each followed by LF; or the last of them is not empty and stands without
abbrev pub Joins : List ℕ → List (List ℕ) → Type 0
Joins t ls = (t ≡ ended ls) ⊎ ((front : List (List ℕ)) × (end : List ℕ) × (ls ≡ front ++ (end ∷ [])) × (t ≡ ended front ++ end) × (end ≢ []))

-- the text is cut into the lines
pub record Cut (t : List ℕ) (ls : List (List ℕ)) : Type 0 where
  pub unbroken : AllByRecursion Unbroken ls
  pub joins : Joins t ls

-- a text's lines are just those that it is cut into
abbrev pub LinesExactly : Type 0
LinesExactly = (t : List ℕ) (ls : List (List ℕ)) → (lines_of t ≡ ls) ↔ Cut t ls
