-- Numbers in columns, and text in an output.
use Rattle.std.specs.Prelude.{ℕ, zero, suc, ◌+◌, ◌-◌, ◌^◌, ◌<◌, ◌≤◌, cond, List, [], ◌++◌, length, take, drop, replicate, ℤ, pos, Ok, Err, Result, nat_le, unsigned_abs}
use Rattle.std.specs.Fmt.{signed_decimal}
use Rattle.drawing.specs.declared.Refusal.{Refusal}
use Rattle.drawing.specs.declared.Refusal.TheVariants.{OutputTooShort}
use Rattle.drawing.specs.Counts.{nth}

-- a whole number right-justified in eight columns
abbrev pub column : ℤ → List ℕ
column z = replicate (8 - length (signed_decimal z)) 32 ++ signed_decimal z

-- it has at most eight characters, a minus among them
abbrev pub Narrow : ℤ → Type 0
Narrow z = length (signed_decimal z) ≤ 8

-- it has at most seven digits, which leave a column even for a minus
abbrev pub Small : ℤ → Type 0
Small z = unsigned_abs z < 10 ^ 7

-- f 1, then f 2, .. and then f n
abbrev pub text_to : ℕ → (ℕ → List ℕ) → List ℕ
text_to zero f = []
text_to (suc n) f = text_to n f ++ f (suc n)

-- numbers one after another, each in its columns
abbrev pub columns : List ℤ → List ℕ
columns zs = text_to (length zs) (λ k. column (nth zs k (pos 0)))

-- an output in which b stands from place a on, and all else is as it was
abbrev pub placed : List ℕ → ℕ → List ℕ → List ℕ
placed out a b = take a out ++ (b ++ drop (a + length b) out)

-- an output with the text at its front, the bytes past it unchanged
abbrev pub fronted : List ℕ → List ℕ → List ℕ
fronted out text = text ++ drop (length text) out

-- What writing a text to the front of an output tells, and what it leaves there:
-- the text's length, or that the output is shorter than the text and then unchanged.
abbrev pub writing_tells : List ℕ → List ℕ → Result ℕ Refusal
writing_tells out text = cond (nat_le (length text) (length out)) (Ok (length text)) (Err OutputTooShort)

abbrev pub writing_leaves : List ℕ → List ℕ → List ℕ
writing_leaves out text = cond (nat_le (length text) (length out)) (fronted out text) out
