-- Points and runs are numbered from 1. Sums and tests over the numbers 1 to n, and the k-th of a list.
use Rattle.std.specs.Prelude.{ℕ, zero, suc, ◌+◌, ◌≤◌, Bool, true, false, ◌&&◌, ◌||◌, List, slice_index_or}

-- k is one of 1 .. n
abbrev pub Within : ℕ → ℕ → Type 0
Within n k = (1 ≤ k) × (k ≤ n)

-- f 1 + f 2 + .. + f n
abbrev pub sum_to : ℕ → (ℕ → ℕ) → ℕ
sum_to zero f = 0
sum_to (suc n) f = sum_to n f + f (suc n)

-- whether the test holds at one of 1 .. n
abbrev pub some_to : ℕ → (ℕ → Bool) → Bool
some_to zero t = false
some_to (suc n) t = some_to n t || t (suc n)

-- whether the test holds at each of 1 .. n
abbrev pub every_to : ℕ → (ℕ → Bool) → Bool
every_to zero t = true
every_to (suc n) t = every_to n t && t (suc n)

-- x where the test holds, and 0 elsewhere
abbrev pub only : Bool → ℕ → ℕ
only true x = x
only false x = 0

-- how many of 1 .. n pass the test
abbrev pub count_to : ℕ → (ℕ → Bool) → ℕ
count_to n t = sum_to n (λ k. only (t k) 1)

-- the k-th of a list, counted from 1; d where there is none
abbrev pub nth : {A : Type 0} → List A → ℕ → A → A
nth xs zero d = d
nth xs (suc k) d = slice_index_or xs k d
