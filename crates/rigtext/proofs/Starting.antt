-- Where a reader is: at the text's start, at a line, at the text's end.
use Rattle.std.proofs.Common.{◌≡◌, ℕ, suc, ◌+◌, ◌-◌, ◌<◌, ◌≤◌, min, List, [], ◌∷◌, length, take, drop, sym, ap, ◌∙◌, arith}
use Rattle.std.specs.List.{prefix_len}
use Rattle.std.proofs.lemmas.List.{drop_all, length-drop}
use Rattle.reading.specs.Lines.{in_line, lines_of, ended, start_of}
use Rattle.reading.proofs.Starts.{first, first_line, lines_from, start_next}
use Rattle.rigtext.specs.States.{line_from}

-- the first line begins at 0, and 0 is told of line 0
pub begins_first : (t : List ℕ) → 0 ≡ start_of t 1
unfolding ended
begins_first t = omega arith

pub begins_none : (t : List ℕ) → 0 ≡ start_of t 0
unfolding ended
begins_none t = omega arith

-- the lines after the first of a text
abbrev pub lines_past : List ℕ → List (List ℕ)
lines_past t = lines_of (drop (suc (first t)) t)

first_lines : (t : List ℕ) → 0 < length t → lines_of t ≡ take (first t) t ∷ lines_past t
first_lines [] h = let no_such : ⊥ = omega arith in absurd no_such
first_lines (b ∷ t) h = first_line b t

-- the lines that are left at a line, and at the text's end
pub lines_left_lem : (t : List ℕ) (k i : ℕ) → i ≡ start_of t k → i < length t → drop (k - 1) (lines_of t) ≡ line_from t i ∷ lines_past (drop i t)
lines_left_lem t k i e h =
    sym (lines_from t k) ∙ ap (λ n. lines_of (drop n t)) (sym e) ∙ first_lines (drop i t) (omega (arith, length-drop i t))

pub none_left : (t : List ℕ) (k i : ℕ) → i ≡ start_of t k → length t ≤ i → drop (k - 1) (lines_of t) ≡ []
unfolding lines_of
none_left t k i e h =
    sym (lines_from t k) ∙ ap (λ n. lines_of (drop n t)) (sym e) ∙ ap lines_of (drop_all i t h)

-- where the next line begins
begins_next : (t : List ℕ) (k i end : ℕ) → 1 ≤ k → i ≡ start_of t k → i < length t → end ≡ i + prefix_len in_line (drop i t) → min (length t) (end + 1) ≡ start_of t (k + 1)
begins_next t k i end some e h w =
    let here : first (drop (start_of t k) t) ≡ first (drop i t) = ap (λ n. first (drop n t)) (sym e) in
    let next = start_next t k some (omega arith) in
    omega (arith, next, here)

-- a reader at line k, whose place is i
abbrev pub At : List ℕ → ℕ → ℕ → Type 0
At t k i = (1 ≤ k) × ((i ≡ start_of t k) × ((k ≤ i + 1) × ((16384 < length t → k ≡ 1) × Unit {0})))

pub at_next : (t : List ℕ) (k i end j : ℕ) → At t k i → i < length t → length t ≤ 16384 → end ≡ i + prefix_len in_line (drop i t) → j ≡ min (length t) (end + 1) → At t (k + 1) j
at_next t k i end j here h short w e =
    let (some, (begins, (reached, rest))) = here in
    (omega arith, (e ∙ begins_next t k i end some begins h w, (omega arith, (λ long. let no_such : ⊥ = omega arith in absurd no_such, tt))))
