-- Where lines begin and end: a text's first line ends at its first LF, and the next begins after it.
use Rattle.std.proofs.Common.{◌≡◌, ℕ, zero, suc, ◌+◌, ◌-◌, ◌<◌, ◌≤◌, min, true, false, eqb, List, [], ◌∷◌, ◌++◌, length, take, drop, sym, ap, ◌∙◌, ⊎_elim, one-add, arith}
use Rattle.std.specs.List.{prefix_len}
use Rattle.std.proofs.lemmas.List.{length-append, length-take-le, length-drop, drop-drop, drop_all}
use Rattle.std.proofs.lemmas.List.Sums.{prefix_len-le-length}
use Rattle.std.proofs.lemmas.Bool.{cond-true, cond-false, cases_Bool, cases_lt, not-true, not-false}
use Rattle.reading.specs.Lines.{LF, in_line, grown, lines_of, ended, start_of}

-- how many bytes the first line has
abbrev pub first : List ℕ → ℕ
first t = prefix_len in_line t

-- the first line with what follows it, by its length
abbrev parted : List ℕ → ℕ → List (List ℕ)
parted t n = take n t ∷ lines_of (drop (suc n) t)

first_grown : (b : ℕ) (t : List ℕ) → lines_of t ≡ parted t (first t) → in_line b ≡ true → lines_of (b ∷ t) ≡ parted (b ∷ t) (first (b ∷ t))
unfolding lines_of
first_grown b t ih e =
    cond-false (eqb b LF) _ _ (not-true _ e) ∙ ap (grown b) ih ∙ ap (parted (b ∷ t)) (sym (cond-true (in_line b) (1 + first t) 0 e ∙ one-add (first t)))

first_ended : (b : ℕ) (t : List ℕ) → in_line b ≡ false → lines_of (b ∷ t) ≡ parted (b ∷ t) (first (b ∷ t))
unfolding lines_of
first_ended b t e = cond-true (eqb b LF) _ _ (not-false _ e) ∙ ap (parted (b ∷ t)) (sym (cond-false (in_line b) (1 + first t) 0 e))

first_byte : (b : ℕ) → in_line b ≡ true → lines_of (b ∷ []) ≡ parted (b ∷ []) (first (b ∷ []))
unfolding lines_of
first_byte b e = cond-false (eqb b LF) _ _ (not-true _ e) ∙ ap (parted (b ∷ [])) (sym (cond-true (in_line b) 1 0 e))

pub first_line : (b : ℕ) (t : List ℕ) → lines_of (b ∷ t) ≡ take (first (b ∷ t)) (b ∷ t) ∷ lines_of (drop (suc (first (b ∷ t))) (b ∷ t))
first_line b [] = ⊎_elim (first_byte b) (first_ended b []) (cases_Bool (in_line b))
first_line b (c ∷ t) = ⊎_elim (first_grown b (c ∷ t) (first_line c t)) (first_ended b (c ∷ t)) (cases_Bool (in_line b))

-- where the line after the first k begins
abbrev after : List ℕ → ℕ → ℕ
after t k = min (length t) (length (ended (take k (lines_of t))))

after_none : (t : List ℕ) → after t 0 ≡ 0
unfolding ended
after_none t = omega arith

-- what follows the first line of a text
abbrev rest : ℕ → List ℕ → List ℕ
rest b t = drop (suc (first (b ∷ t))) (b ∷ t)

after_more : (b : ℕ) (t : List ℕ) (k : ℕ) → after (b ∷ t) (suc k) ≡ min (length (b ∷ t)) (suc (first (b ∷ t)) + after (rest b t) k)
unfolding ended
after_more b t k =
    let s = b ∷ t in
    let e = first s in
    let l = take e s in
    let tail = ended (take k (lines_of (rest b t))) in
    let whole : ended (take (suc k) (lines_of s)) ≡ l ++ (LF ∷ tail) = ap (λ ls. ended (take (suc k) ls)) (first_line b t) in
    let short : e ≤ length s = prefix_len-le-length in_line s in
    omega (arith, ap length whole, length-append l (LF ∷ tail), length-take-le e s short, length-drop (suc e) s)

drop_min : (t : List ℕ) (n : ℕ) → drop (min (length t) n) t ≡ drop n t
drop_min t n =
    ⊎_elim
    (λ (h : n < length t). ap (λ k. drop k t) (omega arith))
    (λ (h : length t ≤ n). ap (λ k. drop k t) (omega arith) ∙ drop_all (length t) t (omega arith) ∙ sym (drop_all n t h))
    (cases_lt n (length t))

drop_more : (b : ℕ) (t : List ℕ) (k : ℕ) → drop (after (b ∷ t) (suc k)) (b ∷ t) ≡ drop (after (rest b t) k) (rest b t)
drop_more b t k =
    ap (λ n. drop n (b ∷ t)) (after_more b t k) ∙ drop_min (b ∷ t) _ ∙ sym (drop-drop (after (rest b t) k) (suc (first (b ∷ t))) (b ∷ t))

lines_after : (k : ℕ) (t : List ℕ) → lines_of (drop (after t k) t) ≡ drop k (lines_of t)
unfolding lines_of
lines_after zero t = ap (λ n. lines_of (drop n t)) (after_none t)
lines_after (suc k) [] = ap lines_of (drop_all _ [] (omega arith))
lines_after (suc k) (b ∷ t) = ap lines_of (drop_more b t k) ∙ lines_after k (rest b t) ∙ sym (ap (drop (suc k)) (first_line b t))

after_next : (k : ℕ) (t : List ℕ) → after t k < length t → after t (suc k) ≡ min (length t) (suc (after t k + first (drop (after t k) t)))
after_next zero [] h = let no_such : ⊥ = omega arith in absurd no_such
after_next zero (b ∷ t) h =
    let here : first (drop (after (b ∷ t) 0) (b ∷ t)) ≡ first (b ∷ t) = ap (λ n. first (drop n (b ∷ t))) (after_none (b ∷ t)) in
    omega (arith, after_more b t 0, after_none (rest b t), after_none (b ∷ t), here)
after_next (suc k) [] h = let no_such : ⊥ = omega arith in absurd no_such
after_next (suc k) (b ∷ t) h =
    let r = rest b t in
    let size : length r ≡ length (b ∷ t) - suc (first (b ∷ t)) = length-drop (suc (first (b ∷ t))) (b ∷ t) in
    let now = after_more b t k in
    let inside : after r k < length r = omega (arith, now, size) in
    omega (arith, now, size, after_more b t (suc k), after_next k r inside, ap first (drop_more b t k))

-- the lines from the k-th on are those of the text from where it begins
pub lines_from : (t : List ℕ) (k : ℕ) → lines_of (drop (start_of t k) t) ≡ drop (k - 1) (lines_of t)
lines_from t k = lines_after (k - 1) t

-- the line after the k-th begins after its LF, or at the text's end
pub start_next : (t : List ℕ) (k : ℕ) → 1 ≤ k → start_of t k < length t → start_of t (k + 1) ≡ min (length t) (start_of t k + first (drop (start_of t k) t) + 1)
start_next t k some h =
    let one : k + 1 - 1 ≡ suc (k - 1) = omega arith in
    omega (arith, ap (after t) one, after_next (k - 1) t h)
