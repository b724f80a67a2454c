-- The words that are found in a line, field after field, are those that stand in it with spaces between.
use Rattle.std.proofs.Common.{◌≡◌, ℕ, zero, suc, ◌+◌, ◌-◌, ◌<◌, Bool, true, false, cond, eqb, ltb, List, [], ◌∷◌, ◌++◌, length, take, drop, replicate, sym, refl, ap, ◌∙◌, subst, inl, inr, zero-add, one-add, arith}
use native.Mathlib.Nat.{add-sub_cancel_left}
use Rattle.std.specs.List.{prefix_len, AllByRecursion}
use Rattle.std.proofs.lemmas.List.{append-nil, length-replicate, length-drop, take-append-drop, drop-drop, take_at, take_all, drop_at, take_rest}
use Rattle.std.proofs.lemmas.Bool.{cases_Bool, and_parts, and_from, ltb-true, lt-ltb, eqb-true, eq-eqb, not-false, not-true}
use Rattle.rig_lines.specs.Fields.{is_space, in_field, past, skip, next, word_at, ends_at}
use Rattle.rig_lines.specs.Spelling.{Parted}

-- a word that is not empty and has no space
abbrev pub Clean : List ℕ → Type 0
Clean w = (0 < length w) × AllByRecursion (λ c. in_field c ≡ true) w

-- the words, one after another, are those that are found from the place on, and the last of them ends the line
unfoldable pub Found : List ℕ → ℕ → List (List ℕ) → Type 0
Found l i [] = ⊥
Found l i (w ∷ []) = (word_at l i ≡ w) × (ends_at l i ≡ true)
Found l i (w ∷ (v ∷ ws)) = (word_at l i ≡ w) × Found l (next l i) (v ∷ ws)

-- a scan, one byte on
module _ (p : ℕ → Bool) (x : ℕ) (xs : List ℕ) where
  passes : p x ≡ true → prefix_len p (x ∷ xs) ≡ suc (prefix_len p xs)
  passes e = ap (λ b. cond b (1 + prefix_len p xs) 0) e ∙ one-add (prefix_len p xs)

  stays : p x ≡ false → prefix_len p (x ∷ xs) ≡ 0
  stays e = ap (λ b. cond b (1 + prefix_len p xs) 0) e

-- a scan over what passes, and what follows
leading_all : (p : ℕ → Bool) (w t : List ℕ) → AllByRecursion (λ c. p c ≡ true) w → prefix_len p (w ++ t) ≡ length w + prefix_len p t
leading_all p [] t a = sym (zero-add (prefix_len p t))
leading_all p (x ∷ w) t a = passes p x (w ++ t) a.0 ∙ omega (arith, leading_all p w t a.1)

all_spaces : (k : ℕ) → AllByRecursion (λ c. is_space c ≡ true) (replicate k 32)
all_spaces zero = tt
all_spaces (suc k) = (refl, all_spaces k)

-- a test of the first byte, and what is known of the scan then
by_first : (p : ℕ → Bool) (P : ℕ → Type 0) (x : ℕ) (xs : List ℕ) → (p x ≡ true → P (suc (prefix_len p xs))) → (p x ≡ false → P 0) → P (prefix_len p (x ∷ xs))
by_first p P x xs at-yes at-no =
    elim (cases_Bool (p x)) [ inl e ↦ subst P (sym (passes p x xs e)) (at-yes e) | inr e ↦ subst P (sym (stays p x xs e)) (at-no e) ]

-- what a scan over spaces has passed is spaces
spaces : (xs : List ℕ) → xs ≡ replicate (prefix_len is_space xs) 32 ++ drop (prefix_len is_space xs) xs
spaces [] = refl
spaces (x ∷ xs) =
    by_first is_space (λ n. x ∷ xs ≡ replicate n 32 ++ drop n (x ∷ xs)) x xs (λ e. λ i. eqb-true x 32 e i ∷ spaces xs i) (λ e. refl)

-- where a field ends before the line does, a space stands
space_after : (xs : List ℕ) → prefix_len in_field xs < length xs → 0 < prefix_len is_space (drop (prefix_len in_field xs) xs)
space_after [] = λ h. h
space_after (x ∷ xs) =
    by_first in_field (λ n. n < suc (length xs) → 0 < prefix_len is_space (drop n (x ∷ xs))) x xs
    (λ e h. space_after xs (omega arith))
    (λ e h. omega (arith, passes is_space x xs (not-false (is_space x) e)))

-- what is left of a line at a place, cut at the end of the spaces there
cut_spaces : (l : List ℕ) (i : ℕ) → drop i l ≡ replicate (prefix_len is_space (drop i l)) 32 ++ drop (skip l i) l
cut_spaces l i = spaces (drop i l) ∙ ap (λ t. replicate (prefix_len is_space (drop i l)) 32 ++ t) (drop-drop (prefix_len is_space (drop i l)) i l)

module _ (l : List ℕ) (i : ℕ) where
  word_taken : word_at l i ≡ take (prefix_len in_field (drop i l)) (drop i l)
  word_taken = ap (λ n. take n (drop i l)) (add-sub_cancel_left i (prefix_len in_field (drop i l)))

  -- what is left of the line at a place, cut at the end of the field there
  pub cut : drop i l ≡ word_at l i ++ drop (past l i) l
  cut =
      sym (take-append-drop (prefix_len in_field (drop i l)) (drop i l))
      ∙ (λ j. sym word_taken j ++ drop-drop (prefix_len in_field (drop i l)) i l j)

  -- where a field ends before the line does, one space or more follow it
  pub gap : past l i < length l → (k : ℕ) × (drop (past l i) l ≡ replicate (suc k) 32 ++ drop (next l i) l)
  gap inside =
      let m : ℕ = prefix_len is_space (drop (past l i) l) in
      let some : 0 < m = subst (λ t. 0 < prefix_len is_space t) (drop-drop (prefix_len in_field (drop i l)) i l) (space_after (drop i l) (omega (arith, length-drop i l))) in
      let same : m ≡ suc (m - 1) = omega arith in
      (m - 1, cut_spaces l (past l i) ∙ ap (λ n. replicate n 32 ++ drop (next l i) l) same)

-- a word does not begin with a space
starts : (v t : List ℕ) → Clean v → prefix_len is_space (v ++ t) ≡ 0
starts [] t h = omega (arith, h.0)
starts (x ∷ v) t h = stays is_space x (v ++ t) (not-true (is_space x) h.1.0)

found_inside : (ws : List (List ℕ)) (l : List ℕ) (i : ℕ) → Found l i ws → i < length l
unfolding Found
found_inside [] l i f = absurd f
found_inside (w ∷ []) l i f = ltb-true _ _ (and_parts (ltb i (length l)) _ f.1).0
found_inside (w ∷ (v ∷ ws)) l i f = omega (arith, found_inside (v ∷ ws) l (next l i) f.1)

pub parted_from_found : (ws : List (List ℕ)) (l : List ℕ) (i : ℕ) → Found l i ws → Parted (drop i l) ws
unfolding Found Parted
parted_from_found [] l i f = f
parted_from_found (w ∷ []) l i f =
    let e : past l i ≡ length l = eqb-true _ _ (and_parts (ltb i (length l)) (eqb (past l i) (length l)) f.1).1 in
    sym (ap (λ n. take (n - i) (drop i l)) e ∙ take_rest l i) ∙ f.0
parted_from_found (w ∷ (v ∷ ws)) l i f =
    let inside : next l i < length l = found_inside (v ∷ ws) l (next l i) f.1 in
    let g = gap l i (omega arith) in
    (g.0, drop (next l i) l, cut l i ∙ (λ j. f.0 j ++ g.1 j), parted_from_found (v ∷ ws) l (next l i) f.1)

-- where the rest of a line begins with a word, no space stands there
parted_starts : (ws : List (List ℕ)) (v r : List ℕ) → Clean v → Parted r (v ∷ ws) → prefix_len is_space r ≡ 0
unfolding Parted
parted_starts [] v r h p = ap (prefix_len is_space) p ∙ ap (prefix_len is_space) (sym (append-nil v)) ∙ starts v [] h
parted_starts (u ∷ ws) v r h p = ap (prefix_len is_space) p.2 ∙ starts v _ h

pub found_from_parted : (ws : List (List ℕ)) (l : List ℕ) (i : ℕ) → AllByRecursion Clean ws → Parted (drop i l) ws → Found l i ws
unfolding Found Parted
found_from_parted [] l i h p = p
found_from_parted (w ∷ []) l i h p =
    let n : prefix_len in_field (drop i l) ≡ length w = ap (prefix_len in_field) (p ∙ sym (append-nil w)) ∙ leading_all in_field w [] h.0.1 ∙ omega arith in
    let d : length w ≡ length l - i = ap length (sym p) ∙ length-drop i l in
    let some : 0 < length w = h.0.0 in (
      word_taken l i ∙ (λ j. take (n j) (p j)) ∙ take_all (length w) w (omega arith),
      and_from (ltb i (length l)) _ (lt-ltb i (length l) (omega arith)) (eq-eqb (past l i) (length l) (omega arith)),
    )
found_from_parted (w ∷ (v ∷ ws)) l i h p =
    let k : ℕ = p.0 in
    let t : List ℕ = p.1 in
    let gap : List ℕ = replicate (suc k) 32 ++ t in
    let n : prefix_len in_field (drop i l) ≡ length w = ap (prefix_len in_field) p.2 ∙ leading_all in_field w gap h.0.1 ∙ omega arith in
    let word : word_at l i ≡ w = word_taken l i ∙ (λ j. take (n j) (p.2 j)) ∙ take_at w gap (length w) refl in
    let behind : drop (past l i) l ≡ gap = sym (drop-drop (prefix_len in_field (drop i l)) i l) ∙ (λ j. drop (n j) (p.2 j)) ∙ drop_at w gap (length w) refl in
    let m : prefix_len is_space (drop (past l i) l) ≡ suc k =
    ap (prefix_len is_space) behind ∙ leading_all is_space (replicate (suc k) 32) t (all_spaces (suc k)) ∙ omega (arith, length-replicate {A = ℕ} (suc k) 32, parted_starts ws v t h.1.0 p.3) in
    let rest : drop (next l i) l ≡ t =
    sym (drop-drop (prefix_len is_space (drop (past l i) l)) (past l i) l) ∙ (λ j. drop (m j) (behind j)) ∙ drop_at (replicate (suc k) 32) t (suc k) (length-replicate {A = ℕ} (suc k) 32) in
    (word, found_from_parted (v ∷ ws) l (next l i) h.1 (subst (λ r. Parted r (v ∷ ws)) (sym rest) p.3))
