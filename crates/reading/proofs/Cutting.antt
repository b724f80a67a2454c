-- A text's lines are just those that it is cut into.
use Rattle.std.proofs.Common.{◌≡◌, ℕ, eqb, ◌≢◌, List, [], ◌∷◌, ◌++◌, sym, refl, ap, ◌∙◌, subst, ap₂, inl, inr, ⊎_elim, arith}
use Rattle.std.specs.List.{AllByRecursion}
use Rattle.std.proofs.lemmas.List.{append_assoc, append-nil}
use Rattle.std.proofs.lemmas.Bool.{cond-true, cond-false, eq-eqb, ne_eqb, cases_eq}
use Rattle.reading.specs.Lines.{LF, grown, lines_of, ended, Unbroken, Joins, Cut, LinesExactly}

pub cons_not_nil : {A : Type 0} (a : A) (xs : List A) → a ∷ xs ≢ []
cons_not_nil a xs e = let z : ◌≡◌ {A = ℕ} 0 1 = cc in omega arith

-- the lines of a text that is put together
cut_first : (l t : List ℕ) → Unbroken l → lines_of (l ++ (LF ∷ t)) ≡ l ∷ lines_of t
unfolding lines_of
cut_first [] t u = refl
cut_first (b ∷ l) t u = cond-false (eqb b LF) _ _ (ne_eqb b LF u.0) ∙ ap (grown b) (cut_first l t u.1)

cut_last : (l : List ℕ) → Unbroken l → l ≢ [] → lines_of l ≡ l ∷ []
unfolding lines_of
cut_last [] u ne = absurd (ne refl)
cut_last (b ∷ []) u ne = cond-false (eqb b LF) _ _ (ne_eqb b LF u.0)
cut_last (b ∷ (c ∷ l)) u ne = cond-false (eqb b LF) _ _ (ne_eqb b LF u.0) ∙ ap (grown b) (cut_last (c ∷ l) u.1 (cons_not_nil c l))

cut_ended : (ls : List (List ℕ)) (rest : List ℕ) → AllByRecursion Unbroken ls → lines_of (ended ls ++ rest) ≡ ls ++ lines_of rest
unfolding ended
cut_ended [] rest u = refl
cut_ended (l ∷ ls) rest u =
    ap lines_of (append_assoc l (LF ∷ ended ls) rest) ∙ cut_first l (ended ls ++ rest) u.0 ∙ ap (λ ks. l ∷ ks) (cut_ended ls rest u.1)

all_front : {A : Type 0} (P : A → Type 0) (xs ys : List A) → AllByRecursion P (xs ++ ys) → AllByRecursion P xs × AllByRecursion P ys
all_front P [] ys h = (tt, h)
all_front P (x ∷ xs) ys h = let rest = all_front P xs ys h.1 in ((h.0, rest.0), rest.1)

cut_joined : (t : List ℕ) (ls : List (List ℕ)) → AllByRecursion Unbroken ls → Joins t ls → lines_of t ≡ ls
unfolding lines_of
cut_joined t ls u (inl e) =
    ap lines_of (e ∙ sym (append-nil (ended ls))) ∙ cut_ended ls [] u ∙ append-nil ls
cut_joined t ls u (inr (front, end, whole, e, ne)) =
    let parts = all_front Unbroken front (end ∷ []) (subst (AllByRecursion Unbroken) whole u) in
    ap lines_of e ∙ cut_ended front end parts.0 ∙ ap (λ ks. front ++ ks) (cut_last end parts.1.0 ne) ∙ sym whole

-- one more byte before a text that is cut
break_joins : (t : List ℕ) (ls : List (List ℕ)) → Joins t ls → Joins (LF ∷ t) ([] ∷ ls)
unfolding ended
break_joins t ls (inl e) = inl (ap (λ s. LF ∷ s) e)
break_joins t ls (inr (front, end, whole, e, ne)) = inr ([] ∷ front, end, ap (λ ks. [] ∷ ks) whole, ap (λ s. LF ∷ s) e, ne)

byte_ends : (b : ℕ) (t l : List ℕ) (ls front : List (List ℕ)) (end : List ℕ) → l ∷ ls ≡ front ++ (end ∷ []) → t ≡ ended front ++ end → end ≢ [] → Joins (b ∷ t) ((b ∷ l) ∷ ls)
unfolding ended
byte_ends b t l ls [] end whole e ne =
    let same : l ≡ end = cc in
    let none : ls ≡ [] = cc in
    inr ([], b ∷ end, ap₂ (λ k ks. (b ∷ k) ∷ ks) same none, ap (λ s. b ∷ s) e, cons_not_nil b end)
byte_ends b t l ls (g ∷ gs) end whole e ne =
    let same : l ≡ g = cc in
    let more : ls ≡ gs ++ (end ∷ []) = cc in
    inr ((b ∷ g) ∷ gs, end, ap₂ (λ k ks. (b ∷ k) ∷ ks) same more, ap (λ s. b ∷ s) e, ne)

no_end : (front : List (List ℕ)) (end : List ℕ) → [] ≡ front ++ (end ∷ []) → ⊥
no_end [] end e = cons_not_nil end [] (sym e)
no_end (g ∷ gs) end e = cons_not_nil g (gs ++ (end ∷ [])) (sym e)

byte_joins : (b : ℕ) (t : List ℕ) (ls : List (List ℕ)) → Joins t ls → Joins (b ∷ t) (grown b ls)
unfolding ended
byte_joins b t [] (inl e) = inr ([], b ∷ [], refl, ap (λ s. b ∷ s) e, cons_not_nil b [])
byte_joins b t [] (inr (front, end, whole, e, ne)) = absurd (no_end front end whole)
byte_joins b t (l ∷ ls) (inl e) = inl (ap (λ s. b ∷ s) e)
byte_joins b t (l ∷ ls) (inr (front, end, whole, e, ne)) = byte_ends b t l ls front end whole e ne

byte_unbroken : (b : ℕ) (ls : List (List ℕ)) → b ≢ LF → AllByRecursion Unbroken ls → AllByRecursion Unbroken (grown b ls)
byte_unbroken b [] ne u = ((ne, tt), tt)
byte_unbroken b (l ∷ ls) ne u = ((ne, u.0), u.1)

cuts : (t : List ℕ) → Cut t (lines_of t)
unfolding lines_of ended
cuts [] = record { unbroken = tt; joins = inl refl }
cuts (b ∷ t) =
    let c = cuts t in
    ⊎_elim
    (λ (e : b ≡ LF).
    subst (Cut (b ∷ t)) (sym (cond-true (eqb b LF) ([] ∷ lines_of t) (grown b (lines_of t)) (eq-eqb b LF e)))
    (record { unbroken = (tt, c.unbroken); joins = subst (λ x. Joins (x ∷ t) ([] ∷ lines_of t)) (sym e) (break_joins t (lines_of t) c.joins) }))
    (λ (ne : b ≡ LF → ⊥).
    subst (Cut (b ∷ t)) (sym (cond-false (eqb b LF) ([] ∷ lines_of t) (grown b (lines_of t)) (ne_eqb b LF ne)))
    (record { unbroken = byte_unbroken b (lines_of t) ne c.unbroken; joins = byte_joins b t (lines_of t) c.joins }))
    (cases_eq b LF)

pub lines_exactly : LinesExactly
lines_exactly t ls = (λ e. subst (Cut t) e (cuts t), λ c. cut_joined t ls c.unbroken c.joins)
