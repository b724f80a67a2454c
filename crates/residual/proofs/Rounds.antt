-- The steps of the rounds and of the search.
use Rattle.std.proofs.Common.{◌≡◌, ℕ, suc, ◌+◌, Bool, true, false, cond, ◌&&◌, eqb, List, length, get_or, sym, refl, ap, ◌∙◌, subst, add-one}
use Rattle.std.proofs.lemmas.Bool.{cond-true, cond-false, eq-eqb, ne_eqb, and_from, and_right}
use Rattle.residual.specs.Search.{Marks, spreads, visits, rounds, searches}

pub rounds_more : (hs rs : List ℕ) (k v : ℕ) (l : List ℕ) → rounds hs rs k (v + 1) l ≡ visits hs rs k v (rounds hs rs k v l)
unfolding rounds
rounds_more hs rs k v l = ap (λ (x : ℕ). rounds hs rs k x l) (add-one v)

pub visits_yes : (hs rs : List ℕ) (k v : ℕ) (l m : List ℕ) (g r : Bool) → get_or l v 0 ≡ k → spreads hs rs v (k + 1) (length hs) (l, false) ≡ (m, r) → visits hs rs k v (l, g) ≡ (m, cond r true g)
unfolding visits
visits_yes hs rs k v l m g r e s =
    cond-true _ _ _ (eq-eqb _ _ e) ∙ ap (λ (t : Marks). (t.0, cond t.1 true g)) s

pub visits_no : (hs rs : List ℕ) (k v : ℕ) (l : List ℕ) (g : Bool) → (get_or l v 0 ≡ k → ⊥) → visits hs rs k v (l, g) ≡ (l, g)
unfolding visits
visits_no hs rs k v l g e = cond-false _ _ _ (ne_eqb _ _ e)

module _ (hs rs : List ℕ) (sink f k : ℕ) (l m : List ℕ) where
  pub searches_dry : rounds hs rs k (length l) l ≡ (m, false) → searches hs rs sink (suc f) k l ≡ m
  unfolding searches
  searches_dry e =
      let P : Marks → Type 0 = λ s. cond (s.1 && eqb (get_or s.0 sink 0) 0) (searches hs rs sink f (k + 1) s.0) s.0 ≡ m in
      subst P (sym e) refl

  pub searches_found : (r : Bool) → rounds hs rs k (length l) l ≡ (m, r) → (get_or m sink 0 ≡ 0 → ⊥) → searches hs rs sink (suc f) k l ≡ m
  unfolding searches
  searches_found r e n =
      let P : Marks → Type 0 = λ s. cond (s.1 && eqb (get_or s.0 sink 0) 0) (searches hs rs sink f (k + 1) s.0) s.0 ≡ m in
      subst P (sym e) (cond-false _ _ _ (and_right r _ (ne_eqb _ _ n)))

  pub searches_on : rounds hs rs k (length l) l ≡ (m, true) → get_or m sink 0 ≡ 0 → searches hs rs sink (suc f) k l ≡ searches hs rs sink f (k + 1) m
  unfolding searches
  searches_on e z =
      let P : Marks → Type 0 = λ s. cond (s.1 && eqb (get_or s.0 sink 0) 0) (searches hs rs sink f (k + 1) s.0) s.0 ≡ searches hs rs sink f (k + 1) m in
      subst P (sym e) (cond-true _ _ _ (and_from true _ refl (eq-eqb _ _ z)))
