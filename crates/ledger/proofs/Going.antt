-- A list of calls that is being performed: how it goes on, and where it ends.
use Rattle.std.proofs.Common.{◌≡◌, ℕ, ◌+◌, ◌<◌, ◌≤◌, List, [], ◌∷◌, ◌++◌, map, length, get_or, take, drop, set, sym, refl, ap, ◌∙◌, append_assoc, append-nil, arith}
use Rattle.std.proofs.lemmas.List.{drop_more, drop-set-lt, take_more_set, map_push, drop_all, take_all}
use Rattle.ledger.specs.Ledgers.{Ledger, Request, Reply, says, next, spent, after, replies, all_spent}

-- The calls up to i were made: what is left, from the ledger m that now stands, completes what was told, left and held.
pub record Going {C : Type 0} (ask : C → Request) (l : Ledger) (calls : List C) (i : ℕ) (told : List Reply) (nows : List C) (m : Ledger) : Type 0 where
  pub told_so_far : replies l (map ask calls) ≡ told ++ replies m (map ask (drop i calls))
  pub spent_so_far : all_spent l (map ask calls) ≡ map ask (take i nows) ++ all_spent m (map ask (drop i calls))
  pub held_so_far : after l (map ask calls) ≡ after m (map ask (drop i calls))
  pub untouched : drop i nows ≡ drop i calls

pub going_none : {C : Type 0} (ask : C → Request) (l : Ledger) (calls : List C) → Going ask l calls 0 [] calls l
going_none ask l calls = record { told_so_far = refl; spent_so_far = refl; held_so_far = refl; untouched = refl }

-- One call more: at i stood `c`, read at a default of any kind, and then d.
pub going_more : {C : Type 0} (ask : C → Request) (l : Ledger) (calls : List C) (i : ℕ) (told : List Reply) (nows : List C) (m : Ledger)
    → Going ask l calls i told nows m → (e c d : C) (r : Reply) (n : Ledger)
    → length nows ≡ length calls → i < length calls → c ≡ get_or nows i e
    → r ≡ says m (ask c) → ask d ≡ spent m (ask c) → n ≡ next m (ask c)
    → (more : List Reply) → more ≡ told ++ (r ∷ [])
    → Going ask l calls (i + 1) more (set nows i d) n
unfolding after replies all_spent
going_more {C} ask l calls i told nows m go e c d r n len lt at_i said left held more pushed =
    let within : i < length nows = omega arith in
    let a = drop_more nows i e within in
    let b = drop_more calls i e lt in
    let rest : drop i calls ≡ c ∷ drop (i + 1) calls = cc in
    let back : drop (i + 1) nows ≡ drop (i + 1) calls = cc in
    let p = ap (λ (x : List C). replies m (map ask x)) rest in
    let told_next : replies m (map ask (drop i calls)) ≡ r ∷ replies n (map ask (drop (i + 1) calls)) = cc in
    let q = ap (λ (x : List C). all_spent m (map ask x)) rest in
    let spent-next : all_spent m (map ask (drop i calls)) ≡ ask d ∷ all_spent n (map ask (drop (i + 1) calls)) = cc in
    let o = ap (λ (x : List C). after m (map ask x)) rest in
    let front : map ask (take (i + 1) (set nows i d)) ≡ map ask (take i nows) ++ (ask d ∷ []) = ap (map ask) (take_more_set nows i d within) ∙ map_push ask (take i nows) d in
    record {
      told_so_far = go.told_so_far ∙ (ap (λ x. told ++ x) told_next ∙ (sym (append_assoc told (r ∷ []) (replies n (map ask (drop (i + 1) calls)))) ∙ ap (λ x. x ++ replies n (map ask (drop (i + 1) calls))) (sym pushed)));
      spent_so_far = go.spent_so_far ∙ (ap (λ x. map ask (take i nows) ++ x) spent-next ∙ (sym (append_assoc (map ask (take i nows)) (ask d ∷ []) (all_spent n (map ask (drop (i + 1) calls)))) ∙ ap (λ x. x ++ all_spent n (map ask (drop (i + 1) calls))) (sym front)));
      held_so_far = cc;
      untouched = drop-set-lt (i + 1) nows i d (omega arith) ∙ back;
    }

-- At the end of the calls.
pub record Gone {C : Type 0} (ask : C → Request) (l : Ledger) (calls : List C) (told : List Reply) (nows : List C) (m : Ledger) : Type 0 where
  pub told_all : replies l (map ask calls) ≡ told
  pub spent_all : all_spent l (map ask calls) ≡ map ask nows
  pub held_all : after l (map ask calls) ≡ m

pub going_all : {C : Type 0} (ask : C → Request) (l : Ledger) (calls : List C) (i : ℕ) (told : List Reply) (nows : List C) (m : Ledger)
    → Going ask l calls i told nows m → length nows ≡ length calls → length calls ≤ i → Gone ask l calls told nows m
unfolding after replies all_spent
going_all {C} ask l calls i told nows m go len past =
    let none : drop i calls ≡ [] = drop_all i calls past in
    let whole : take i nows ≡ nows = take_all i nows (omega arith) in
    let p = ap (λ (x : List C). told ++ replies m (map ask x)) none in
    let q = ap (λ (x : List C). map ask (take i nows) ++ all_spent m (map ask x)) none in
    let o = ap (λ (x : List C). after m (map ask x)) none in
    record {
      told_all = go.told_so_far ∙ (p ∙ append-nil told);
      spent_all = go.spent_so_far ∙ (q ∙ (append-nil (map ask (take i nows)) ∙ ap (map ask) whole));
      held_all = cc;
    }
