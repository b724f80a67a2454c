-- The steps of the loops, as the code takes them.
use Rattle.std.proofs.Common.{◌≡◌, ℕ, zero, suc, ◌+◌, ◌-◌, ◌%◌, ◌<◌, ◌≤◌, min, Bool, cond, ◌&&◌, eqb, ltb, List, [], ◌∷◌, ◌++◌, length, fold, get_or, set, sym, refl, ap, ◌∙◌, inl, inr}
use Rattle.std.proofs.lemmas.Bool.{cases_Bool, cond-true, cond-false, eq-eqb, ne_eqb, lt-ltb, le-ltb, and_from, and_left, and_right}
use Rattle.residual.specs.Net.{head_of, tail_of, leavers, moved}
use Rattle.preflow.specs.Push.{Out, shifted, apt, joined, scans, lows, serves}
use Rattle.preflow.specs.Turns.{State, aims, raised, refreshed, turned}

-- the least height, where arc k is tried too
abbrev pub lower : (hs rs ds : List ℕ) (k low : ℕ) → ℕ
lower hs rs ds k low = cond (ltb 0 (get_or rs k 0)) (min low (get_or ds (head_of hs k) 0)) low

pub lows_fold : (hs rs ds : List ℕ) (v k low : ℕ) → lows hs rs ds v k low ≡ fold (λ l a. lower hs rs ds a l) low (leavers hs v k)
unfolding leavers lows
lows_fold hs rs ds v zero low = refl
lows_fold hs rs ds v (suc k) low =
    elim (cases_Bool (eqb (tail_of hs k) v)) [
      | inl e ↦ rw (cond-true (eqb (tail_of hs k) v) (k ∷ leavers hs v k) (leavers hs v k) e, e) (lows_fold hs rs ds v k (lower hs rs ds k low))
      | inr e ↦
          rw (cond-false (eqb (tail_of hs k) v) (k ∷ leavers hs v k) (leavers hs v k) e)
          (ap (lows hs rs ds v k) (cond-false (eqb (tail_of hs k) v && ltb 0 (get_or rs k 0)) (min low (get_or ds (head_of hs k) 0)) low (and_left _ _ e)) ∙ lows_fold hs rs ds v k low)
    ]

-- arc k takes some of the excess: it is open and goes to a point of height low
abbrev takes : (hs ds : List ℕ) (low k : ℕ) (rs : List ℕ) → Bool
takes hs ds low k rs = ltb 0 (get_or rs k 0) && eqb (get_or ds (head_of hs k) 0) low

module _ (hs ds : List ℕ) (source sink v low : ℕ) where
  -- a scan of the listed arcs, which leave v
  unfoldable pub along : (ks rs es qs : List ℕ) → Out
  along [] rs es qs = (rs, es, qs)
  along (k ∷ ks) rs es qs =
      let x : ℕ = min (get_or es v 0) (get_or rs k 0) in
      let w : ℕ = head_of hs k in
      let js : List ℕ = joined source sink (get_or es w 0) w qs in
      cond (takes hs ds low k rs)
      (cond (eqb (get_or (shifted es v w x) v 0) 0)
      (moved rs k x, shifted es v w x, js)
      (along ks (moved rs k x) (shifted es v w x) js))
      (along ks rs es qs)

  pub scans_along : (k : ℕ) (rs es qs : List ℕ) → scans hs ds source sink v low k rs es qs ≡ along (leavers hs v k) rs es qs
  unfolding leavers scans apt along
  scans_along zero rs es qs = refl
  scans_along (suc k) rs es qs =
      let x : ℕ = min (get_or es v 0) (get_or rs k 0) in
      let w : ℕ = head_of hs k in
      let js : List ℕ = joined source sink (get_or es w 0) w qs in
      elim (cases_Bool (eqb (tail_of hs k) v)) [
        | inl e ↦
            rw (cond-true (eqb (tail_of hs k) v) (k ∷ leavers hs v k) (leavers hs v k) e, e)
            (ap (λ (o : Out). cond (takes hs ds low k rs) (cond (eqb (get_or (shifted es v w x) v 0) 0) (moved rs k x, shifted es v w x, js) o) (scans hs ds source sink v low k rs es qs)) (scans_along k (moved rs k x) (shifted es v w x) js)
            ∙ ap (cond (takes hs ds low k rs) (cond (eqb (get_or (shifted es v w x) v 0) 0) (moved rs k x, shifted es v w x, js) (along (leavers hs v k) (moved rs k x) (shifted es v w x) js))) (scans_along k rs es qs))
        | inr e ↦
            rw (cond-false (eqb (tail_of hs k) v) (k ∷ leavers hs v k) (leavers hs v k) e)
            (cond-false (eqb (tail_of hs k) v && takes hs ds low k rs) _ _ (and_left _ _ e) ∙ scans_along k rs es qs)
      ]

  pub along_end : (ks rs es qs : List ℕ) → ks ≡ [] → along ks rs es qs ≡ (rs, es, qs)
  unfolding along
  along_end ks rs es qs e = rw e refl

  module _ (k : ℕ) (ks rs es qs : List ℕ) where
    pub along_shut : get_or rs k 0 ≤ 0 → along (k ∷ ks) rs es qs ≡ along ks rs es qs
    unfolding along
    along_shut z = cond-false _ _ _ (and_left (ltb 0 (get_or rs k 0)) _ (le-ltb 0 (get_or rs k 0) z))

    pub along_off : (get_or ds (head_of hs k) 0 ≡ low → ⊥) → along (k ∷ ks) rs es qs ≡ along ks rs es qs
    unfolding along
    along_off z = cond-false _ _ _ (and_right (ltb 0 (get_or rs k 0)) _ (ne_eqb (get_or ds (head_of hs k) 0) low z))

    after_push : (x : ℕ) (j : List ℕ) → Out
    after_push x j =
        cond (eqb (get_or (shifted es v (head_of hs k) x) v 0) 0)
        (moved rs k x, shifted es v (head_of hs k) x, j)
        (along ks (moved rs k x) (shifted es v (head_of hs k) x) j)

    module _ (x : ℕ) (qs' : List ℕ) (wide : 0 < get_or rs k 0) (up : get_or ds (head_of hs k) 0 ≡ low)
        (is : x ≡ min (get_or es v 0) (get_or rs k 0)) (j : joined source sink (get_or es (head_of hs k) 0) (head_of hs k) qs ≡ qs') where
      goes : along (k ∷ ks) rs es qs ≡ after_push x qs'
      unfolding along after_push
      goes =
          cond-true _ _ _ (and_from _ _ (lt-ltb _ _ wide) (eq-eqb _ _ up))
          ∙ ap (λ (y : ℕ). after_push y (joined source sink (get_or es (head_of hs k) 0) (head_of hs k) qs)) (sym is)
          ∙ ap (after_push x) j

      pub along_stop : get_or (shifted es v (head_of hs k) x) v 0 ≡ 0 → along (k ∷ ks) rs es qs ≡ (moved rs k x, shifted es v (head_of hs k) x, qs')
      unfolding after_push
      along_stop z = goes ∙ cond-true _ _ _ (eq-eqb _ _ z)

      pub along_more : (get_or (shifted es v (head_of hs k) x) v 0 ≡ 0 → ⊥) → along (k ∷ ks) rs es qs ≡ along ks (moved rs k x) (shifted es v (head_of hs k) x) qs'
      unfolding after_push
      along_more z = goes ∙ cond-false _ _ _ (ne_eqb _ _ z)

-- the code's two writes of excesses
pub shifted_is : (es : List ℕ) (v w x : ℕ) → set (set es v (get_or es v 0 - x)) w (get_or (set es v (get_or es v 0 - x)) w 0 + x) ≡ shifted es v w x
unfolding shifted
shifted_is es v w x = refl

pub serves_again : (hs ds : List ℕ) (source sink v low : ℕ) (rs es qs rs' es' qs' : List ℕ) → scans hs ds source sink v low (length hs) rs es qs ≡ (rs', es', qs') → 0 < get_or es' v 0 → serves hs ds source sink v low rs es qs ≡ (rs', es', qs' ++ v ∷ [])
unfolding serves
serves_again hs ds source sink v low rs es qs rs' es' qs' e h =
    ap (λ (o : Out). (o.0, o.1, cond (ltb 0 (get_or o.1 v 0)) (o.2 ++ v ∷ []) o.2)) e
    ∙ ap (λ (y : List ℕ). (rs', es', y)) (cond-true _ _ _ (lt-ltb 0 (get_or es' v 0) h))

pub serves_done : (hs ds : List ℕ) (source sink v low : ℕ) (rs es qs rs' es' qs' : List ℕ) → scans hs ds source sink v low (length hs) rs es qs ≡ (rs', es', qs') → get_or es' v 0 ≤ 0 → serves hs ds source sink v low rs es qs ≡ (rs', es', qs')
unfolding serves
serves_done hs ds source sink v low rs es qs rs' es' qs' e h =
    ap (λ (o : Out). (o.0, o.1, cond (ltb 0 (get_or o.1 v 0)) (o.2 ++ v ∷ []) o.2)) e
    ∙ ap (λ (y : List ℕ). (rs', es', y)) (cond-false _ _ _ (le-ltb 0 (get_or es' v 0) h))

module _ (hs : List ℕ) (n source sink k : ℕ) (rs ds : List ℕ) where
  pub refreshed_yes : (ls up : List ℕ) → k % 128 ≡ 127 → ls ≡ aims hs rs n source sink → up ≡ raised n ls ds → up ≡ refreshed hs n source sink k rs ds
  unfolding refreshed
  refreshed_yes ls up t l h = h ∙ ap (λ (x : List ℕ). raised n x ds) l ∙ sym (cond-true (eqb (k % 128) 127) _ _ (eq-eqb (k % 128) 127 t))

  pub refreshed_no : (up : List ℕ) → (k % 128 ≡ 127 → ⊥) → up ≡ ds → up ≡ refreshed hs n source sink k rs ds
  unfolding refreshed
  refreshed_no up t h = h ∙ sym (cond-false (eqb (k % 128) 127) _ _ (ne_eqb (k % 128) 127 t))

pub turned_is : (hs : List ℕ) (n source sink k v : ℕ) (rs es ds qs up lifted rs' es' qs' : List ℕ) → up ≡ refreshed hs n source sink k rs ds → lifted ≡ set up v (lows hs rs up v (length hs) 1000 + 1)
    → serves hs lifted source sink v (lows hs rs up v (length hs) 1000) rs es qs ≡ (rs', es', qs') → turned hs n source sink k v rs es ds qs ≡ record { left = rs'; excess = es'; height = lifted; queue = qs' }
unfolding turned
turned_is hs n source sink k v rs es ds qs up lifted rs' es' qs' is lift e =
    let G : List ℕ → List ℕ → State = λ u l.
    record { left = (serves hs l source sink v (lows hs rs u v (length hs) 1000) rs es qs).0; excess = (serves hs l source sink v (lows hs rs u v (length hs) 1000) rs es qs).1; height = l; queue = (serves hs l source sink v (lows hs rs u v (length hs) 1000) rs es qs).2 } in
    ap (λ (u : List ℕ). G u (set u v (lows hs rs u v (length hs) 1000 + 1))) (sym is)
    ∙ ap (G up) (sym lift)
    ∙ ap (λ (o : Out). record { left = o.0; excess = o.1; height = lifted; queue = o.2 }) e
