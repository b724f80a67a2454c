-- The queue: what it holds, how long it is, and how it changes.
use Rattle.std.proofs.Common.{◌≡◌, ℕ, zero, suc, ◌+◌, ◌<◌, ◌≤◌, min, Bool, true, false, cond, not, ◌&&◌, eqb, ltb, ◌≢◌, List, [], ◌∷◌, ◌++◌, length, get_or, count_by, sym, refl, ap, ◌∙◌, subst, ap₂, inl, inr, ⊎_elim, arith}
use Rattle.std.proofs.lemmas.List.{get_or_past}
use Rattle.std.proofs.lemmas.List.Sums.{sum_by-cons, sum_by_push}
use Rattle.std.proofs.lemmas.Bool.{cases_eq, cases_lt, cond-true, cond-false, cond_both, eq-eqb, ne_eqb, eqb-false, lt-ltb, le-ltb, ltb-true, and_parts, not-true}
use Rattle.std.proofs.lemmas.Bool.Decides.{nat_tests}
use Rattle.drawing.specs.Counts.{Within, only}
use Rattle.residual.specs.Net.{head_of, moved}
use Rattle.preflow.specs.Push.{Out, shifted, active, joined, apt, scans}
use Rattle.preflow.specs.Fifo.{times}
use Rattle.preflow.specs.Preflow.{Arcs, Lined}
use Rattle.preflow.proofs.Sums.{shifted_other, shifted_to}
use Rattle.preflow.proofs.Kept.{apt_parts, apt_one}

-- a test that fails counts for nothing
pub gone : (a b : Bool) → a ≡ false → only (a && b) 1 ≡ 0
gone a b h = grind arith

pub off : (a b : Bool) → b ≡ true → only (a && not b) 1 ≡ 0
off a b h = grind arith

-- how many in the queue are below k
below : ℕ → List ℕ → ℕ
below k qs = count_by (λ w. ltb w k) qs

below_one : (x k : ℕ) → cond {A = ℕ} (ltb x (suc k)) 1 0 ≡ cond {A = ℕ} (ltb x k) 1 0 + cond {A = ℕ} (eqb x k) 1 0
below_one x k = grind (arith, nat_tests)

below_more : (k : ℕ) (qs : List ℕ) → below (suc k) qs ≡ below k qs + times k qs
unfolding below
below_more k [] = refl
below_more k (x ∷ qs) =
    let a = sum_by-cons (λ w. cond (ltb w (suc k)) 1 0) x qs in
    let b = sum_by-cons (λ w. cond (ltb w k) 1 0) x qs in
    let c = sum_by-cons (λ w. cond (eqb w k) 1 0) x qs in
    let ih = below_more k qs in
    let o = below_one x k in
    omega (arith, a, b, c, ih, o)

below_none : (qs : List ℕ) → below 0 qs ≡ 0
unfolding below
below_none [] = refl
below_none (x ∷ qs) =
    let a = sum_by-cons (λ w. cond (ltb w 0) 1 0) x qs in
    let ih = below_none qs in
    let c = cond-false {A = ℕ} (ltb x 0) 1 0 (le-ltb x 0 (omega arith)) in
    omega (arith, a, ih, c)

module _ (qs : List ℕ) (once : (u : ℕ) → times u qs ≤ 1) where
  below_most : (k : ℕ) → below k qs ≤ k
  below_most zero = let a = below_none qs in omega (arith, a)
  below_most (suc k) = let a = below_more k qs in let ih = below_most k in let o = once k in omega (arith, a, ih, o)

  below_misses : (w : ℕ) → times w qs ≡ 0 → (k : ℕ) → w < k → below k qs < k
  below_misses w e zero h = absurd (let z : ⊥ = omega arith in z)
  below_misses w e (suc k) h =
      let a = below_more k qs in
      elim (cases_eq w k) [
        | inl q ↦ let m = below_most k in let t = ap (λ (y : ℕ). times y qs) q in omega (arith, a, m, t, e)
        | inr q ↦ let ih = below_misses w e k (omega arith) in let o = once k in omega (arith, a, ih, o)
      ]

below_all : (k : ℕ) (qs : List ℕ) → ((u : ℕ) → k ≤ u → times u qs ≡ 0) → below k qs ≡ length qs
unfolding below
below_all k [] h = refl
below_all k (x ∷ qs) h =
    let a = sum_by-cons (λ w. cond (ltb w k) 1 0) x qs in
    let ih = below_all k qs (λ u l. let b = sum_by-cons (λ w. cond (eqb w u) 1 0) x qs in let z = h u l in omega (arith, b, z)) in
    let small : x < k =
    ⊎_elim (λ (l : x < k). l)
    (λ (l : k ≤ x).
    let b = sum_by-cons (λ w. cond (eqb w x) 1 0) x qs in
    let z = h x l in
    let c = cond-true {A = ℕ} (eqb x x) 1 0 (eq-eqb x x refl) in
    absurd (let n : ⊥ = omega (arith, b, z, c) in n))
    (cases_lt x k) in
    let c = cond-true {A = ℕ} (ltb x k) 1 0 (lt-ltb x k small) in
    omega (arith, a, ih, c)

-- a queue that misses one of the places below k is shorter than k
pub short : (qs : List ℕ) (k w : ℕ) → ((u : ℕ) → times u qs ≤ 1) → ((u : ℕ) → k ≤ u → times u qs ≡ 0) → times w qs ≡ 0 → w < k → length qs < k
short qs k w once past e h = let a = below_all k qs past in let b = below_misses qs once w e k h in omega (arith, a, b)

only_most : (b : Bool) → only b 1 ≤ 1
only_most true = omega arith
only_most false = omega arith

-- an active point has excess
pub active_parts : (source sink : ℕ) (es : List ℕ) (u : ℕ) → active source sink es u ≡ true → (0 < get_or es u 0) × (u ≢ source) × (u ≢ sink)
unfolding active
active_parts source sink es u t =
    let a = and_parts (ltb 0 (get_or es u 0)) _ t in
    let b = and_parts (not (eqb u source)) (not (eqb u sink)) a.1 in
    (ltb-true 0 (get_or es u 0) a.0, eqb-false u source (not-true (eqb u source) b.0), eqb-false u sink (not-true (eqb u sink) b.1))

active_same : (source sink : ℕ) (es fs : List ℕ) (u : ℕ) → get_or es u 0 ≡ get_or fs u 0 → active source sink es u ≡ active source sink fs u
unfolding active
active_same source sink es fs u e = ap (λ (x : ℕ). ltb 0 x && (not (eqb u source) && not (eqb u sink))) e

pub active_none : (source sink : ℕ) (es : List ℕ) (u : ℕ) → get_or es u 0 ≡ 0 → active source sink es u ≡ false
unfolding active
active_none source sink es u e = first (get_or es u 0) (not (eqb u source) && not (eqb u sink)) e
  where
    first : (x : ℕ) (b : Bool) → x ≡ 0 → (ltb 0 x && b) ≡ false
    first x b e = grind (arith, nat_tests)

pub idle_none : (source sink : ℕ) (es : List ℕ) (u : ℕ) → active source sink es u ≡ false → u ≢ source → u ≢ sink → get_or es u 0 ≡ 0
unfolding active
idle_none source sink es u t a b = other (get_or es u 0) u source sink a b t
  where
    other : (x u s t : ℕ) → u ≢ s → u ≢ t → (ltb 0 x && (not (eqb u s) && not (eqb u t))) ≡ false → x ≡ 0
    other x u s t a b h = grind (arith, nat_tests)

module _ (source sink v : ℕ) (es qs : List ℕ) (l : Lined source sink v es qs) where
  pub line_short : (n : ℕ) → length es ≡ n + 1 → (w : ℕ) → w ≤ n → times w qs ≡ 0 → length qs ≤ n
  line_short n len w win e =
      let s = short qs (n + 1) w
      (λ u. let i = l.line u in let m = only_most (active source sink es u && not (eqb u v)) in omega (arith, i, m))
      (λ u h. l.line u ∙ gone (active source sink es u) (not (eqb u v)) (active_none source sink es u (get_or_past es u 0 (omega (arith, len, h)))))
      e (omega (arith, win)) in
      omega (arith, s)

  -- the point that is served is not in the queue
  pub line_served : times v qs ≡ 0
  line_served = l.line v ∙ off (active source sink es v) (eqb v v) (eq-eqb v v refl)

  pub line_idle : (w : ℕ) → get_or es w 0 ≡ 0 → times w qs ≡ 0
  line_idle w e = l.line w ∙ ap (λ (b : Bool). only (b && not (eqb w v)) 1) (active_none source sink es w e)

times_joined : (source sink had w u : ℕ) (qs : List ℕ) → times u (joined source sink had w qs) ≡ times u qs + only ((eqb had 0 && (not (eqb w source) && not (eqb w sink))) && eqb w u) 1
unfolding joined
times_joined source sink had w u qs = go (eqb had 0 && (not (eqb w source) && not (eqb w sink)))
  where
    turn : (b : Bool) → cond {A = ℕ} b 1 0 ≡ only b 1
    turn true = refl
    turn false = refl

    go : (b : Bool) → times u (cond b (qs ++ w ∷ []) qs) ≡ times u qs + only (b && eqb w u) 1
    go true = sum_by_push (λ y. cond (eqb y u) 1 0) qs w ∙ ap (λ (z : ℕ). times u qs + z) (turn (eqb w u))
    go false = omega arith

-- a push of something
module _ (source sink v w x : ℕ) (es qs : List ℕ) (ne : v ≢ w) (vin : v < length es) (win : w < length es) (some : 0 < x) where
  abbrev inner : Bool
  inner = not (eqb w source) && not (eqb w sink)

  line_here : (e f : ℕ) (i : Bool) → f ≡ e + x → only ((ltb 0 e && i) && true) 1 + only ((eqb e 0 && i) && true) 1 ≡ only ((ltb 0 f && i) && true) 1
  line_here e f true q = elim (cases_eq e 0) [
    | inl z ↦ rw (eq-eqb e 0 z, le-ltb 0 e (omega arith), lt-ltb 0 f (omega arith)) refl
    | inr z ↦ rw (ne_eqb e 0 z, lt-ltb 0 e (omega arith), lt-ltb 0 f (omega arith)) refl
  ]
  line_here e f false q = both (ltb 0 e) (eqb e 0) (ltb 0 f)
    where
      both : (a b c : Bool) → only ((a && false) && true) 1 + only ((b && false) && true) 1 ≡ only ((c && false) && true) 1
      both a b c = grind arith

  drop_last : (a b : Bool) (m : ℕ) → b ≡ false → m + only (a && b) 1 ≡ m
  drop_last a b m h = grind arith

  pub line_push : Lined source sink v es qs → Lined source sink v (shifted es v w x) (joined source sink (get_or es w 0) w qs)
  unfolding active
  line_push l = record {
    line = λ u.
        let fs : List ℕ = shifted es v w x in
        let t = times_joined source sink (get_or es w 0) w u qs in
        elim (cases_eq u w) [
          | inl e ↦
              let to = shifted_to es v w x ne win in
              let h = line_here (get_or es w 0) (get_or fs w 0) inner to in
              let nv : not (eqb w v) ≡ true = ap not (ne_eqb w v (λ q. ne (sym q))) in
              let same : eqb w w ≡ true = eq-eqb w w refl in
              let goal : times w (joined source sink (get_or es w 0) w qs) ≡ only (active source sink fs w && not (eqb w v)) 1 =
              times_joined source sink (get_or es w 0) w w qs
              ∙ ap₂ ◌+◌ (l.line w ∙ ap (λ (b : Bool). only (active source sink es w && b) 1) nv) (ap (λ (b : Bool). only ((eqb (get_or es w 0) 0 && inner) && b) 1) same)
              ∙ h ∙ ap (λ (b : Bool). only (active source sink fs w && b) 1) (sym nv) in
              subst (λ (y : ℕ). times y (joined source sink (get_or es w 0) w qs) ≡ only (active source sink fs y && not (eqb y v)) 1) (sym e) goal
          | inr n ↦
              let off : eqb w u ≡ false = ne_eqb w u (λ q. n (sym q)) in
              t ∙ drop_last (eqb (get_or es w 0) 0 && inner) (eqb w u) (times u qs) off ∙ l.line u ∙ rest u n
        ];
  }
    where
      rest : (u : ℕ) → u ≢ w → only (active source sink es u && not (eqb u v)) 1 ≡ only (active source sink (shifted es v w x) u && not (eqb u v)) 1
      rest u n = elim (cases_eq u v) [
        | inl e ↦ ap (λ (b : Bool). only (active source sink es u && not b) 1) (eq-eqb u v e) ∙ none (active source sink es u) (active source sink (shifted es v w x) u)
            ∙ sym (ap (λ (b : Bool). only (active source sink (shifted es v w x) u && not b) 1) (eq-eqb u v e))
        | inr m ↦ ap (λ (b : Bool). only (b && not (eqb u v)) 1) (active_same source sink es (shifted es v w x) u (sym (shifted_other es v w x ne u m n)))
      ]
        where
          none : (a b : Bool) → only (a && not true) 1 ≡ only (b && not true) 1
          none a b = grind arith

module _ (hs ds : List ℕ) (n v low source sink : ℕ) (ar : Arcs hs n) (vin : Within n v) (nv : get_or ds v 0 ≢ low) where
  pub scans_lined : (k : ℕ) (rs es qs : List ℕ) → length rs ≡ length hs → length es ≡ n + 1 → k ≤ length hs → 0 < get_or es v 0 → Lined source sink v es qs → Lined source sink v (scans hs ds source sink v low k rs es qs).1 (scans hs ds source sink v low k rs es qs).2
  unfolding scans
  scans_lined zero rs es qs lr le kin act l = l
  scans_lined (suc k) rs es qs lr le kin act l =
      let x : ℕ = min (get_or es v 0) (get_or rs k 0) in
      let w : ℕ = head_of hs k in
      let rs' : List ℕ = moved rs k x in
      let es' : List ℕ = shifted es v w x in
      let j : List ℕ = joined source sink (get_or es w 0) w qs in
      let P : Out → Type 0 = λ o. Lined source sink v o.1 o.2 in
      cond_both (apt hs ds v low k rs)
      (cond (eqb (get_or es' v 0) 0) (rs', es', j) (scans hs ds source sink v low k rs' es' j))
      (scans hs ds source sink v low k rs es qs) P
      (λ t.
      let one = apt_one hs ds n v low source sink ar vin nv k rs es lr le (omega arith) t in
      let q = apt_parts hs ds n v low source sink ar vin nv k rs t in
      let wide = q.1 in
      let most = ar.most k (omega arith) in
      let ne : v ≢ w = λ e. nv (ap (λ (y : ℕ). get_or ds y 0) e ∙ q.2) in
      let l' = line_push source sink v w x es qs ne (omega arith) (omega arith) (omega (arith, wide, act)) l in
      cond_both (eqb (get_or es' v 0) 0) (rs', es', j) (scans hs ds source sink v low k rs' es' j) P
      (λ z. l')
      (λ z. let nz = eqb-false (get_or es' v 0) 0 z in scans_lined k rs' es' j (one.same ∙ lr) (one.points ∙ le) (omega arith) (omega (arith, nz)) l'))
      (λ t. scans_lined k rs es qs lr le (omega arith) act l)

-- after the pushes v joins again, where it has excess left
pub held_again : (source sink v : ℕ) (es qs : List ℕ) → v ≢ source → v ≢ sink → Lined source sink v es qs → (u : ℕ) → times u (cond (ltb 0 (get_or es v 0)) (qs ++ v ∷ []) qs) ≡ only (active source sink es u) 1
unfolding active
held_again source sink v es qs ns nt l u =
    elim (cases_eq u v) [
      | inl e ↦
          let b : Bool = ltb 0 (get_or es v 0) in
          let goal : times v (cond b (qs ++ v ∷ []) qs) ≡ only (active source sink es v) 1 =
          with_v b (times_push v v) ∙ ap (λ (c : Bool). only (b && c) 1) (sym (both (eqb v source) (eqb v sink) (ne_eqb v source ns) (ne_eqb v sink nt))) in
          subst (λ (y : ℕ). times y (cond b (qs ++ v ∷ []) qs) ≡ only (active source sink es y) 1) (sym e) goal
      | inr n ↦ without (ltb 0 (get_or es v 0)) n ∙ l.line u ∙ free (active source sink es u) (eqb u v) (ne_eqb u v n)
    ]
  where
    times_push : (u w : ℕ) → times u (qs ++ w ∷ []) ≡ times u qs + cond (eqb w u) 1 0
    times_push u w = sum_by_push (λ y. cond (eqb y u) 1 0) qs w

    with_v : (b : Bool) → times v (qs ++ v ∷ []) ≡ times v qs + cond (eqb v v) 1 0 → times v (cond b (qs ++ v ∷ []) qs) ≡ only (b && true) 1
    with_v true p = let z = line_served source sink v es qs l in let c = cond-true {A = ℕ} (eqb v v) 1 0 (eq-eqb v v refl) in omega (arith, p, z, c)
    with_v false p = line_served source sink v es qs l

    both : (a b : Bool) → a ≡ false → b ≡ false → (not a && not b) ≡ true
    both a b p q = grind arith

    without : (b : Bool) → u ≢ v → times u (cond b (qs ++ v ∷ []) qs) ≡ times u qs
    without true n = let p = times_push u v in let c = cond-false {A = ℕ} (eqb v u) 1 0 (ne_eqb v u (λ q. n (sym q))) in omega (arith, p, c)
    without false n = refl

    free : (a b : Bool) → b ≡ false → only (a && not b) 1 ≡ only a 1
    free a b h = grind arith

-- the front of the queue leaves it
module _ (source sink v : ℕ) (es rest : List ℕ) (held : (u : ℕ) → times u (v ∷ rest) ≡ only (active source sink es u) 1) where
  cons : (u : ℕ) → times u (v ∷ rest) ≡ cond (eqb v u) 1 0 + times u rest
  cons u = sum_by-cons (λ y. cond (eqb y u) 1 0) v rest

  pub front_active : active source sink es v ≡ true
  front_active = must (active source sink es v) (let a = cons v in let b = held v in let c = cond-true {A = ℕ} (eqb v v) 1 0 (eq-eqb v v refl) in omega (arith, a, b, c))
    where
      must : (b : Bool) → 0 < only b 1 → b ≡ true
      must true h = refl
      must false h = absurd (let z : ⊥ = omega arith in z)

  pub front_lined : Lined source sink v es rest
  front_lined = record {
    line = λ u.
        elim (cases_eq u v) [
          | inl e ↦
              let a = cons v in
              let b = held v in
              let c = cond-true {A = ℕ} (eqb v v) 1 0 (eq-eqb v v refl) in
              let d = ap (λ (t : Bool). only t 1) front_active in
              let f = off (active source sink es v) (eqb v v) (eq-eqb v v refl) in
              let goal : times v rest ≡ only (active source sink es v && not (eqb v v)) 1 = omega (arith, a, b, c, d, f) in
              subst (λ (y : ℕ). times y rest ≡ only (active source sink es y && not (eqb y v)) 1) (sym e) goal
          | inr n ↦
              let a = cons u in
              let b = held u in
              let c = cond-false {A = ℕ} (eqb v u) 1 0 (ne_eqb v u (λ q. n (sym q))) in
              let f = on (active source sink es u) (eqb u v) (ne_eqb u v n) in
              omega (arith, a, b, c, f)
        ];
  }
    where
      on : (a b : Bool) → b ≡ false → only (a && not b) 1 ≡ only a 1
      on a b h = grind arith

-- the source is never active
pub source_idle : (source sink : ℕ) (fs : List ℕ) (u : ℕ) → only (active source sink fs u && not (eqb u source)) 1 ≡ only (active source sink fs u) 1
unfolding active
source_idle source sink fs u = twice (ltb 0 (get_or fs u 0)) (eqb u source) (eqb u sink)
  where
    twice : (a b c : Bool) → only ((a && (not b && not c)) && not b) 1 ≡ only (a && (not b && not c)) 1
    twice a b c = grind arith
