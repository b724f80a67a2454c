-- The turns: what each keeps, that they end, and in a largest flow.
use Rattle.std.proofs.Common.{◌≡◌, ℕ, zero, suc, ◌+◌, ◌-◌, ◌*◌, ◌%◌, ◌<◌, ◌≤◌, min, Bool, true, false, cond, not, ◌&&◌, eqb, ltb, ◌≢◌, ◌⊎◌, List, [], ◌∷◌, length, get_or, set, replicate, sym, refl, ap, ◌∙◌, subst, inl, inr, ⊎_elim, arith, length-set, get_or-set_other, get_or-set_same}
use Rattle.std.proofs.lemmas.List.{get_or_past, get_or-replicate, length-replicate}
use Rattle.std.proofs.lemmas.Bool.{eqb-true, ltb-true, lt-ltb, cases_Bool, cases_eq, cases_lt, cond-true, cond-false, cond_both, eq-eqb, ne_eqb, and_from, and_parts}
use Rattle.drawing.specs.Counts.{Within, only}
use Rattle.drawing.proofs.Sums.{sum_below}
use Rattle.residual.specs.Net.{head_of, tail_of, outs, Bounded}
use Rattle.residual.specs.Layers.{Layered}
use Rattle.preflow.specs.Push.{Out, active, scans, lows, serves}
use Rattle.preflow.specs.Turns.{State, flipped, aims, raised, refreshed, turned, turn, first_heights, first_excess, opening, after, states, turns_for, final}
use Rattle.preflow.specs.Fifo.{times, Held}
use Rattle.preflow.specs.Preflow.{whole, exc, Arcs, Ends, Lined, Preflow, Ended}
use Rattle.preflow.proofs.Sums.{sum_lone, sum_two, term_le, sum_most, term, mu, term_lift, term_most}
use Rattle.residual.proofs.Moves.{cond_add}
use Rattle.residual.proofs.Terminals.{none_met}
use Rattle.preflow.proofs.Kept.{scans_kept, scans_some, scans_closed, apt_from}
use Rattle.preflow.proofs.Gap.{active_low}
use Rattle.preflow.proofs.Heights.{la, unreached, aimed, closed, raised_valid, raised_high, raised_ground, raised_low, raised_up, raised_length}
use Rattle.preflow.proofs.Lines.{gone, off, active_parts, active_none, idle_none, scans_lined, held_again, front_active, front_lined, source_idle}

-- the least height that v can push to
module _ (hs rs ds : List ℕ) (v : ℕ) where
  abbrev opened : ℕ → Bool
  opened k = eqb (tail_of hs k) v && ltb 0 (get_or rs k 0)

  pub lows_le : (k low : ℕ) → lows hs rs ds v k low ≤ low
  unfolding lows
  lows_le zero low = omega arith
  lows_le (suc k) low =
      let ih = lows_le k (cond (opened k) (min low (get_or ds (head_of hs k) 0)) low) in
      let c = cond_both (opened k) (min low (get_or ds (head_of hs k) 0)) low (λ (x : ℕ). x ≤ low) (λ t. omega arith) (λ t. omega arith) in
      omega (arith, ih, c)

  pub lows_least : (k low a : ℕ) → a < k → tail_of hs a ≡ v → 0 < get_or rs a 0 → lows hs rs ds v k low ≤ get_or ds (head_of hs a) 0
  unfolding lows
  lows_least zero low a h t w = absurd (let z : ⊥ = omega arith in z)
  lows_least (suc k) low a h t w =
      elim (cases_eq a k) [
        | inl e ↦
            let tk : tail_of hs k ≡ v = subst (λ (x : ℕ). tail_of hs x ≡ v) e t in
            let wk : 0 < get_or rs k 0 = subst (λ (x : ℕ). 0 < get_or rs x 0) e w in
            let c : cond (opened k) (min low (get_or ds (head_of hs k) 0)) low ≡ min low (get_or ds (head_of hs k) 0) = cond-true _ _ _ (and_from _ _ (eq-eqb (tail_of hs k) v tk) (lt-ltb 0 (get_or rs k 0) wk)) in
            let l = lows_le k (cond (opened k) (min low (get_or ds (head_of hs k) 0)) low) in
            let q = ap (λ (x : ℕ). get_or ds (head_of hs x) 0) e in
            omega (arith, c, l, q)
        | inr n ↦ lows_least k (cond (opened k) (min low (get_or ds (head_of hs k) 0)) low) a (omega arith) t w
      ]

  pub record Lowest (k r : ℕ) : Type 0 where
    pub arc : ℕ
    pub within : arc < k
    pub from : tail_of hs arc ≡ v
    pub wide : 0 < get_or rs arc 0
    pub to : get_or ds (head_of hs arc) 0 ≡ r

  pub lows_from : (k low : ℕ) → (lows hs rs ds v k low ≡ low) ⊎ Lowest k (lows hs rs ds v k low)
  unfolding lows
  lows_from zero low = inl refl
  lows_from (suc k) low =
      let m : ℕ = cond (opened k) (min low (get_or ds (head_of hs k) 0)) low in
      ⊎_elim
      (λ e.
      elim (cases_Bool (opened k)) [
        | inl t ↦
            let p = and_parts (eqb (tail_of hs k) v) (ltb 0 (get_or rs k 0)) t in
            let c : m ≡ min low (get_or ds (head_of hs k) 0) = cond-true (opened k) (min low (get_or ds (head_of hs k) 0)) low t in
            ⊎_elim
            (λ less. inr (record { arc = k; within = omega arith; from = eqb-true (tail_of hs k) v p.0; wide = ltb-true 0 (get_or rs k 0) p.1; to = omega (arith, e, c, less) }))
            (λ more. inl (omega (arith, e, c, more)))
            (cases_lt (get_or ds (head_of hs k) 0) low)
        | inr f ↦ inl (e ∙ cond-false (opened k) (min low (get_or ds (head_of hs k) 0)) low f)
      ])
      (λ x. let i = x.within in inr (record { arc = x.arc; within = omega (arith, i); from = x.from; wide = x.wide; to = x.to }))
      (lows_from k m)

-- the lists that the code makes first
module _ (n source sink : ℕ) (en : Ends n source sink) where
  zs : List ℕ
  zs = replicate (n + 1) 0

  long : length zs ≡ n + 1
  unfolding zs
  long = length-replicate {A = ℕ} (n + 1) 0

  zat : (u : ℕ) → get_or zs u 0 ≡ 0
  unfolding zs
  zat u = ⊎_elim (λ h. get_or-replicate (n + 1) u 0 0 h) (λ h. get_or_past (replicate (n + 1) 0) u 0 (let l = length-replicate {A = ℕ} (n + 1) 0 in omega (arith, l, h))) (cases_lt u (n + 1))

  within : source < length zs
  within = let l = long in let m = en.source_most in omega (arith, l, m)

  pub first_length : (x : ℕ) → length (set (replicate (n + 1) 0) source x) ≡ n + 1
  unfolding zs
  first_length x = length-set (replicate (n + 1) 0) source x ∙ long

  pub first_source : (x : ℕ) → get_or (set (replicate (n + 1) 0) source x) source 0 ≡ x
  unfolding zs
  first_source x = get_or-set_same (replicate (n + 1) 0) source x 0 within

  pub first_other : (x u : ℕ) → u ≢ source → get_or (set (replicate (n + 1) 0) source x) u 0 ≡ 0
  unfolding zs
  first_other x u q = get_or-set_other (replicate (n + 1) 0) source u x 0 q ∙ zat u

  pub first_whole : whole (first_excess n source) n ≡ 1800000001
  first_whole = sum_lone (λ u. get_or (first_excess n source) u 0) source n (en.source_some, en.source_most) (λ u q. first_other 1800000001 u q) ∙ first_source 1800000001

  pub first_lined : Lined source sink source (first_excess n source) []
  first_lined = record { line = λ w. sym (elim (cases_eq w source) [ inl e ↦ off (active source sink (first_excess n source) w) (eqb w source) (eq-eqb w source e) | inr e ↦ gone (active source sink (first_excess n source) w) (not (eqb w source)) (active_none source sink (first_excess n source) w (first_other 1800000001 w e)) ]) }

cond_nought : (b : Bool) (x : ℕ) → x ≡ 0 → cond b x 0 ≡ 0
cond_nought true x e = e
cond_nought false x e = refl

module _ (hs rs₀ : List ℕ) (n source sink : ℕ) (ar : Arcs hs n) (en : Ends n source sink) (len₀ : length rs₀ ≡ length hs) (small : n ≤ 128) where
  sin : Within n source
  sin = (en.source_some, en.source_most)

  tin : Within n sink
  tin = (en.sink_some, en.sink_most)

  -- where no point is active the flow is a largest one
  pub idle_ended : (rs es ds : List ℕ) → Preflow hs rs₀ n source sink rs es ds → ((w : ℕ) → active source sink es w ≡ false) → Ended hs source sink rs₀ rs (aims hs rs n source sink) (get_or es sink 0)
  idle_ended rs es ds f idle =
      let lr : length rs ≡ length hs = f.same ∙ len₀ in
      let pts = f.points in
      let zeroed : (u : ℕ) → u ≢ source → u ≢ sink → get_or es u 0 ≡ 0 = λ u a b. idle_none source sink es u (idle u) a b in
      let all = f.all in
      let two = sum_two (λ u. get_or es u 0) source sink n sin tin en.apart zeroed in
      let T : ℕ = get_or es sink 0 in
      record {
        sent = record {
          same = f.same;
          pairs = f.pairs;
          flow = λ p.
              let q = f.flow p in
              let e = sum_two (λ u. cond (p u) (get_or es u 0) 0) source sink n sin tin en.apart (λ u a b. cond_nought (p u) (get_or es u 0) (zeroed u a b)) in
              let s : 1800000001 ≡ get_or es source 0 + T = omega (arith, all, two) in
              let c : cond (p source) 1800000001 0 ≡ cond (p source) (get_or es source 0) 0 + cond (p source) T 0 = ap (λ (x : ℕ). cond (p source) x 0) s ∙ cond_add (p source) (get_or es source 0) T in
              omega (arith, q, e, c);
        };
        near = unreached hs rs n source sink ar en lr small ds f.high f.ground f.valid;
        far = aimed hs rs n source sink ar en lr small ds f.high f.ground f.valid;
        shut = λ a h w p. (closed hs rs n source sink ar en lr small ds f.high f.ground f.valid a h w p).0;
      }

  -- the search raises heights
  pub refresh_pre : (rs es ds : List ℕ) (k : ℕ) → Preflow hs rs₀ n source sink rs es ds → Preflow hs rs₀ n source sink rs es (refreshed hs n source sink k rs ds) × (mu n es (refreshed hs n source sink k rs ds) ≤ mu n es ds) × ((u : ℕ) → u ≤ n → get_or ds u 0 ≤ get_or (refreshed hs n source sink k rs ds) u 0)
  unfolding refreshed
  refresh_pre rs es ds k f =
      let lr : length rs ≡ length hs = f.same ∙ len₀ in
      let ld = f.heights in
      let all = f.all in
      let up : List ℕ = raised n (aims hs rs n source sink) ds in
      let P : List ℕ → Type 0 = λ y. Preflow hs rs₀ n source sink rs es y × (mu n es y ≤ mu n es ds) × ((u : ℕ) → u ≤ n → get_or ds u 0 ≤ get_or y u 0) in
      let good : P up = (
        record {
          same = f.same;
          points = f.points;
          heights = raised_length n (aims hs rs n source sink) ds;
          pairs = f.pairs;
          flow = f.flow;
          all = f.all;
          void = f.void;
          valid = raised_valid hs rs n source sink ar en lr small ds f.high f.ground f.valid;
          high = raised_high hs rs n source sink ar en lr small ds f.high f.ground f.valid;
          ground = raised_ground hs rs n source sink ar en lr small ds f.high f.ground f.valid;
          low = λ u. raised_low hs rs n source sink ar en lr small ds f.high f.ground f.valid u (f.low u);
        },
        sum_below n (λ u. term n (get_or es u 0) (get_or up u 0)) (λ u. term n (get_or es u 0) (get_or ds u 0))
            (λ u h.
            let e = term_le (λ y. get_or es y 0) u n h in
            term_lift n (get_or es u 0) (get_or ds u 0) (get_or up u 0) (omega (arith, e, all))
            (raised_up hs rs n source sink ar en lr small ds f.high f.ground f.valid u h.1)
            (raised_low hs rs n source sink ar en lr small ds f.high f.ground f.valid u (f.low u))),
        raised_up hs rs n source sink ar en lr small ds f.high f.ground f.valid,
      ) in
      cond_both (eqb (k % 128) 127) up ds P (λ t. good) (λ t. (f, omega arith, λ u h. omega arith))

  -- v is lifted
  pub lift_pre : (rs es ds : List ℕ) → Preflow hs rs₀ n source sink rs es ds → (v : ℕ) → Within n v → active source sink es v ≡ true → (low : ℕ) → lows hs rs ds v (length hs) 1000 ≡ low
      → Preflow hs rs₀ n source sink rs es (set ds v (low + 1)) × (mu n es (set ds v (low + 1)) ≤ mu n es ds) × Lowest hs rs ds v (length hs) low × ((u : ℕ) → get_or ds u 0 ≤ get_or (set ds v (low + 1)) u 0)
  lift_pre rs es ds f v vin bu low le =
      let bp = active_parts source sink es v bu in
      let act = bp.0 in
      let nsrc = bp.1 in
      let nsnk = bp.2 in
      let lv = f.low v in
      let all = f.all in
      let ds' : List ℕ = set ds v (low + 1) in
      let ldv = f.heights in
      let here : get_or ds' v 0 ≡ low + 1 = get_or-set_same ds v (low + 1) 0 (omega (arith, ldv, vin)) in
      let other : (u : ℕ) → u ≢ v → get_or ds' u 0 ≡ get_or ds u 0 = λ u q. get_or-set_other ds v u (low + 1) 0 q in
      let from : (low ≡ 1000) ⊎ Lowest hs rs ds v (length hs) low = subst (λ (x : ℕ). (x ≡ 1000) ⊎ Lowest hs rs ds v (length hs) x) le (lows_from hs rs ds v (length hs) 1000) in
      let rise : get_or ds v 0 ≤ low + 1 =
      ⊎_elim (λ e. omega (arith, e, lv, small))
      (λ x. let s = f.valid.steep x.arc x.within x.wide in let t = ap (λ (y : ℕ). get_or ds y 0) x.from in let u = x.to in omega (arith, s, t, u)) from in
      let valid : (a : ℕ) → a < length hs → 0 < get_or rs a 0 → get_or ds' (tail_of hs a) 0 ≤ get_or ds' (head_of hs a) 0 + 1 = λ a h w.
      let s = f.valid.steep a h w in
      elim (cases_eq (tail_of hs a) v) [
        | inl t ↦
            let l = lows_least hs rs ds v (length hs) 1000 a h t w in
            let tq : get_or ds' (tail_of hs a) 0 ≡ low + 1 = ap (λ (y : ℕ). get_or ds' y 0) t ∙ here in
            elim (cases_eq (head_of hs a) v) [
              | inl q ↦ let hq : get_or ds' (head_of hs a) 0 ≡ low + 1 = ap (λ (y : ℕ). get_or ds' y 0) q ∙ here in omega (arith, tq, hq)
              | inr q ↦ let hq = other (head_of hs a) q in omega (arith, tq, hq, l, le)
            ]
        | inr t ↦
            let tq = other (tail_of hs a) t in
            elim (cases_eq (head_of hs a) v) [
              | inl q ↦ let hq : get_or ds' (head_of hs a) 0 ≡ low + 1 = ap (λ (y : ℕ). get_or ds' y 0) q ∙ here in let dq = ap (λ (y : ℕ). get_or ds y 0) q in omega (arith, tq, hq, dq, s, rise)
              | inr q ↦ let hq = other (head_of hs a) q in omega (arith, tq, hq, s)
            ]
      ] in
      let high : get_or ds' source 0 ≡ n = other source (λ q. nsrc (sym q)) ∙ f.high in
      let top = active_low hs rs₀ rs es ds' n source 1800000001 ar f.pairs f.flow valid sin high v vin act in
      let low_up : (u : ℕ) → get_or ds' u 0 ≤ n + n = λ u. ⊎_elim (λ q. let z = ap (λ (y : ℕ). get_or ds' y 0) q in omega (arith, z, top)) (λ q. let z = other u q in let y = f.low u in omega (arith, z, y)) (cases_eq u v) in
      let ups : (u : ℕ) → get_or ds u 0 ≤ get_or ds' u 0 = λ u. ⊎_elim (λ q. let z = ap (λ (y : ℕ). get_or ds' y 0) q in let y = ap (λ (y : ℕ). get_or ds y 0) q in omega (arith, z, y, here, rise)) (λ q. let z = other u q in omega (arith, z)) (cases_eq u v) in (
        record {
          same = f.same;
          points = f.points;
          heights = length-set ds v (low + 1) ∙ f.heights;
          pairs = f.pairs;
          flow = f.flow;
          all = f.all;
          void = f.void;
          valid = record { steep = valid };
          high = high;
          ground = other sink (λ q. nsnk (sym q)) ∙ f.ground;
          low = low_up;
        },
        sum_below n (λ u. term n (get_or es u 0) (get_or ds' u 0)) (λ u. term n (get_or es u 0) (get_or ds u 0))
            (λ u h.
            let e = term_le (λ y. get_or es y 0) u n h in
            term_lift n (get_or es u 0) (get_or ds u 0) (get_or ds' u 0) (omega (arith, e, all))
            (ups u) (low_up u)),
        ⊎_elim (λ e. absurd (let z : ⊥ = omega (arith, e, here, top, small) in z)) (λ x. x) from,
        ups,
      )

  -- one turn's pushes
  pub serve_pre : (rs es ds : List ℕ) → Preflow hs rs₀ n source sink rs es ds → (v : ℕ) → Within n v → active source sink es v ≡ true → (low : ℕ) → lows hs rs ds v (length hs) 1000 ≡ low → (qs : List ℕ) → Lined source sink v es qs
      → Preflow hs rs₀ n source sink (serves hs (set ds v (low + 1)) source sink v low rs es qs).0 (serves hs (set ds v (low + 1)) source sink v low rs es qs).1 (set ds v (low + 1)) × (mu n (serves hs (set ds v (low + 1)) source sink v low rs es qs).1 (set ds v (low + 1)) < mu n es ds) × ((u : ℕ) → times u (serves hs (set ds v (low + 1)) source sink v low rs es qs).2 ≡ only (active source sink (serves hs (set ds v (low + 1)) source sink v low rs es qs).1 u) 1)
  unfolding serves
  serve_pre rs es ds f v vin bu low le qs line =
      let L = lift_pre rs es ds f v vin bu low le in
      let g = L.0 in
      let fell = L.1 in
      let x = L.2 in
      let bp = active_parts source sink es v bu in
      let act = bp.0 in
      let ds' : List ℕ = set ds v (low + 1) in
      let ldv = f.heights in
      let lr : length rs ≡ length hs = f.same ∙ len₀ in
      let here : get_or ds' v 0 ≡ low + 1 = get_or-set_same ds v (low + 1) 0 (omega (arith, ldv, vin)) in
      let nv : get_or ds' v 0 ≢ low = λ q. omega (arith, q, here) in
      let o : Out = scans hs ds' source sink v low (length hs) rs es qs in
      let k = scans_kept hs ds' n v low source sink ar vin nv (length hs) rs es qs lr f.points (omega arith) in
      -- the lowest point is another than v
      let xt = x.to in
      let xr = ap (λ (y : ℕ). get_or ds y 0) x.from in
      let hv : head_of hs x.arc ≢ v = λ q. ar.loopless x.arc x.within (q ∙ sym x.from) in
      let to : get_or ds' (head_of hs x.arc) 0 ≡ low = get_or-set_other ds v (head_of hs x.arc) (low + 1) 0 hv ∙ xt in
      let some = scans_some hs ds' n v low source sink ar vin nv (length hs) rs es qs lr f.points (omega arith) act x.arc x.within (apt_from hs ds' n v low source sink ar vin nv x.arc rs x.from x.wide to) in
      let falls = k.falls here in (
        record {
          same = k.same ∙ f.same;
          points = k.points ∙ f.points;
          heights = g.heights;
          pairs = λ a. k.pairs a ∙ f.pairs a;
          flow = λ p. let a = k.flow p in let b = f.flow p in omega (arith, a, b);
          all = k.all ∙ f.all;
          void = k.void ∙ f.void;
          valid = record {
            steep = λ a h w.
                ⊎_elim (λ y. g.valid.steep a h y)
                (λ y. let d = y.0 in let e = ap (λ (z : ℕ). get_or ds' z 0) y.1 in omega (arith, d, e, here))
                (k.opens a w);
          };
          high = g.high;
          ground = g.ground;
          low = g.low;
        },
        omega (arith, falls, some, fell),
        held_again source sink v o.1 o.2 bp.1 bp.2 (scans_lined hs ds' n v low source sink ar vin nv (length hs) rs es qs lr f.points (omega arith) act line),
      )

  -- the source sends all that it can
  pub start_pre : outs (λ u. eqb u source) hs rs₀ (length hs) ≤ 1800000000
      → Preflow hs rs₀ n source sink (scans hs (first_heights n source) source sink source 0 (length hs) rs₀ (first_excess n source) []).0 (scans hs (first_heights n source) source sink source 0 (length hs) rs₀ (first_excess n source) []).1 (first_heights n source)
      × ((u : ℕ) → times u (scans hs (first_heights n source) source sink source 0 (length hs) rs₀ (first_excess n source) []).2 ≡ only (active source sink (scans hs (first_heights n source) source sink source 0 (length hs) rs₀ (first_excess n source) []).1 u) 1)
  start_pre room =
      let ds : List ℕ = first_heights n source in
      let es : List ℕ = first_excess n source in
      let some = en.source_some in
      let dsrc : get_or ds source 0 ≡ n = first_source n source sink en n in
      let esrc : get_or es source 0 ≡ 1800000001 = first_source n source sink en 1800000001 in
      let doff : (u : ℕ) → u ≢ source → get_or ds u 0 ≡ 0 = first_other n source sink en n in
      let eoff : (u : ℕ) → u ≢ source → get_or es u 0 ≡ 0 = first_other n source sink en 1800000001 in
      let le : length es ≡ n + 1 = first_length n source sink en 1800000001 in
      let nv : get_or ds source 0 ≢ 0 = λ q. let m = en.source_most in omega (arith, q, dsrc, some, m) in
      let o : Out = scans hs ds source sink source 0 (length hs) rs₀ es [] in
      let k = scans_kept hs ds n source 0 source sink ar sin nv (length hs) rs₀ es [] len₀ le (omega arith) in
      let flow : (p : ℕ → Bool) → outs p hs o.0 (length hs) + cond (p source) 1800000001 0 ≡ outs p hs rs₀ (length hs) + exc p o.1 n = λ p.
      let a = k.flow p in
      let b = sum_lone (λ u. cond (p u) (get_or es u 0) 0) source n sin (λ u q. cond_nought (p u) (get_or es u 0) (eoff u q)) in
      let c = ap (λ (x : ℕ). cond (p source) x 0) esrc in
      omega (arith, a, b, c) in
      let left : 0 < get_or o.1 source 0 =
      let p : ℕ → Bool = λ u. eqb u source in
      let a = flow p in
      let b = sum_lone (λ u. cond (eqb u source) (get_or o.1 u 0) 0) source n sin (λ u q. cond-false (eqb u source) (get_or o.1 u 0) 0 (ne_eqb u source q)) in
      let c = cond-true (eqb source source) (get_or o.1 source 0) 0 (eq-eqb source source refl) in
      let d = cond-true {A = ℕ} (eqb source source) 1800000001 0 (eq-eqb source source refl) in
      omega (arith, a, b, c, d, room) in (
        record {
          same = k.same;
          points = k.points ∙ le;
          heights = first_length n source sink en n;
          pairs = k.pairs;
          flow = flow;
          all = k.all ∙ first_whole n source sink en;
          void = k.void ∙ eoff 0 (λ q. omega (arith, q, some));
          valid = record {
            steep = λ a h w.
                elim (cases_eq (tail_of hs a) source) [
                  | inl t ↦
                      let hz : get_or ds (head_of hs a) 0 ≡ 0 = doff (head_of hs a) (λ q. ar.loopless a h (q ∙ sym t)) in
                      let z = scans_closed hs ds n source 0 source sink ar sin nv (length hs) rs₀ es [] len₀ le (omega arith) left a h t hz in
                      absurd (let b : ⊥ = omega (arith, z, w) in b)
                  | inr t ↦ let z = doff (tail_of hs a) t in omega (arith, z)
                ];
          };
          high = dsrc;
          ground = doff sink (λ q. en.apart (sym q));
          low = λ u. ⊎_elim (λ q. let z = ap (λ (y : ℕ). get_or ds y 0) q in omega (arith, z, dsrc)) (λ q. let z = doff u q in omega (arith, z)) (cases_eq u source);
        },
        λ u. (scans_lined hs ds n source 0 source sink ar sin nv (length hs) rs₀ es [] len₀ le (omega arith) (omega (arith, esrc))
            (first_lined n source sink en)).line u
            ∙ source_idle source sink o.1 u,
      )

  -- after the opening, and after each turn
  pub record Sound (s : State) : Type 0 where
    pub pre : Preflow hs rs₀ n source sink s.left s.excess s.height
    pub held : Held source sink s

  pub opening_sound : outs (λ u. eqb u source) hs rs₀ (length hs) ≤ 1800000000 → Sound (opening hs n source sink rs₀)
  unfolding opening
  opening_sound room = let q = start_pre room in record { pre = q.0; held = q.1 }

  -- the front of the queue is an active one of the points
  pub front_within : (s : State) → Sound s → (v : ℕ) (rest : List ℕ) → s.queue ≡ v ∷ rest → Within n v × (active source sink s.excess v ≡ true) × Lined source sink v s.excess rest
  front_within s f v rest e =
      let held : (u : ℕ) → times u (v ∷ rest) ≡ only (active source sink s.excess u) 1 = λ u. ap (times u) (sym e) ∙ f.held u in
      let act = front_active source sink v s.excess rest held in
      let pos = (active_parts source sink s.excess v act).0 in
      let pts = f.pre.points in
      let some : 0 < v = ⊎_elim (λ (q : v ≡ 0). let z = ap (λ (y : ℕ). get_or s.excess y 0) q in let y = f.pre.void in absurd (let b : ⊥ = omega (arith, z, y, pos) in b)) (λ (q : v ≢ 0). omega arith) (cases_eq v 0) in
      let most : v ≤ n = ⊎_elim (λ (q : v < n + 1). omega arith) (λ (q : n + 1 ≤ v). let z = get_or_past s.excess v 0 (omega (arith, pts, q)) in absurd (let b : ⊥ = omega (arith, z, pos) in b)) (cases_lt v (n + 1)) in
      ((some, most), act, front_lined source sink v s.excess rest held)

  pub record Turned (s t : State) : Type 0 where
    pub sound : Sound t
    pub falls : mu n t.excess t.height < mu n s.excess s.height
    pub rises : (u : ℕ) → u ≤ n → get_or s.height u 0 ≤ get_or t.height u 0

  pub turned_sound : (s : State) → Sound s → (k v : ℕ) (rest : List ℕ) → s.queue ≡ v ∷ rest → Turned s (turned hs n source sink k v s.left s.excess s.height rest)
  unfolding turned
  turned_sound s f k v rest e =
      let w = front_within s f v rest e in
      let R = refresh_pre s.left s.excess s.height k f.pre in
      let up : List ℕ = refreshed hs n source sink k s.left s.height in
      let less = R.1 in
      let low : ℕ = lows hs s.left up v (length hs) 1000 in
      let L = lift_pre s.left s.excess up R.0 v w.0 w.1 low refl in
      let S = serve_pre s.left s.excess up R.0 v w.0 w.1 low refl rest w.2 in
      let fell = S.1 in
      record {
        sound = record { pre = S.0; held = S.2 };
        falls = omega (arith, fell, less);
        rises = λ u h. let a = R.2 u h in let b = L.3 u in omega (arith, a, b);
      }

  module _ (room : outs (λ u. eqb u source) hs rs₀ (length hs) ≤ 1800000000) where
    abbrev at : ℕ → State
    at k = states hs n source sink rs₀ k

    turn_sound : (s : State) → Sound s → (k : ℕ) (qs : List ℕ) → s.queue ≡ qs → Sound (turn hs n source sink k s qs)
    unfolding turn
    turn_sound s f k [] e = f
    turn_sound s f k (v ∷ rest) e = (turned_sound s f k v rest e).sound

    pub states_sound : (k : ℕ) → Sound (at k)
    unfolding after
    states_sound zero = opening_sound room
    states_sound (suc k) = turn_sound (at k) (states_sound k) k (at k).queue refl

    turn_front : (s : State) (k v : ℕ) (rest qs : List ℕ) → qs ≡ v ∷ rest → turn hs n source sink k s qs ≡ turned hs n source sink k v s.left s.excess s.height rest
    unfolding turn
    turn_front s k v rest qs e = subst (λ (y : List ℕ). turn hs n source sink k s y ≡ turned hs n source sink k v s.left s.excess s.height rest) (sym e) refl

    turn_idle : (s : State) (k : ℕ) (qs : List ℕ) → qs ≡ [] → turn hs n source sink k s qs ≡ s
    unfolding turn
    turn_idle s k qs e = subst (λ (y : List ℕ). turn hs n source sink k s y ≡ s) (sym e) refl

    pub states_front : (k v : ℕ) (rest : List ℕ) → (at k).queue ≡ v ∷ rest → at (suc k) ≡ turned hs n source sink k v (at k).left (at k).excess (at k).height rest
    unfolding after
    states_front k v rest e = turn_front (at k) k v rest (at k).queue e

    pub states_idle : (k : ℕ) → (at k).queue ≡ [] → at (suc k) ≡ at k
    unfolding after
    states_idle k e = turn_idle (at k) k (at k).queue e

    -- nothing more is done once no point is active
    pub states_rest : (k j : ℕ) → (at k).queue ≡ [] → at (j + k) ≡ at k
    states_rest k zero e = ap at (let q : 0 + k ≡ k = omega arith in q)
    states_rest k (suc j) e =
        let ih = states_rest k j e in
        let one : suc j + k ≡ suc (j + k) = omega arith in
        ap at one ∙ states_idle (j + k) (ap (λ (s : State). s.queue) ih ∙ e) ∙ ih

    Run : ℕ → Type 0
    Run k = ((at k).queue ≡ []) ⊎ (mu n (at k).excess (at k).height + k ≤ mu n (at 0).excess (at 0).height)

    run_more : (k : ℕ) (qs : List ℕ) → (at k).queue ≡ qs → mu n (at k).excess (at k).height + k ≤ mu n (at 0).excess (at 0).height → Run (suc k)
    unfolding Run
    run_more k [] e le = inl (ap (λ (s : State). s.queue) (states_idle k e) ∙ e)
    run_more k (v ∷ rest) e le =
        let f = (turned_sound (at k) (states_sound k) k v rest e).falls in
        let q = states_front k v rest e in
        let m : mu n (at (suc k)).excess (at (suc k)).height < mu n (at k).excess (at k).height = subst (λ (s : State). mu n s.excess s.height < mu n (at k).excess (at k).height) (sym q) f in
        inr (omega (arith, m, le))

    run_all : (k : ℕ) → Run k
    unfolding Run
    run_all zero = inr (omega arith)
    run_all (suc k) =
        ⊎_elim (λ e. inl (ap (λ (s : State). s.queue) (states_idle k e) ∙ e)) (λ le. run_more k (at k).queue refl le) (run_all k)

    mu_most : (s : State) → Sound s → mu n s.excess s.height < turns_for n
    unfolding turns_for
    mu_most s f =
        let all = f.pre.all in
        let a = sum_most (λ u. term n (get_or s.excess u 0) (get_or s.height u 0)) (1800000001 * (n + n)) n
        (λ u h. let e = term_le (λ y. get_or s.excess y 0) u n h in term_most n (get_or s.excess u 0) (get_or s.height u 0) (omega (arith, e, all)) (f.pre.low u)) in
        omega (arith, a)

    -- the turns suffice
    pub final_idle : (final hs n source sink rs₀).queue ≡ []
    unfolding Run
    final_idle =
        let m = mu_most (at 0) (states_sound 0) in
        ⊎_elim (λ e. e) (λ le. absurd (let z : ⊥ = omega (arith, m, le) in z)) (run_all (turns_for n))

    pub idle_all : (k : ℕ) → (at k).queue ≡ [] → (u : ℕ) → active source sink (at k).excess u ≡ false
    idle_all k e u = none_met (active source sink (at k).excess u) (sym ((states_sound k).held u) ∙ ap (times u) e)

    pub final_ended : Ended hs source sink rs₀ (final hs n source sink rs₀).left (aims hs (final hs n source sink rs₀).left n source sink) (get_or (final hs n source sink rs₀).excess sink 0)
    final_ended = idle_ended _ _ (final hs n source sink rs₀).height (states_sound (turns_for n)).pre (idle_all (turns_for n) final_idle)

    pub final_layered : Layered hs (flipped (final hs n source sink rs₀).left) sink source (aims hs (final hs n source sink rs₀).left n source sink)
    final_layered =
        let f = (states_sound (turns_for n)).pre in
        la hs (final hs n source sink rs₀).left n source sink ar en (f.same ∙ len₀) small (final hs n source sink rs₀).height f.high f.ground f.valid

    -- a state without active points is the last one
    pub final_is : (k : ℕ) → k ≤ turns_for n → (at k).queue ≡ [] → final hs n source sink rs₀ ≡ at k
    final_is k h e = let q : turns_for n ≡ (turns_for n - k) + k = omega arith in ap at q ∙ states_rest k (turns_for n - k) e

    -- what a turn of the loop needs of the state before it
    pub ready : Bounded rs₀ → (k : ℕ) (s : State) → s ≡ at k → Bounded s.left × (whole s.excess n ≤ 1800000001) × Sound s
    ready b k s e =
        let f : Sound s = subst Sound (sym e) (states_sound k) in
        let all = f.pre.all in
        (record { bound = λ a h. let p = f.pre.pairs a in let l = f.pre.same in let q = b.bound a (omega (arith, l, h)) in omega (arith, p, q) }, omega (arith, all), f)

-- one turn more
pub after_front : (hs : List ℕ) (n source sink : ℕ) (s₀ : State) (k : ℕ) (s : State) (v : ℕ) (rest : List ℕ) → s ≡ after hs n source sink s₀ k → s.queue ≡ v ∷ rest → after hs n source sink s₀ (k + 1) ≡ turned hs n source sink k v s.left s.excess s.height rest
unfolding after turn
after_front hs n source sink s₀ k s v rest e q =
    let one : k + 1 ≡ suc k = omega arith in
    ap (after hs n source sink s₀) one
    ∙ ap (λ (x : State). turn hs n source sink k x x.queue) (sym e)
    ∙ ap (turn hs n source sink k s) q

pub after_none : (hs : List ℕ) (n source sink : ℕ) (s₀ : State) → s₀ ≡ after hs n source sink s₀ 0
unfolding after
after_none hs n source sink s₀ = refl

-- the state after the source's pushes, as the code has it
pub opening_is : (hs : List ℕ) (n source sink : ℕ) (rs ds es qs rs' es' qs' : List ℕ) → ds ≡ first_heights n source → es ≡ first_excess n source → qs ≡ [] → scans hs ds source sink source 0 (length hs) rs es qs ≡ (rs', es', qs')
    → ◌≡◌ {A = State} (record { left = rs'; excess = es'; height = ds; queue = qs' }) (opening hs n source sink rs)
unfolding opening
opening_is hs n source sink rs ds es qs rs' es' qs' d e q o =
    let F : List ℕ → Out → State = λ y x. record { left = x.0; excess = x.1; height = y; queue = x.2 } in
    ap (F ds) (sym o)
    ∙ ap (λ (y : List ℕ). F ds (scans hs ds source sink source 0 (length hs) rs es y)) q
    ∙ ap (λ (y : List ℕ). F ds (scans hs ds source sink source 0 (length hs) rs y [])) e
    ∙ ap (λ (y : List ℕ). F y (scans hs y source sink source 0 (length hs) rs (first_excess n source) [])) d

pub opening_height : (hs : List ℕ) (n source sink : ℕ) (rs : List ℕ) → (states hs n source sink rs 0).height ≡ first_heights n source
unfolding opening after
opening_height hs n source sink rs = refl
