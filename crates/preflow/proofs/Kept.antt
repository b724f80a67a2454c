-- What the pushes from a point keep and change.
use Rattle.std.proofs.Common.{◌≡◌, ℕ, zero, suc, ◌+◌, ◌-◌, ◌%◌, ◌<◌, ◌≤◌, min, Bool, true, cond, eqb, ltb, ◌≢◌, ◌⊎◌, List, length, get_or, sym, refl, ap, ◌∙◌, subst, inl, inr, ⊎_elim, arith}
use Rattle.std.proofs.lemmas.Bool.{eqb-true, eqb-false, ltb-true, lt-ltb, cases_eq, cases_lt, cond_both, eq-eqb, and_parts, and_from, true≢false}
use Rattle.drawing.specs.Counts.{Within}
use Rattle.residual.specs.Net.{mate_of, head_of, tail_of, outs, moved}
use Rattle.preflow.specs.Push.{Out, shifted, apt, joined, scans}
use Rattle.preflow.specs.Preflow.{whole, exc, Arcs}
use Rattle.residual.proofs.Moves.{mate_mate, mate_within, moved_length, moved_other, moved_here, moved_mate, moved_pairs, cond_add, moved_outs}
use Rattle.preflow.proofs.Sums.{shifted_length, shifted_other, shifted_from, shifted_sum, term, mu, term_push}

pub record Kept (hs ds : List ℕ) (n v low : ℕ) (rs es rs' es' : List ℕ) : Type 0 where
  pub same : length rs' ≡ length rs
  pub points : length es' ≡ length es
  pub pairs : (a : ℕ) → get_or rs' a 0 + get_or rs' (mate_of a) 0 ≡ get_or rs a 0 + get_or rs (mate_of a) 0
  pub flow : (p : ℕ → Bool) → outs p hs rs' (length hs) + exc p es n ≡ outs p hs rs (length hs) + exc p es' n
  pub all : whole es' n ≡ whole es n
  pub void : get_or es' 0 0 ≡ get_or es 0 0
  pub less : get_or es' v 0 ≤ get_or es v 0
  pub shrink : (a : ℕ) → tail_of hs a ≡ v → get_or rs' a 0 ≤ get_or rs a 0
  pub opens : (a : ℕ) → 0 < get_or rs' a 0 → (0 < get_or rs a 0) ⊎ ((get_or ds (tail_of hs a) 0 ≡ low) × (head_of hs a ≡ v))
  pub falls : get_or ds v 0 ≡ low + 1 → mu n es' ds + get_or es v 0 ≡ mu n es ds + get_or es' v 0

pub kept_none : (hs ds : List ℕ) (n v low : ℕ) (rs es : List ℕ) → Kept hs ds n v low rs es rs es
kept_none hs ds n v low rs es = record {
  same = refl;
  points = refl;
  pairs = λ a. refl;
  flow = λ p. refl;
  all = refl;
  void = refl;
  less = omega arith;
  shrink = λ a e. omega arith;
  opens = λ a h. inl h;
  falls = λ e. refl;
}

pub kept_then : (hs ds : List ℕ) (n v low : ℕ) (rs es rs' es' rs'' es'' : List ℕ) → Kept hs ds n v low rs es rs' es' → Kept hs ds n v low rs' es' rs'' es'' → Kept hs ds n v low rs es rs'' es''
kept_then hs ds n v low rs es rs' es' rs'' es'' f g = record {
  same = g.same ∙ f.same;
  points = g.points ∙ f.points;
  pairs = λ a. g.pairs a ∙ f.pairs a;
  flow = λ p. let a = f.flow p in let b = g.flow p in omega (arith, a, b);
  all = g.all ∙ f.all;
  void = g.void ∙ f.void;
  less = let a = f.less in let b = g.less in omega (arith, a, b);
  shrink = λ a e. let x = f.shrink a e in let y = g.shrink a e in omega (arith, x, y);
  opens = λ a h. ⊎_elim (λ y. f.opens a y) (λ y. inr y) (g.opens a h);
  falls = λ e. let x = f.falls e in let y = g.falls e in omega (arith, x, y);
}

-- one push
pub kept_one : (hs ds : List ℕ) (n v low k x : ℕ) (rs es : List ℕ) → length rs ≡ length hs → length hs % 2 ≡ 0 → length es ≡ n + 1 → k < length hs → tail_of hs k ≡ v → Within n v → Within n (head_of hs k) → get_or ds (head_of hs k) 0 ≡ low → get_or ds v 0 ≢ low → x ≤ get_or es v 0 → x ≤ get_or rs k 0 → Kept hs ds n v low rs es (moved rs k x) (shifted es v (head_of hs k) x)
kept_one hs ds n v low k x rs es lr ev le kin tv vin win dw nv xe xr =
    let w : ℕ = head_of hs k in
    let ne : v ≢ w = λ q. nv (ap (λ (y : ℕ). get_or ds y 0) q ∙ dw) in
    let krs : k < length rs = omega arith in
    let mrs : mate_of k < length rs = let z = mate_within k (length hs) ev kin in omega (arith, z, lr) in
    let here = moved_here rs k x krs in
    let mate = moved_mate rs k x mrs in
    let len : length es ≡ n + 1 = le in
    let vs : v < length es = omega arith in
    let fr = shifted_from es v w x ne vs in
    record {
      same = moved_length rs k x;
      points = shifted_length es v w x ne;
      pairs = moved_pairs rs k x krs mrs xr;
      flow = λ p.
          let a = moved_outs p hs rs k x lr ev kin xr in
          let t = ap (λ (y : ℕ). cond (p y) x 0) tv in
          let b = shifted_sum es v w x ne (λ u e. cond (p u) e 0) n len vin win in
          let y : ℕ = get_or es v 0 - x in
          let s : get_or es v 0 ≡ y + x = omega arith in
          let c : cond (p v) (get_or es v 0) 0 ≡ cond (p v) y 0 + cond (p v) x 0 = ap (λ (z : ℕ). cond (p v) z 0) s ∙ cond_add (p v) y x in
          let d = cond_add (p w) (get_or es w 0) x in
          omega (arith, a, t, b, c, d);
      all = let b = shifted_sum es v w x ne (λ u e. e) n len vin win in omega (arith, b, xe);
      void = shifted_other es v w x ne 0 (omega arith) (omega arith);
      less = omega (arith, fr);
      shrink = λ a e.
          elim (cases_eq a k) [
            | inl q ↦ rw q (omega (arith, here))
            | inr o ↦
                elim (cases_eq a (mate_of k)) [
                  | inl q ↦
                      let tw : tail_of hs a ≡ w = ap (λ (y : ℕ). get_or hs (mate_of y) 0) q ∙ ap (λ (y : ℕ). get_or hs y 0) (mate_mate k) in
                      absurd (ne (sym e ∙ tw))
                  | inr m ↦ let z = moved_other rs k x a o m in omega (arith, z)
                ]
          ];
      opens = λ a h.
          elim (cases_eq a k) [
            | inl q ↦ inl (let y : 0 < get_or rs k 0 = let z : 0 < get_or (moved rs k x) k 0 = subst (λ (i : ℕ). 0 < get_or (moved rs k x) i 0) q h in omega (arith, here, z) in subst (λ (i : ℕ). 0 < get_or rs i 0) (sym q) y)
            | inr o ↦
                elim (cases_eq a (mate_of k)) [
                  | inl q ↦
                      let tw : tail_of hs a ≡ w = ap (λ (y : ℕ). get_or hs (mate_of y) 0) q ∙ ap (λ (y : ℕ). get_or hs y 0) (mate_mate k) in
                      inr (ap (λ (y : ℕ). get_or ds y 0) tw ∙ dw, ap (λ (y : ℕ). get_or hs y 0) q ∙ tv)
                  | inr m ↦ inl (let z = moved_other rs k x a o m in omega (arith, z, h))
                ]
          ];
      falls = λ e.
          let b = shifted_sum es v w x ne (λ u y. term n y (get_or ds u 0)) n len vin win in
          let p = term_push n (get_or es v 0) (get_or es w 0) low x xe in
          let p1 = ap (λ (h : ℕ). term n (get_or es v 0 - x) h) e in
          let p2 = ap (λ (h : ℕ). term n (get_or es w 0 + x) h) dw in
          let p3 = ap (λ (h : ℕ). term n (get_or es v 0) h) e in
          let p4 = ap (λ (h : ℕ). term n (get_or es w 0) h) dw in
          omega (arith, b, p, p1, p2, p3, p4, fr, xe);
    }

module _ (hs ds : List ℕ) (n v low source sink : ℕ) (ar : Arcs hs n) (vin : Within n v) (nv : get_or ds v 0 ≢ low) where
  pub apt_parts : (k : ℕ) (rs : List ℕ) → apt hs ds v low k rs ≡ true → (tail_of hs k ≡ v) × (0 < get_or rs k 0) × (get_or ds (head_of hs k) 0 ≡ low)
  unfolding apt
  apt_parts k rs t =
      let a = and_parts (eqb (tail_of hs k) v) _ t in
      let b = and_parts (ltb 0 (get_or rs k 0)) _ a.1 in
      (eqb-true (tail_of hs k) v a.0, ltb-true 0 (get_or rs k 0) b.0, eqb-true (get_or ds (head_of hs k) 0) low b.1)

  pub apt_from : (k : ℕ) (rs : List ℕ) → tail_of hs k ≡ v → 0 < get_or rs k 0 → get_or ds (head_of hs k) 0 ≡ low → apt hs ds v low k rs ≡ true
  unfolding apt
  apt_from k rs a b c = and_from _ _ (eq-eqb (tail_of hs k) v a) (and_from _ _ (lt-ltb 0 (get_or rs k 0) b) (eq-eqb (get_or ds (head_of hs k) 0) low c))

  pub apt_one : (k : ℕ) (rs es : List ℕ) → length rs ≡ length hs → length es ≡ n + 1 → k < length hs → apt hs ds v low k rs ≡ true → Kept hs ds n v low rs es (moved rs k (min (get_or es v 0) (get_or rs k 0))) (shifted es v (head_of hs k) (min (get_or es v 0) (get_or rs k 0)))
  apt_one k rs es lr le kin t =
      let q = apt_parts k rs t in
      kept_one hs ds n v low k (min (get_or es v 0) (get_or rs k 0)) rs es lr ar.even le kin q.0 vin (ar.some k kin, ar.most k kin) q.2 nv (omega arith) (omega arith)

  pub scans_kept : (k : ℕ) (rs es qs : List ℕ) → length rs ≡ length hs → length es ≡ n + 1 → k ≤ length hs → Kept hs ds n v low rs es (scans hs ds source sink v low k rs es qs).0 (scans hs ds source sink v low k rs es qs).1
  unfolding scans
  scans_kept zero rs es qs lr le kin = kept_none hs ds n v low rs es
  scans_kept (suc k) rs es qs lr le kin =
      let x : ℕ = min (get_or es v 0) (get_or rs k 0) in
      let w : ℕ = head_of hs k in
      let rs' : List ℕ = moved rs k x in
      let es' : List ℕ = shifted es v w x in
      let j : List ℕ = joined source sink (get_or es w 0) w qs in
      let P : Out → Type 0 = λ o. Kept hs ds n v low rs es o.0 o.1 in
      cond_both (apt hs ds v low k rs)
      (cond (eqb (get_or es' v 0) 0) (rs', es', j) (scans hs ds source sink v low k rs' es' j))
      (scans hs ds source sink v low k rs es qs) P
      (λ t.
      let one = apt_one k rs es lr le (omega arith) t in
      cond_both (eqb (get_or es' v 0) 0) (rs', es', j) (scans hs ds source sink v low k rs' es' j) P
      (λ z. one)
      (λ z. kept_then hs ds n v low rs es rs' es' _ _ one (scans_kept k rs' es' j (one.same ∙ lr) (one.points ∙ le) (omega arith))))
      (λ t. scans_kept k rs es qs lr le (omega arith))

  -- where an apt arc leads on, something goes
  pub scans_some : (k : ℕ) (rs es qs : List ℕ) → length rs ≡ length hs → length es ≡ n + 1 → k ≤ length hs → 0 < get_or es v 0 → (b : ℕ) → b < k → apt hs ds v low b rs ≡ true → get_or (scans hs ds source sink v low k rs es qs).1 v 0 < get_or es v 0
  unfolding scans
  scans_some zero rs es qs lr le kin pos b bin ab = absurd (let z : ⊥ = omega arith in z)
  scans_some (suc k) rs es qs lr le kin pos b bin ab =
      let x : ℕ = min (get_or es v 0) (get_or rs k 0) in
      let w : ℕ = head_of hs k in
      let rs' : List ℕ = moved rs k x in
      let es' : List ℕ = shifted es v w x in
      let j : List ℕ = joined source sink (get_or es w 0) w qs in
      let P : Out → Type 0 = λ o. get_or o.1 v 0 < get_or es v 0 in
      cond_both (apt hs ds v low k rs)
      (cond (eqb (get_or es' v 0) 0) (rs', es', j) (scans hs ds source sink v low k rs' es' j))
      (scans hs ds source sink v low k rs es qs) P
      (λ t.
      let one = apt_one k rs es lr le (omega arith) t in
      let q = apt_parts k rs t in
      let wide = q.1 in
      let ne : v ≢ w = λ e. nv (ap (λ (y : ℕ). get_or ds y 0) e ∙ q.2) in
      let fr = shifted_from es v w x ne (omega arith) in
      let fell : get_or es' v 0 < get_or es v 0 = omega (arith, fr, wide, pos) in
      cond_both (eqb (get_or es' v 0) 0) (rs', es', j) (scans hs ds source sink v low k rs' es' j) P
      (λ z. fell)
      (λ z. let more = scans_kept k rs' es' j (one.same ∙ lr) (one.points ∙ le) (omega arith) in let l = more.less in omega (arith, l, fell)))
      (λ t.
      elim (cases_eq b k) [
        | inl e ↦ absurd (true≢false (sym (subst (λ (y : ℕ). apt hs ds v low y rs ≡ true) e ab) ∙ t))
        | inr m ↦ scans_some k rs es qs lr le (omega arith) pos b (omega arith) ab
      ])

  -- where v has excess left, no apt arc is open
  pub scans_closed : (k : ℕ) (rs es qs : List ℕ) → length rs ≡ length hs → length es ≡ n + 1 → k ≤ length hs → 0 < get_or (scans hs ds source sink v low k rs es qs).1 v 0 → (a : ℕ) → a < k → tail_of hs a ≡ v → get_or ds (head_of hs a) 0 ≡ low → get_or (scans hs ds source sink v low k rs es qs).0 a 0 ≡ 0
  unfolding scans
  scans_closed zero rs es qs lr le kin = λ pos a ain ta da. absurd (let z : ⊥ = omega arith in z)
  scans_closed (suc k) rs es qs lr le kin =
      let x : ℕ = min (get_or es v 0) (get_or rs k 0) in
      let w : ℕ = head_of hs k in
      let rs' : List ℕ = moved rs k x in
      let es' : List ℕ = shifted es v w x in
      let j : List ℕ = joined source sink (get_or es w 0) w qs in
      let P : Out → Type 0 = λ o. 0 < get_or o.1 v 0 → (a : ℕ) → a < suc k → tail_of hs a ≡ v → get_or ds (head_of hs a) 0 ≡ low → get_or o.0 a 0 ≡ 0 in
      cond_both (apt hs ds v low k rs)
      (cond (eqb (get_or es' v 0) 0) (rs', es', j) (scans hs ds source sink v low k rs' es' j))
      (scans hs ds source sink v low k rs es qs) P
      (λ t.
      let one = apt_one k rs es lr le (omega arith) t in
      let q = apt_parts k rs t in
      let ne : v ≢ w = λ e. nv (ap (λ (y : ℕ). get_or ds y 0) e ∙ q.2) in
      let fr = shifted_from es v w x ne (omega arith) in
      cond_both (eqb (get_or es' v 0) 0) (rs', es', j) (scans hs ds source sink v low k rs' es' j) P
      (λ z pos. let zz = eqb-true (get_or es' v 0) 0 z in absurd (let b : ⊥ = omega (arith, zz, pos) in b))
      (λ z pos a ain ta da.
      elim (cases_eq a k) [
        | inl e ↦
            let nz = eqb-false (get_or es' v 0) 0 z in
            let here = moved_here rs k x (omega arith) in
            let empty : get_or rs' k 0 ≡ 0 = omega (arith, fr, here, nz) in
            let more = scans_kept k rs' es' j (one.same ∙ lr) (one.points ∙ le) (omega arith) in
            let s = more.shrink k q.0 in
            let f : get_or (scans hs ds source sink v low k rs' es' j).0 k 0 ≡ 0 = omega (arith, s, empty) in
            subst (λ (y : ℕ). get_or (scans hs ds source sink v low k rs' es' j).0 y 0 ≡ 0) (sym e) f
        | inr m ↦ scans_closed k rs' es' j (one.same ∙ lr) (one.points ∙ le) (omega arith) pos a (omega arith) ta da
      ]))
      (λ t pos a ain ta da.
      elim (cases_eq a k) [
        | inl e ↦
            let more = scans_kept k rs es qs lr le (omega arith) in
            let s = more.shrink a ta in
            ⊎_elim
            (λ wide. absurd (true≢false (sym (apt_from k rs (subst (λ (y : ℕ). tail_of hs y ≡ v) e ta) (subst (λ (y : ℕ). 0 < get_or rs y 0) e wide) (subst (λ (y : ℕ). get_or ds (head_of hs y) 0 ≡ low) e da)) ∙ t)))
            (λ shut. omega (arith, s, shut))
            (cases_lt 0 (get_or rs a 0))
        | inr m ↦ scans_closed k rs es qs lr le (omega arith) pos a (omega arith) ta da
      ])
