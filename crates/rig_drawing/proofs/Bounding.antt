-- What is within a rig's bounds stays within them under each change.
use Rattle.std.proofs.Common.{◌≡◌, ℕ, zero, suc, ◌+◌, ◌<◌, ◌≤◌, true, leb, ◌≢◌, List, [], ◌∷◌, ◌++◌, length, get_or, set, replicate, Some, None, Decides, Option, sym, refl, ap, ◌∙◌, subst, ⊎_elim, arith, length-append}
use Rattle.std.proofs.lemmas.List.{get_or_default}
use Rattle.std.proofs.lemmas.Bool.{and_parts, and_from, leb-true, le-leb, cases_eq}
use Rattle.std.proofs.lemmas.Simd.{length-replicate, get_or-replicate}
use Rattle.std.proofs.lemmas.Bool.Decides.{nat_tests}
use Rattle.drawing.specs.declared.Kind.{Kind}
use Rattle.drawing.specs.declared.Point.{Point}
use Rattle.drawing.specs.declared.Run.{Run}
use Rattle.drawing.specs.Counts.{Within, nth}
use Rattle.drawing.specs.Drawings.{Network, point_count, run_count, point, run, no_point, no_run, limit_of, LawfulRun, is_link}
use Rattle.drawing.proofs.Deciding.{decides_every, decides_lawful}
use Rattle.rig_drawing.specs.Bounds.{Bounded, is_bounded}
use Rattle.rig_drawing.specs.Changes.{put, plain_rig, is_limit, is_range, ranged}
use Rattle.rig_drawing.proofs.Places.{length_put, nth_put_same, nth_put_other, nth_more_front, nth_more_last}

pub decides_bounded : (d : Network) → Decides (is_bounded d) (Bounded d)
unfolding is_bounded
decides_bounded d =
    let uppers = decides_every (run_count d) (λ k. leb (run d k).upper 9999) (λ k. (run d k).upper ≤ 9999) (λ k. (leb-true _ _, le-leb _ _)) in
    let limits = decides_every (point_count d) (λ v. leb (limit_of (point d v).limit) 9999) (λ v. limit_of (point d v).limit ≤ 9999) (λ v. (leb-true _ _, le-leb _ _)) in (
      λ e.
          let (e1, l) = and_parts _ _ e in
          let (e2, u) = and_parts _ _ e1 in
          let (e3, m) = and_parts _ _ e2 in
          let (law, n) = and_parts _ _ e3 in
          record { lawful = (decides_lawful d).0 law; few_points = leb-true _ _ n; few_runs = leb-true _ _ m; small_uppers = uppers.0 u; small_limits = limits.0 l },
      λ h.
          and_from _ _
          (and_from _ _ (and_from _ _ (and_from _ _ ((decides_lawful d).1 h.lawful) (le-leb _ _ h.few_points)) (le-leb _ _ h.few_runs)) (uppers.1 h.small_uppers))
          (limits.1 h.small_limits),
    )

plain_point : (n v : ℕ) → Within n v → point (plain_rig n) v ≡ no_point
plain_point n zero w = refl
plain_point n (suc v) w = let lt : v < n = omega arith in get_or-replicate n v no_point no_point lt

pub plain_bounded : (n : ℕ) → 1 ≤ n → n ≤ 60 → Bounded (plain_rig n)
plain_bounded n some few =
    let e : length (replicate n no_point) ≡ n = length-replicate n no_point in
    record {
      lawful = record { some_point = omega (arith, e); each_run = λ k w. let no_such : ⊥ = omega arith in absurd no_such };
      few_points = omega (arith, e);
      few_runs = omega arith;
      small_uppers = λ k w. let no_such : ⊥ = omega arith in absurd no_such;
      small_limits = λ v w. let q : point (plain_rig n) v ≡ no_point = plain_point n v (omega (arith, e)) in let z : limit_of (point (plain_rig n) v).limit ≡ 0 = ap (λ p. limit_of p.limit) q in omega (arith, z);
    }

-- a property of each of a list's places, with one of them written anew
each_put : {A : Type 0} (P : A → Type 0) (xs : List A) (v : ℕ) (x d : A) → P x → ((w : ℕ) → Within (length xs) w → P (nth xs w d)) → (w : ℕ) → Within (length (put xs v x)) w → P (nth (put xs v x) w d)
each_put P xs v x d px old w h =
    let e = length_put xs v x in
    let inside : Within (length xs) w = omega (arith, e) in
    ⊎_elim
    (λ (q : w ≡ v). subst P (sym (ap (λ u. nth (put xs v x) u d) q ∙ nth_put_same xs v x d (subst (Within (length xs)) q inside))) px)
    (λ (q : w ≡ v → ⊥). subst P (sym (nth_put_other xs v w x d q)) (old w inside))
    (cases_eq w v)

-- and with one more at its end
each_more : {A : Type 0} (P : A → Type 0) (xs : List A) (x d : A) → P x → ((w : ℕ) → Within (length xs) w → P (nth xs w d)) → (w : ℕ) → Within (length (xs ++ (x ∷ []))) w → P (nth (xs ++ (x ∷ [])) w d)
each_more P xs x d px old w h =
    let e = length-append xs (x ∷ []) in
    ⊎_elim
    (λ (q : w ≡ length xs + 1). subst P (sym (ap (λ u. nth (xs ++ (x ∷ [])) u d) q ∙ nth_more_last xs x d)) px)
    (λ (q : w ≡ length xs + 1 → ⊥). let inside : Within (length xs) w = omega (arith, e) in subst P (sym (nth_more_front xs x w d inside)) (old w inside))
    (cases_eq w (length xs + 1))

-- a point is written anew
pub point_put_bounded : (d : Network) (v : ℕ) (q : Point) → Bounded d → limit_of q.limit ≤ 9999 → Bounded (record { points = put d.points v q; runs = d.runs })
point_put_bounded d v q h small =
    let e = length_put d.points v q in
    record {
      lawful = record { some_point = omega (arith, e, h.lawful.some_point); each_run = λ k w. subst (λ n. LawfulRun n (run d k)) (sym e) (h.lawful.each_run k w) };
      few_points = omega (arith, e, h.few_points);
      few_runs = h.few_runs;
      small_uppers = h.small_uppers;
      small_limits = each_put (λ p. limit_of p.limit ≤ 9999) d.points v q no_point small h.small_limits;
    }

-- a run is written anew
pub run_put_bounded : (d : Network) (k : ℕ) (r : Run) → Bounded d → LawfulRun (point_count d) r → r.upper ≤ 9999 → Bounded (record { points = d.points; runs = put d.runs k r })
run_put_bounded d k r h law small =
    let e = length_put d.runs k r in
    record {
      lawful = record { some_point = h.lawful.some_point; each_run = each_put (LawfulRun (point_count d)) d.runs k r no_run law h.lawful.each_run };
      few_points = h.few_points;
      few_runs = omega (arith, e, h.few_runs);
      small_uppers = each_put (λ x. x.upper ≤ 9999) d.runs k r no_run small h.small_uppers;
      small_limits = h.small_limits;
    }

-- a run is laid
pub run_more_bounded : (d : Network) (r : Run) → Bounded d → LawfulRun (point_count d) r → r.upper ≤ 9999 → run_count d < 160 → Bounded (record { points = d.points; runs = d.runs ++ (r ∷ []) })
run_more_bounded d r h law small few =
    let e = length-append d.runs (r ∷ []) in
    record {
      lawful = record { some_point = h.lawful.some_point; each_run = each_more (LawfulRun (point_count d)) d.runs r no_run law h.lawful.each_run };
      few_points = h.few_points;
      few_runs = omega (arith, e);
      small_uppers = each_more (λ x. x.upper ≤ 9999) d.runs r no_run small h.small_uppers;
      small_limits = h.small_limits;
    }

-- the invariant of a drawing that was just made
pub plain_held : (n : ℕ) (ps : List Point) (rs : List Run) → ps ≡ replicate n no_point → rs ≡ [] → 1 ≤ n → n ≤ 60 → is_bounded (record { points = ps; runs = rs }) ≡ true
plain_held n ps rs p r some few =
    let same : ◌≡◌ {A = Network} (plain_rig n) (record { points = ps; runs = rs }) = cc in
    subst (λ d. is_bounded d ≡ true) same ((decides_bounded (plain_rig n)).1 (plain_bounded n some few))

pub small_limit : (l : Option ℕ) → is_limit l ≡ true → limit_of l ≤ 9999
small_limit None e = omega arith
small_limit (Some l) e = leb-true _ _ e

limit_small : (l : Option ℕ) → limit_of l ≤ 9999 → is_limit l ≡ true
limit_small None h = refl
limit_small (Some l) h = le-leb _ _ h

pub range_parts : (k : Kind) (lo up : ℕ) → is_range k lo up ≡ true → (lo ≤ up) × (up ≤ 9999) × (is_link k ≡ true → lo ≡ 0)
range_parts k lo up e = (grind (arith, nat_tests), grind (arith, nat_tests), λ link. grind (arith, nat_tests))

-- two reads of one place are the same
pub same_place : {A : Type 0} (xs : List A) (i : ℕ) (x y : A) → i < length xs → x ≡ get_or xs i x → y ≡ get_or xs i y → x ≡ y
same_place xs i x y lt p q = p ∙ get_or_default xs i x y lt ∙ sym q

module _ (ps : List Point) (rs : List Run) (held : is_bounded (record { points = ps; runs = rs }) ≡ true) where
  bounds : Bounded (record { points = ps; runs = rs })
  bounds = (decides_bounded _).0 held

  -- what is read within a list does not depend on what stands in past its end
  same_read : {A : Type 0} (xs : List A) (i : ℕ) (x d : A) → i < length xs → x ≡ get_or xs i x → nth xs (suc i) d ≡ x
  same_read xs i x d lt e = get_or_default xs i d x lt ∙ sym e

  -- point i + 1 is written anew, with a limit that a rig may have
  pub point_set_held : (i : ℕ) (q : Point) → is_limit q.limit ≡ true → is_bounded (record { points = set ps i q; runs = rs }) ≡ true
  point_set_held i q small = (decides_bounded _).1 (point_put_bounded _ (suc i) q bounds (small_limit q.limit small))

  -- the limit that it has is one
  pub limit_held : (i : ℕ) (q : Point) → i < length ps → q ≡ get_or ps i q → is_limit q.limit ≡ true
  limit_held i q lt e =
      let here : limit_of (nth ps (suc i) no_point).limit ≤ 9999 = bounds.small_limits (suc i) (omega arith) in
      limit_small q.limit (subst (λ p. limit_of p.limit ≤ 9999) (same_read ps i q no_point lt e) here)

  -- run i + 1 is given another range
  pub run_set_held : (i : ℕ) (q : Run) (lo up : ℕ) → i < length rs → q ≡ get_or rs i q → is_range q.kind lo up ≡ true → is_bounded (record { points = ps; runs = set rs i (ranged q lo up) }) ≡ true
  run_set_held i q lo up lt e fits =
      let law : LawfulRun (length ps) q = subst (LawfulRun (length ps)) (same_read rs i q no_run lt e) (bounds.lawful.each_run (suc i) (omega arith)) in
      let (ordered, small, fixed) = range_parts q.kind lo up fits in
      (decides_bounded _).1 (run_put_bounded _ (suc i) (ranged q lo up) bounds (record { tail_in = law.tail_in; head_in = law.head_in; apart = law.apart; ordered = ordered; link_lower = fixed }) small)

  -- a run is laid
  pub run_more_held : (r : Run) → Within (length ps) r.tail → Within (length ps) r.head → r.tail ≢ r.head → is_range r.kind r.lower r.upper ≡ true → length rs < 160 → is_bounded (record { points = ps; runs = rs ++ (r ∷ []) }) ≡ true
  run_more_held r t h apart fits few =
      let (ordered, small, fixed) = range_parts r.kind r.lower r.upper fits in
      (decides_bounded _).1 (run_more_bounded _ r bounds (record { tail_in = t; head_in = h; apart = apart; ordered = ordered; link_lower = fixed }) small few)
