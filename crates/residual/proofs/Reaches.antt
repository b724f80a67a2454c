-- The points with a level are just those to which a residual path leads from the source.
use Rattle.std.proofs.Common.{◌≡◌, ℕ, zero, suc, ◌+◌, ◌-◌, ◌*◌, ◌<◌, Bool, true, false, cond, ltb, ◌⊎◌, List, length, get_or, ℤ, pos, ◌<ℤ◌, sym, refl, ap, ◌∙◌, subst, inl, inr, ⊎_elim, arith}
use Rattle.std.proofs.lemmas.Int.{ints}
use Rattle.std.proofs.lemmas.Bool.{ltb-true}
use Rattle.drawing.specs.declared.Label.TheVariants.{Near, Far}
use Rattle.drawing.specs.Counts.{Within, nth}
use Rattle.drawing.specs.Drawings.{Network, point_count, run_count, run}
use Rattle.drawing.specs.Labels.{is_near, label}
use Rattle.residual.specs.Net.{mate_of, head_of, tail_of, Sent}
use Rattle.residual.specs.Laying.{heads_of, room_of}
use Rattle.residual.specs.Layers.{Layered}
use Rattle.residual.specs.Readings.{flows_in, labels_by, answer_in, Solved}
use Rattle.residual.specs.Paths.{Forward, Backward, Steps, ResidualPath, NearByPaths}
use Rattle.residual.specs.Plain.{Plain, rack_of, bar_of}
use Rattle.residual.proofs.Pairs.{mate_double, each_arc}
use Rattle.residual.proofs.Arcs.{length_heads, head_of_lem, tail_of_lem, back_head, back_tail}
use Rattle.residual.proofs.Cuts.{whole, carried_is}
use Rattle.residual.proofs.Rights.{nth_made}
use Rattle.residual.proofs.Terminals.{rack}

below : (f : ℤ) (x y : ℕ) → f ≡ pos x → x < y → f <ℤ pos y
below f x y e h = subst (λ (z : ℤ). z <ℤ pos y) (sym e) (let q : pos x <ℤ pos y = omega (arith, ints) in q)

below_from : (f : ℤ) (x y : ℕ) → f ≡ pos x → f <ℤ pos y → x < y
below_from f x y e h = let q = subst (λ (z : ℤ). z <ℤ pos y) e h in omega (arith, ints)

above : (f : ℤ) (x : ℕ) → f ≡ pos x → 0 < x → pos 0 <ℤ f
above f x e h = subst (λ (z : ℤ). pos 0 <ℤ z) (sym e) (let q : pos 0 <ℤ pos x = omega (arith, ints) in q)

above_from : (f : ℤ) (x : ℕ) → f ≡ pos x → pos 0 <ℤ f → 0 < x
above_from f x e h = let q = subst (λ (z : ℤ). pos 0 <ℤ z) e h in omega (arith, ints)

module _ (d : Network) (source sink : ℕ) (rs : List ℕ) (total : ℕ) (sent : Sent (heads_of d.runs) source sink (room_of d.runs) rs total) where
  abbrev hs : List ℕ
  hs = heads_of d.runs

  abbrev fs : List ℤ
  fs = flows_in (run_count d) rs

  flow_at : (k : ℕ) → k < run_count d → nth fs (suc k) (pos 0) ≡ pos (get_or rs (mate_of (2 * k)) 0)
  flow_at k h = nth_made (λ k. pos (get_or rs (2 * k - 1) 0)) (run_count d) (suc k) (pos 0) (omega arith) ∙ ap pos (carried_is d source sink rs total sent k)

  -- the two arcs of run k + 1
  split : (k : ℕ) → k < run_count d → get_or rs (2 * k) 0 + get_or rs (mate_of (2 * k)) 0 ≡ (run d (suc k)).upper
  split k h = let w = whole d source sink rs total sent k h in let c = carried_is d source sink rs total sent k in omega arith

  -- an open arc is a step
  pub step_along : (a : ℕ) → a < length hs → 0 < get_or rs a 0 → Forward d fs (tail_of hs a) (head_of hs a) ⊎ Backward d fs (tail_of hs a) (head_of hs a)
  step_along a h =
      let long = length_heads d.runs in
      each_arc (λ b. 0 < get_or rs b 0 → Forward d fs (tail_of hs b) (head_of hs b) ⊎ Backward d fs (tail_of hs b) (head_of hs b)) (run_count d)
      (λ k q wide. inl record {
        number = suc k;
        within = omega arith;
        from = sym (tail_of_lem d.runs k q);
        to = sym (head_of_lem d.runs k q);
        more = below (nth fs (suc k) (pos 0)) (get_or rs (mate_of (2 * k)) 0) (run d (suc k)).upper (flow_at k q) (let e = split k q in omega arith);
      })
      (λ k q wide. inr record {
        number = suc k;
        within = omega arith;
        from = sym (back_tail d.runs k q);
        to = sym (back_head d.runs k q);
        more = above (nth fs (suc k) (pos 0)) (get_or rs (mate_of (2 * k)) 0) (flow_at k q) (let e = ap (λ (x : ℕ). get_or rs x 0) (mate_double k) in omega arith);
      })
      a (omega arith)

  -- near points stay near along a step
  module _ (near : ℕ → Bool) (shut : (a : ℕ) → a < length hs → near (tail_of hs a) ≡ true → 0 < get_or rs a 0 → near (head_of hs a) ≡ true) where
    forward_near : (u v : ℕ) → near u ≡ true → Forward d fs u v → near v ≡ true
    forward_near u v n f = go f.number f.within f.from f.to f.more
      where
        go : (k : ℕ) → Within (run_count d) k → (run d k).tail ≡ u → (run d k).head ≡ v → nth fs k (pos 0) <ℤ pos (run d k).upper → near v ≡ true
        go zero w from to more = absurd (let z : ⊥ = omega arith in z)
        go (suc k) w from to more =
            let q : k < run_count d = omega arith in
            let long = length_heads d.runs in
            let less = below_from (nth fs (suc k) (pos 0)) (get_or rs (mate_of (2 * k)) 0) (run d (suc k)).upper (flow_at k q) more in
            let e = split k q in
            sym (ap near (head_of_lem d.runs k q ∙ to)) ∙ shut (2 * k) (omega arith) (ap near (tail_of_lem d.runs k q ∙ from) ∙ n) (omega arith)

    backward_near : (u v : ℕ) → near u ≡ true → Backward d fs u v → near v ≡ true
    backward_near u v n f = go f.number f.within f.from f.to f.more
      where
        go : (k : ℕ) → Within (run_count d) k → (run d k).head ≡ u → (run d k).tail ≡ v → pos 0 <ℤ nth fs k (pos 0) → near v ≡ true
        go zero w from to more = absurd (let z : ⊥ = omega arith in z)
        go (suc k) w from to more =
            let q : k < run_count d = omega arith in
            let long = length_heads d.runs in
            let some = above_from (nth fs (suc k) (pos 0)) (get_or rs (mate_of (2 * k)) 0) (flow_at k q) more in
            let e = ap (λ (x : ℕ). get_or rs x 0) (mate_double k) in
            sym (ap near (back_head d.runs k q ∙ to)) ∙ shut (2 * k + 1) (omega arith) (ap near (back_tail d.runs k q ∙ from) ∙ n) (omega arith)

    pub steps_near : (j u v : ℕ) → near u ≡ true → Steps d fs j u v → near v ≡ true
    steps_near zero u v n s = sym (ap near s) ∙ n
    steps_near (suc j) u v n s =
        let m = steps_near j u s.0 n s.1 in
        ⊎_elim (forward_near s.0 v m) (backward_near s.0 v m) s.2

  -- a point of level j + 1 is j steps from the source
  pub level_steps : (l : List ℕ) → Layered hs rs source sink l → (j u : ℕ) → get_or l u 0 ≡ suc j → Steps d fs j source u
  level_steps l la zero u e = sym (la.least u e)
  level_steps l la (suc j) u e =
      let i = la.reached u (omega arith) in
      let from = i.from in (
        tail_of hs i.arc,
        level_steps l la j (tail_of hs i.arc) (omega arith),
        subst (λ (v : ℕ). Forward d fs (tail_of hs i.arc) v ⊎ Backward d fs (tail_of hs i.arc) v) i.to (step_along i.arc i.within i.wide),
      )

pub near_label : (b : Bool) → is_near (cond b Near Far) ≡ b
near_label true = refl
near_label false = refl

-- near are the points that the last search reached
module _ (d : Network) (p : Plain d) (rs l : List ℕ) (total : ℕ) (s : Solved d (rack_of d) (bar_of d) rs (λ u. ltb 0 (get_or l u 0)) total)
    (la : Layered (heads_of d.runs) rs (rack_of d) (bar_of d) l) where
  abbrev near : ℕ → Bool
  near u = ltb 0 (get_or l u 0)

  abbrev flows : List ℤ
  flows = flows_in (run_count d) rs

  near_is : (v : ℕ) → Within (point_count d) v → is_near (label (labels_by (point_count d) near) v) ≡ near v
  near_is v w = ap is_near (nth_made (λ u. cond (near u) Near Far) (point_count d) v _ w) ∙ near_label (near v)

  path_to : (v : ℕ) → near v ≡ true → ResidualPath d flows (rack_of d) v
  path_to v n =
      let h = ltb-true 0 (get_or l v 0) n in
      record { count = get_or l v 0 - 1; steps = level_steps d (rack_of d) (bar_of d) rs total s.sent l la (get_or l v 0 - 1) v (omega arith) }

  pub near_by_paths : NearByPaths d (answer_in d rs near total)
  near_by_paths r v rin isr vin =
      let e : r ≡ rack_of d = (rack d p).alone r rin isr in (
        λ h. subst (λ (u : ℕ). ResidualPath d flows u v) (sym e) (path_to v (sym (near_is v vin) ∙ h)),
        λ h. near_is v vin ∙ steps_near d (rack_of d) (bar_of d) rs total s.sent near s.shut h.count r v (ap near e ∙ s.near_source) h.steps,
      )
