-- The limits layer: the network below is lawful, and a right answer to it is read as a right answer.
use Rattle.std.proofs.Common.{◌≡◌, ℕ, suc, ◌+◌, ◌≤◌, Bool, true, false, cond, not, ◌&&◌, eqb, List, map, length, get_or, ℤ, pos, ◌≤ℤ◌, is_some, Some, None, sym, refl, ap, ◌∙◌, subst, ap₂, ⊎_elim, true≢false, zero-le, add-one, arith, length-append}
use mathlib.Core.Path.{subst₃}
use Rattle.std.proofs.lemmas.Int.{ints}
use Rattle.std.proofs.lemmas.List.{length-map}
use Rattle.std.proofs.lemmas.Bool.{cond-true, cond-false, cases_Bool, cases_eq, eq-eqb, ne_eqb, and_cases, and_left, and_right}
use Rattle.std.proofs.lemmas.List.FromFn.{length-map-range_with_len}
use Rattle.drawing.specs.declared.Label.TheVariants.{Near}
use Rattle.drawing.specs.declared.Point.{Point}
use Rattle.drawing.specs.declared.Kind.{Kind}
use Rattle.drawing.specs.declared.Kind.TheVariants.{Lead, Link}
use Rattle.drawing.specs.declared.Run.{Run}
use Rattle.drawing.specs.declared.Label.{Label}
use Rattle.drawing.specs.Counts.{Within, sum_to, only, count_to, nth}
use Rattle.drawing.specs.Drawings.{Network, Lawful, LawfulRun, point_count, run_count, no_point, no_run, point, run, is_rack, is_bar, is_link, limit_of, uses}
use Rattle.drawing.specs.declared.Feature.TheVariants.{Links}
use Rattle.drawing.specs.Plans.{Plan, Feasible, InRange, flow, supply, delivery, forth, back, brings, takes, entering, leaving, total}
use Rattle.drawing.specs.Labels.{is_near, is_tight, is_far, label, adds, deducts, Labelling, crossing, throttled, forced, worth, far_rack, near_bar, Cut}
use Rattle.drawing.specs.Answers.{Answer, Planned, Short, Right}
use Rattle.reductions.specs.Limits.{entry, beyond, limited_at, exit, moved, limit_lead, limits_below, limits_plan, merged, limits_label, limits_labels, limits_above}
use Rattle.reductions.proofs.Supplied.{supplied}
use Rattle.drawing.proofs.Sums.{sum_same, sum_below, sum_none, sum_plus, only_zero, only_sum, sum_at}
use Rattle.duality.proofs.Flows.{lead_flow}
use Rattle.reductions.proofs.Places.{nth_map, nth_made, nth_front, nth_rest, sum_append, only_same}
use Rattle.reductions.proofs.Added.{count_all, place, front_in, place_in, at_front, at_place, sum_all, each_all}
use Rattle.reductions.proofs.Terminals.{some_none}
use Rattle.reductions.proofs.Merging.{read, merged_run, merged_limit, merged_tight, merged_rack, merged_bar, entry_rack, entry_bar, entry_no_bar, beyond_rack, beyond_bar, under_by}
use Rattle.duality.proofs.Duality.{none_to, total_is, weak_duality}

module _ (d : Network) where
  abbrev n : ℕ
  n = point_count d

  abbrev m : ℕ
  m = run_count d

  abbrev firsts : List Point
  firsts = map entry d.points

  abbrev seconds : List Point
  seconds = map beyond d.points

  abbrev pub kept : List Run
  kept = map (moved d) d.runs

  pub first_count : length firsts ≡ n
  first_count = length-map d.points entry

  pub kept_count : length kept ≡ m
  kept_count = length-map d.runs (moved d)

  pub point_count_lem : point_count (limits_below d) ≡ n + n
  point_count_lem = length-append firsts seconds ∙ ap₂ ◌+◌ first_count (length-map d.points beyond)

  pub first_point : (v : ℕ) → Within n v → point (limits_below d) v ≡ entry (point d v)
  first_point v w = nth_front firsts seconds v no_point (omega (arith, first_count)) ∙ nth_map entry d.points v no_point no_point w

  pub second_point : (v : ℕ) → Within n v → point (limits_below d) (n + v) ≡ beyond (point d v)
  second_point v w = ap (λ z. point (limits_below d) (z + v)) (sym first_count) ∙ nth_rest firsts seconds v no_point w.0 ∙ nth_map beyond d.points v no_point no_point w

  first_in : (v : ℕ) → Within n v → Within (point_count (limits_below d)) v
  first_in v w = omega (arith, point_count_lem)

  second_in : (v : ℕ) → Within n v → Within (point_count (limits_below d)) (n + v)
  second_in v w = omega (arith, point_count_lem)

  exit_in : (v : ℕ) → Within n v → Within (point_count (limits_below d)) (exit d v)
  exit_in v w = by (limited_at d v)
    where
      by : (b : Bool) → Within (point_count (limits_below d)) (cond b (n + v) v)
      by true = second_in v w
      by false = first_in v w

  -- the number below of the lead for the limit of v
  abbrev limit_lead_of : ℕ → ℕ
  limit_lead_of v = m + count_to v (limited_at d)

  limit_lead_place : (v : ℕ) → place kept n (limited_at d) (limit_lead d) v ≡ limit_lead_of v
  limit_lead_place v = ap (λ z. z + count_to v (limited_at d)) kept_count

  pub kept_is : (k : ℕ) → Within m k → nth kept k no_run ≡ moved d (run d k)
  kept_is k w = nth_map (moved d) d.runs k no_run no_run w

  old_run : (k : ℕ) → Within m k → run (limits_below d) k ≡ moved d (run d k)
  old_run k w = at_front kept n (limited_at d) (limit_lead d) k (omega (arith, kept_count)) ∙ kept_is k w

  old_run_in : (k : ℕ) → Within m k → Within (run_count (limits_below d)) k
  old_run_in k w = front_in kept n (limited_at d) (limit_lead d) k (omega (arith, kept_count))

  limit_lead_is : (v : ℕ) → Within n v → limited_at d v ≡ true → run (limits_below d) (limit_lead_of v) ≡ limit_lead d v
  limit_lead_is v w e = ap (run (limits_below d)) (sym (limit_lead_place v)) ∙ at_place kept n (limited_at d) (limit_lead d) v w e

  limit_lead_in : (v : ℕ) → Within n v → limited_at d v ≡ true → Within (run_count (limits_below d)) (limit_lead_of v)
  limit_lead_in v w e = subst (Within (run_count (limits_below d))) (limit_lead_place v) (place_in kept n (limited_at d) (limit_lead d) v w e)

  pub sum_runs : (g : Run → ℕ → ℕ) → sum_to (run_count (limits_below d)) (λ k. g (run (limits_below d) k) k)
      ≡ sum_to m (λ k. g (moved d (run d k)) k) + sum_to n (λ v. only (limited_at d v) (g (limit_lead d v) (limit_lead_of v)))
  sum_runs g =
      sum_all kept n (limited_at d) (limit_lead d) g
      ∙ ap₂ ◌+◌ (ap (λ z. sum_to z (λ k. g (nth kept k no_run) k)) kept_count ∙ sum_same m _ _ (λ k w. ap (λ r. g r k) (kept_is k w)))
      (sum_same n _ _ (λ v w. ap (λ z. only (limited_at d v) (g (limit_lead d v) z)) (limit_lead_place v)))

pub limits_lawful : (d : Network) → Lawful d → Lawful (limits_below d)
limits_lawful d law =
    record {
      some_point = omega (arith, point_count_lem d, law.some_point);
      each_run = each_all (kept d) (n d) (limited_at d) (limit_lead d) (λ r k. LawfulRun (point_count (limits_below d)) r)
          (λ k w. let u : Within (m d) k = omega (arith, kept_count d) in subst (LawfulRun (point_count (limits_below d))) (sym (kept_is d k u)) (old_lawful k u))
          (λ v w e. record { tail_in = first_in d v w; head_in = second_in d v w; apart = λ q. omega (arith, law.some_point); ordered = zero-le; link_lower = λ e. refl });
    }
  where
    tail_apart : (b : Bool) (t h : ℕ) → Within (point_count d) t → Within (point_count d) h → (t ≡ h → ⊥) → cond b (point_count d + t) t ≡ h → ⊥
    tail_apart true t h u w ne q = omega arith
    tail_apart false t h u w ne q = ne q

    old_lawful : (k : ℕ) → Within (run_count d) k → LawfulRun (point_count (limits_below d)) (moved d (run d k))
    old_lawful k u = let h = law.each_run k u in
        record { tail_in = exit_in d _ h.tail_in; head_in = first_in d _ h.head_in; apart = tail_apart (limited_at d (run d k).tail) (run d k).tail (run d k).head h.tail_in h.head_in h.apart; ordered = h.ordered; link_lower = h.link_lower }

no_back : (k : Kind) (lo up : ℕ) (f : ℤ) → is_link k ≡ false → InRange k lo up f → back f ≡ 0
no_back Lead lo up f e h = (lead_flow lo up f h).2
no_back Link lo up f e h = absurd (true≢false e)

-- what leaves t leaves it, or the point beyond it
exit_here : (b : Bool) (n t v x : ℕ) → Within n t → Within n v → only (eqb (cond b (n + t) t) v) x ≡ only (not b) (only (eqb t v) x)
exit_here true n t v x wt wv = ap (λ c. only c x) (ne_eqb (n + t) v (λ q. omega arith))
exit_here false n t v x wt wv = refl

same_test : (n t v : ℕ) → eqb (n + t) (n + v) ≡ eqb t v
same_test n t v = ⊎_elim
    (λ (e : t ≡ v). eq-eqb (n + t) (n + v) (omega arith) ∙ sym (eq-eqb t v e))
    (λ (e : t ≡ v → ⊥). ne_eqb (n + t) (n + v) (λ q. e (omega arith)) ∙ sym (ne_eqb t v e))
    (cases_eq t v)

exit_there : (b : Bool) (n t v x : ℕ) → Within n t → Within n v → only (eqb (cond b (n + t) t) (n + v)) x ≡ only b (only (eqb t v) x)
exit_there true n t v x wt wv = ap (λ c. only c x) (same_test n t v)
exit_there false n t v x wt wv = ap (λ c. only c x) (ne_eqb t (n + v) (λ q. omega arith))

pub only_swap : (a b : Bool) (x : ℕ) → only a (only b x) ≡ only b (only a x)
only_swap a b x = grind arith

-- a test of t stands for the test of v where they are equal
moved_test : (f : ℕ → Bool) (t v x : ℕ) → only (f t) (only (eqb t v) x) ≡ only (f v) (only (eqb t v) x)
moved_test f t v x = ⊎_elim
    (λ (e : t ≡ v). ap (λ z. only (f z) (only (eqb t v) x)) e)
    (λ (e : t ≡ v → ⊥). ap (λ c. only (f t) (only c x)) (ne_eqb t v e) ∙ only_zero (f t) ∙ sym (ap (λ c. only (f v) (only c x)) (ne_eqb t v e) ∙ only_zero (f v)))
    (cases_eq t v)

module _ (d : Network) (law : Lawful d) (links_below : uses d Links ≡ false) (p : Plan) (ok : Feasible (limits_below d) p) where
  old_range : (k : ℕ) → Within (m d) k → InRange (run d k).kind (run d k).lower (run d k).upper (flow p k)
  old_range k w = subst (λ r. InRange r.kind r.lower r.upper (flow p k)) (old_run d k w) (ok.in_range k (old_run_in d k w))

  forward : (k : ℕ) → Within (m d) k → back (flow p k) ≡ 0
  forward k w = no_back (run d k).kind _ _ (flow p k) (none_to (m d) _ links_below k w) (old_range k w)

  abbrev through : ℕ → ℕ
  through v = forth (flow p (limit_lead_of d v))

  limit_lead_range : (v : ℕ) → Within (n d) v → limited_at d v ≡ true → (through v ≤ limit_of (point d v).limit) × (back (flow p (limit_lead_of d v)) ≡ 0)
  limit_lead_range v w e =
      let h = lead_flow 0 (limit_of (point d v).limit) (flow p (limit_lead_of d v)) (subst (λ r. InRange r.kind r.lower r.upper (flow p (limit_lead_of d v))) (limit_lead_is d v w e) (ok.in_range (limit_lead_of d v) (limit_lead_in d v w e))) in
      (h.1, h.2)

  abbrev q : Plan
  q = limits_plan d p

  flow_is : (k : ℕ) → Within (m d) k → flow q k ≡ flow p k
  flow_is k w = nth_made (flow p) (m d) k (pos 0) w

  supply_is : (v : ℕ) → Within (n d) v → supply q v ≡ supply p v
  supply_is v w = nth_made (supply p) (n d) v 0 w

  delivery_is : (v : ℕ) → Within (n d) v → delivery q v ≡ delivery p (exit d v)
  delivery_is v w = nth_made (λ u. delivery p (exit d u)) (n d) v 0 w

  -- by runs, to and from v, as all are leads
  abbrev to : ℕ → ℕ → ℕ
  to v k = only (eqb (run d k).head v) (forth (flow p k))

  abbrev from : ℕ → ℕ → ℕ
  from v k = only (eqb (run d k).tail v) (forth (flow p k))

  entering_is : (v : ℕ) → entering d q v ≡ sum_to (m d) (to v)
  entering_is v = sum_same (m d) _ (to v) (λ k w. ap (λ f. brings (run d k) f v) (flow_is k w) ∙ omega (arith, ap (only (eqb (run d k).tail v)) (forward k w), only_zero (eqb (run d k).tail v)))

  leaving_is : (v : ℕ) → leaving d q v ≡ sum_to (m d) (from v)
  leaving_is v = sum_same (m d) _ (from v) (λ k w. ap (λ f. takes (run d k) f v) (flow_is k w) ∙ omega (arith, ap (only (eqb (run d k).head v)) (forward k w), only_zero (eqb (run d k).head v)))

  -- by the leads for limits
  limit_lead_brings : (u v : ℕ) → Within (n d) u → only (limited_at d u) (brings (limit_lead d u) (flow p (limit_lead_of d u)) v) ≡ only (limited_at d u) (only (eqb (n d + u) v) (through u))
  limit_lead_brings u v w = only_same (limited_at d u) _ _ (λ e. omega (arith, ap (only (eqb u v)) (limit_lead_range u w e).1, only_zero (eqb u v)))

  limit_lead_takes : (u v : ℕ) → Within (n d) u → only (limited_at d u) (takes (limit_lead d u) (flow p (limit_lead_of d u)) v) ≡ only (limited_at d u) (only (eqb u v) (through u))
  limit_lead_takes u v w = only_same (limited_at d u) _ _ (λ e. omega (arith, ap (only (eqb (n d + u) v)) (limit_lead_range u w e).1, only_zero (eqb (n d + u) v)))

  module _ (v : ℕ) (w : Within (n d) v) where
    first_entering : entering (limits_below d) p v ≡ entering d q v
    first_entering = sum_runs d (λ r k. brings r (flow p k) v) ∙
        omega (
          arith,
          entering_is v,
          sum_same (m d) (λ k. brings (moved d (run d k)) (flow p k) v) (to v)
              (λ k i. omega (arith, ap (only (eqb (exit d (run d k).tail) v)) (forward k i), only_zero (eqb (exit d (run d k).tail) v))),
          sum_none (n d) (λ u. only (limited_at d u) (brings (limit_lead d u) (flow p (limit_lead_of d u)) v))
              (λ u i. limit_lead_brings u v i ∙ ap (λ c. only (limited_at d u) (only c (through u))) (ne_eqb (n d + u) v (λ q. omega arith)) ∙ only_zero (limited_at d u)),
        )

    first_leaving : leaving (limits_below d) p v ≡ only (not (limited_at d v)) (leaving d q v) + only (limited_at d v) (through v)
    first_leaving = sum_runs d (λ r k. takes r (flow p k) v) ∙
        ap₂ ◌+◌
        (sum_same (m d) _ (λ k. only (not (limited_at d v)) (from v k))
        (λ k i. let r = run d k in
        let back_none = ap (only (eqb r.head v)) (forward k i) ∙ only_zero (eqb r.head v) in
        let here = exit_here (limited_at d r.tail) (n d) r.tail v (forth (flow p k)) (law.each_run k i).tail_in w in
        omega (arith, back_none, here, moved_test (λ z. not (limited_at d z)) r.tail v (forth (flow p k))))
        ∙ sym (only_sum (not (limited_at d v)) (m d) (from v)) ∙ ap (only (not (limited_at d v))) (sym (leaving_is v)))
        (sum_same (n d) _ (λ u. only (eqb u v) (only (limited_at d u) (through u))) (λ u i. limit_lead_takes u v i ∙ only_swap (limited_at d u) (eqb u v) (through u))
        ∙ sum_at (n d) v (λ u. only (limited_at d u) (through u)) w)

    second_entering : entering (limits_below d) p (n d + v) ≡ only (limited_at d v) (through v)
    second_entering = sum_runs d (λ r k. brings r (flow p k) (n d + v)) ∙
        omega (
          arith,
          sum_none (m d) (λ k. brings (moved d (run d k)) (flow p k) (n d + v))
              (λ k i. let r = run d k in
              let h = (law.each_run k i).head_in in
              omega (arith, ap (only (eqb (exit d r.tail) (n d + v))) (forward k i), only_zero (eqb (exit d r.tail) (n d + v)), ap (λ c. only c (forth (flow p k))) (ne_eqb r.head (n d + v) (λ q. omega arith)))),
          sum_same (n d) (λ u. only (limited_at d u) (brings (limit_lead d u) (flow p (limit_lead_of d u)) (n d + v))) (λ u. only (eqb u v) (only (limited_at d u) (through u)))
              (λ u i. limit_lead_brings u (n d + v) i ∙ ap (λ c. only (limited_at d u) (only c (through u))) (same_test (n d) u v) ∙ only_swap (limited_at d u) (eqb u v) (through u)),
          sum_at (n d) v (λ u. only (limited_at d u) (through u)) w,
        )

    second_leaving : leaving (limits_below d) p (n d + v) ≡ only (limited_at d v) (leaving d q v)
    second_leaving = sum_runs d (λ r k. takes r (flow p k) (n d + v)) ∙
        omega (
          arith,
          sum_same (m d) (λ k. takes (moved d (run d k)) (flow p k) (n d + v)) (λ k. only (limited_at d v) (from v k))
              (λ k i. let r = run d k in
              let back_none = ap (only (eqb r.head (n d + v))) (forward k i) ∙ only_zero (eqb r.head (n d + v)) in
              let there = exit_there (limited_at d r.tail) (n d) r.tail v (forth (flow p k)) (law.each_run k i).tail_in w in
              omega (arith, back_none, there, moved_test (limited_at d) r.tail v (forth (flow p k)))),
          only_sum (limited_at d v) (m d) (from v),
          ap (only (limited_at d v)) (leaving_is v),
          sum_none (n d) (λ u. only (limited_at d u) (takes (limit_lead d u) (flow p (limit_lead_of d u)) (n d + v)))
              (λ u i. limit_lead_takes u (n d + v) i ∙ ap (λ c. only (limited_at d u) (only c (through u))) (ne_eqb u (n d + v) (λ q. omega arith)) ∙ only_zero (limited_at d u)),
        )

    -- nothing is supplied beyond, nothing delivered before such a lead
    second_supply : supply p (n d + v) ≡ 0
    second_supply = ok.racks_supply (n d + v) (second_in d v w) (ap (λ z. is_rack z.mark) (second_point d v w) ∙ beyond_rack (point d v).mark (limited_at d v))

    limited_balance : limited_at d v ≡ true → (entering d q v + supply q v ≡ through v) × (through v ≡ leaving d q v + delivery q v)
    limited_balance e =
        let none = ok.bars_deliver v (first_in d v w) (ap (λ z. is_bar z.mark) (first_point d v w) ∙ entry_bar (point d v).mark (limited_at d v) e) in
        let out = first_leaving ∙ ap₂ ◌+◌ (ap (λ b. only (not b) (leaving d q v)) e) (ap (λ b. only b (through v)) e) in
        let in₂ = second_entering ∙ ap (λ b. only b (through v)) e in
        let out₂ = second_leaving ∙ ap (λ b. only b (leaving d q v)) e in
        let there = delivery_is v w ∙ ap (λ b. delivery p (cond b (n d + v) v)) e in (
          omega (arith, supply_is v w, none, out, first_entering, ok.balanced v (first_in d v w)),
          omega (arith, there, in₂, out₂, second_supply, ok.balanced (n d + v) (second_in d v w)),
        )

    unlimited_balance : limited_at d v ≡ false → entering d q v + supply q v ≡ leaving d q v + delivery q v
    unlimited_balance e =
        let out = first_leaving ∙ ap₂ ◌+◌ (ap (λ b. only (not b) (leaving d q v)) e) (ap (λ b. only b (through v)) e) in
        let here = delivery_is v w ∙ ap (λ b. delivery p (cond b (n d + v) v)) e in
        omega (arith, supply_is v w, out, here, first_entering, ok.balanced v (first_in d v w))

    balance : entering d q v + supply q v ≡ leaving d q v + delivery q v
    balance = ⊎_elim (λ (e : limited_at d v ≡ true). (limited_balance e).0 ∙ (limited_balance e).1) unlimited_balance (cases_Bool (limited_at d v))

    delivered_none : is_bar (point d v).mark ≡ false → delivery p (exit d v) ≡ 0
    delivered_none e =
        let first = ok.bars_deliver v (first_in d v w) (ap (λ z. is_bar z.mark) (first_point d v w) ∙ entry_no_bar (point d v).mark (limited_at d v) e) in
        let second = ok.bars_deliver (n d + v) (second_in d v w) (ap (λ z. is_bar z.mark) (second_point d v w) ∙ beyond_bar (point d v).mark (limited_at d v) e) in
        ⊎_elim (λ (l : limited_at d v ≡ true). ap (λ b. delivery p (cond b (n d + v) v)) l ∙ second) (λ (l : limited_at d v ≡ false). ap (λ b. delivery p (cond b (n d + v) v)) l ∙ first) (cases_Bool (limited_at d v))

  limits_feasible : Feasible d (limits_plan d p)
  limits_feasible =
      record {
        flow_count = length-map-range_with_len (flow p) 1 (m d);
        supply_count = length-map-range_with_len (supply p) 1 (n d);
        delivery_count = length-map-range_with_len (λ u. delivery p (exit d u)) 1 (n d);
        racks_supply = λ v w e. supply_is v w ∙ ok.racks_supply v (first_in d v w) (ap (λ z. is_rack z.mark) (first_point d v w) ∙ entry_rack (point d v).mark (limited_at d v) e);
        bars_deliver = λ v w e. delivery_is v w ∙ delivered_none v w e;
        in_range = λ k w. subst (InRange (run d k).kind (run d k).lower (run d k).upper) (sym (flow_is k w)) (old_range k w);
        balanced = balance;
        limited = λ v w. under_by (point d v).limit _ (λ e. omega (arith, (limited_balance v w e).0, (limit_lead_range v w e).0));
      }

  limits_total : supplied d (limits_plan d p) ≡ supplied (limits_below d) p
  limits_total =
      omega (
        arith,
        sum_same (n d) (supply q) (supply p) supply_is,
        ap (λ z. sum_to z (supply p)) (point_count_lem d),
        sum_append (n d) (n d) (supply p),
        sum_none (n d) (λ v. supply p (n d + v)) second_supply,
      )

-- the labels as they are read
push : {A B : Type 0} (f : A → B) (b : Bool) (x y : A) → f (cond b x y) ≡ cond b (f x) (f y)
push f true x y = refl
push f false x y = refl

module _ (d : Network) (ls : List Label) (marked : Labelling (limits_below d) ls) where
  abbrev up : List Label
  up = limits_labels d ls

  label_is : (v : ℕ) → Within (n d) v → label up v ≡ read (limited_at d v) (label ls v) (label ls (n d + v))
  label_is v w = nth_made (λ u. cond (limited_at d u) (merged (label ls u) (label ls (n d + u))) (label ls u)) (n d) v _ w

  loose : (v : ℕ) → Within (point_count (limits_below d)) v → is_some (point (limits_below d) v).limit ≡ false → is_tight (label ls v) ≡ false
  loose v w e = not_so (is_tight (label ls v)) (λ t. true≢false (sym (marked.tight_limited v w t) ∙ e))
    where
      not_so : (b : Bool) → (b ≡ true → ⊥) → b ≡ false
      not_so true h = absurd (h refl)
      not_so false h = refl

  first_loose : (v : ℕ) → Within (n d) v → is_tight (label ls v) ≡ false
  first_loose v w = loose v (first_in d v w) (ap (λ z. is_some z.limit) (first_point d v w))

  second_loose : (v : ℕ) → Within (n d) v → is_tight (label ls (n d + v)) ≡ false
  second_loose v w = loose (n d + v) (second_in d v w) (ap (λ z. is_some z.limit) (second_point d v w))

  up_labelling : Labelling d up
  up_labelling =
      record {
        label_count = length-map-range_with_len _ 1 (n d);
        tight_limited = λ v w e. merged_tight (limited_at d v) (label ls v) (label ls (n d + v)) (first_loose v w) (sym (ap is_tight (label_is v w)) ∙ e);
      }

  racks_read : far_rack (limits_below d) ls ≡ false → far_rack d up ≡ false
  racks_read e = some_none (n d) _ (λ v w.
      let here = sym (ap (λ z. is_rack z.mark && is_far (label ls v)) (first_point d v w)) ∙ none_to (point_count (limits_below d)) _ e v (first_in d v w) in
      ap (λ l. is_rack (point d v).mark && is_far l) (label_is v w) ∙ merged_rack (point d v).mark (limited_at d v) (label ls v) (label ls (n d + v)) (first_loose v w) here)

  bars_read : near_bar (limits_below d) ls ≡ false → near_bar d up ≡ false
  bars_read e = some_none (n d) _ (λ v w.
      let here = sym (ap (λ z. is_bar z.mark && is_near (label ls v)) (first_point d v w)) ∙ none_to (point_count (limits_below d)) _ e v (first_in d v w) in
      let there = sym (ap (λ z. is_bar z.mark && is_near (label ls (n d + v))) (second_point d v w)) ∙ none_to (point_count (limits_below d)) _ e (n d + v) (second_in d v w) in
      ap (λ l. is_bar (point d v).mark && is_near l) (label_is v w) ∙ merged_bar (point d v).mark (limited_at d v) (label ls v) (label ls (n d + v)) here there)

  throttled_down : throttled (limits_below d) ls ≡ 0
  throttled_down =
      omega (
        arith,
        ap (λ z. sum_to z f) (point_count_lem d),
        sum_append (n d) (n d) f,
        sum_none (n d) f (λ v w. ap (λ z. only (is_tight (label ls v)) (limit_of z.limit)) (first_point d v w) ∙ only_zero (is_tight (label ls v))),
        sum_none (n d) (λ v. f (n d + v)) (λ v w. ap (λ z. only (is_tight (label ls (n d + v))) (limit_of z.limit)) (second_point d v w) ∙ only_zero (is_tight (label ls (n d + v)))),
      )
    where
      f : ℕ → ℕ
      f v = only (is_tight (label ls v)) (limit_of (point (limits_below d) v).limit)

  module _ (law : Lawful d) (links_below : uses d Links ≡ false) where
    abbrev A : ℕ → ℕ
    A k = adds (run d k).kind (label ls (exit d (run d k).tail)) (label ls (run d k).head) (run d k).upper

    abbrev D : ℕ → ℕ
    D k = deducts (run d k).kind (label ls (exit d (run d k).tail)) (label ls (run d k).head) (run d k).lower

    abbrev A' : ℕ → ℕ
    A' k = adds (run d k).kind (label up (run d k).tail) (label up (run d k).head) (run d k).upper

    abbrev D' : ℕ → ℕ
    D' k = deducts (run d k).kind (label up (run d k).tail) (label up (run d k).head) (run d k).lower

    crossing_down : crossing (limits_below d) ls ≡ sum_to (m d) A + throttled d up
    crossing_down =
        sum_runs d (λ r k. adds r.kind (label ls r.tail) (label ls r.head) r.upper)
        ∙ ap (λ z. sum_to (m d) A + z) (sum_same (n d) _ _ (λ v w.
        merged_limit (limited_at d v) (label ls v) (label ls (n d + v)) (limit_of (point d v).limit) (first_loose v w) (second_loose v w)
        ∙ ap (λ l. only (is_tight l) (limit_of (point d v).limit)) (sym (label_is v w))))

    forced_down : forced (limits_below d) ls ≡ sum_to (m d) D
    forced_down =
        sum_runs d (λ r k. deducts r.kind (label ls r.tail) (label ls r.head) r.lower)
        ∙ omega (
          arith,
          sum_none (n d) (λ v. only (limited_at d v) (deducts Lead (label ls v) (label ls (n d + v)) 0))
              (λ v w. ap (only (limited_at d v)) (only_zero _) ∙ only_zero (limited_at d v)),
        )

    read_run : (k : ℕ) → Within (m d) k → A' k + D k ≤ A k + D' k
    read_run k w =
        let r = run d k in
        let h = law.each_run k w in
        let t = r.tail in
        let P : Label → Label → Label → Type 0 = λ a b c. adds r.kind a b r.upper + deducts r.kind c (label ls r.head) r.lower
        ≤ adds r.kind c (label ls r.head) r.upper + deducts r.kind a b r.lower in
        subst₃ P (sym (label_is t h.tail_in)) (sym (label_is r.head h.head_in)) (sym (push (label ls) (limited_at d t) (n d + t) t))
        (merged_run r.kind (limited_at d t) (limited_at d r.head) (label ls t) (label ls (n d + t)) (label ls r.head) (label ls (n d + r.head)) r.lower r.upper
        (none_to (m d) _ links_below k w) (first_loose t h.tail_in) (second_loose t h.tail_in) (first_loose r.head h.head_in) (second_loose r.head h.head_in))

    read_worth : worth d up ≤ℤ worth (limits_below d) ls
    read_worth =
        omega (arith, ints, sum_below (m d) (λ k. A' k + D k) (λ k. A k + D' k) read_run, sum_plus (m d) A' D, sum_plus (m d) A D', crossing_down, forced_down, throttled_down)

pub limits_right : (d : Network) → Lawful d → uses d Links ≡ false → (a : Answer) → Right (limits_below d) a → Right d (limits_above d a)
limits_right d law u (Planned p t ls) (ok, sum, cut, equal) =
    let sound = limits_feasible d law u p ok in
    let cut' : Cut d (limits_labels d ls) = record {
      labelled = up_labelling d ls cut.labelled;
      no_far_rack = racks_read d ls cut.labelled cut.no_far_rack;
      no_near_bar = bars_read d ls cut.labelled cut.no_near_bar;
    } in
    let sum' : t ≡ total (limits_plan d p) = omega (arith, sum, limits_total d law u p ok, total_is (limits_below d) p ok, total_is d (limits_plan d p) sound) in
    (sound, sum', cut', omega (arith, ints, equal, sum', read_worth d ls cut.labelled law u, weak_duality d law (limits_plan d p) sound (limits_labels d ls) cut'))
limits_right d law u (Short ls) short =
    record {
      labelled = up_labelling d ls short.labelled;
      negative = omega (arith, ints, short.negative, read_worth d ls short.labelled law u);
      not_both = ⊎_elim
          (λ (e : far_rack (limits_below d) ls ≡ false). and_left _ _ (racks_read d ls short.labelled e))
          (λ (e : near_bar (limits_below d) ls ≡ false). and_right _ _ (bars_read d ls short.labelled e))
          (and_cases _ _ short.not_both);
    }

-- The lead of the limit of point i + 1, and its label and delivery, as code writes and reads them.
module _ (d : Network) (i n : ℕ) (same : n ≡ point_count d) where
  second_at : point_count d + suc i ≡ suc (n + i)
  second_at = omega arith

  module _ (l : ℕ) (e : (point d (suc i)).limit ≡ Some l) where
    has_limit : limited_at d (suc i) ≡ true
    has_limit = ap is_some e

    pub limit_lead_lem : ◌≡◌ {A = Run} (record { kind = Lead; tail = i + 1; head = n + (i + 1); lower = 0; upper = l }) (limit_lead d (suc i))
    limit_lead_lem =
        let h : n + (i + 1) ≡ point_count d + suc i = omega arith in
        ap₂ (λ t x. let r : Run = record { kind = Lead; tail = t; head = x; lower = 0; upper = l } in r) (add-one i) h
        ∙ ap (λ o. let r : Run = record { kind = Lead; tail = suc i; head = point_count d + suc i; lower = 0; upper = limit_of o } in r) (sym e)

    pub limited_label : (ls : List Label) → merged (get_or ls i Near) (get_or ls (n + i) Near) ≡ limits_label d ls (suc i)
    limited_label ls = ap (λ k. merged (label ls (suc i)) (label ls k)) (sym second_at) ∙ sym (cond-true (limited_at d (suc i)) _ _ has_limit)

    pub limited_delivery : (p : Plan) → get_or p.deliveries (n + i) 0 ≡ delivery p (exit d (suc i))
    limited_delivery p = ap (delivery p) (sym second_at ∙ sym (cond-true (limited_at d (suc i)) _ _ has_limit))

  module _ (e : (point d (suc i)).limit ≡ None) where
    no_limit : limited_at d (suc i) ≡ false
    no_limit = ap is_some e

    pub unlimited_label : (ls : List Label) → get_or ls i Near ≡ limits_label d ls (suc i)
    unlimited_label ls = sym (cond-false (limited_at d (suc i)) _ _ no_limit)

    pub unlimited_delivery : (p : Plan) → get_or p.deliveries i 0 ≡ delivery p (exit d (suc i))
    unlimited_delivery p = ap (delivery p) (sym (cond-false (limited_at d (suc i)) _ _ no_limit))

-- more flows and supplies are found below than there are runs and points
pub flows_below : (d : Network) (p : Plan) → Feasible (limits_below d) p → (run_count d ≤ length p.flows) × (point_count d ≤ length p.supplies)
flows_below d p ok = (
  omega (arith, ok.flow_count, count_all (kept d) (point_count d) (limited_at d) (limit_lead d), kept_count d),
  omega (arith, ok.supply_count, point_count_lem d),
)
