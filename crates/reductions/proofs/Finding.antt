-- The lower-bounds layer where all lowers can be had: the flow found balances, with the last lead's flow supplied and delivered.
use Rattle.std.proofs.Common.{◌≡◌, ℕ, ◌+◌, ◌-◌, ◌<◌, ◌≤◌, true, false, eqb, ℤ, sym, refl, ap, ◌∙◌, subst, ap₂, ⊎_elim, arith}
use Rattle.std.proofs.lemmas.Bool.{cases_eq, eq-eqb, ne_eqb}
use Rattle.drawing.specs.declared.Run.{Run}
use Rattle.drawing.specs.Counts.{Within, sum_to, only}
use Rattle.drawing.specs.Drawings.{Network, Lawful, point_count, run_count, point, run, is_rack, is_bar, uses}
use Rattle.drawing.specs.declared.Feature.TheVariants.{Terminals}
use Rattle.drawing.specs.Plans.{Plan, Feasible, InRange, flow, supply, delivery, forth, back, brings, takes, entering, leaving}
use Rattle.reductions.specs.Terminals.{new_rack, new_bar}
use Rattle.reductions.specs.LowerBounds.{old_rack, old_bar, lowers_in, lowers_out, all_lowers, uppers_out, slack, supply_lead, demand_lead, return_lead, lowers_first, found, last_flow}
use Rattle.reductions.proofs.Supplied.{supplied}
use Rattle.drawing.proofs.Sums.{sum_same, sum_none, sum_plus, only_zero, only_plus, sum_at}
use Rattle.duality.proofs.Flows.{lead_flow}
use Rattle.reductions.proofs.Terminals.{old_point, the_rack, the_bar, sum_points, old_in, rack_in, bar_in}
use Rattle.reductions.proofs.LowersFirst.{run_count_lem, src_of, snk_of, last_of, slack_at, src_at, snk_at, last_at, sum_runs, the_one_rack, the_one_bar, first_lawful}
use Rattle.reductions.proofs.Ones.{sum_full, gather₁}
use Rattle.duality.proofs.Duality.{delivered}

-- a lead's flow has no backward part
pub brings_lead : (r : Run) (f : ℤ) (v : ℕ) → back f ≡ 0 → (brings r f v ≡ only (eqb r.head v) (forth f)) × (takes r f v ≡ only (eqb r.tail v) (forth f))
brings_lead r f v e =
    let a = ap (only (eqb r.tail v)) e ∙ only_zero (eqb r.tail v) in
    let b = ap (only (eqb r.head v)) e ∙ only_zero (eqb r.head v) in
    (omega (arith, a), omega (arith, b))

eqb_sym : (a b : ℕ) → eqb a b ≡ eqb b a
eqb_sym a b = ⊎_elim (λ (e : a ≡ b). eq-eqb a b e ∙ sym (eq-eqb b a (sym e))) (λ (e : a ≡ b → ⊥). ne_eqb a b e ∙ sym (ne_eqb b a (λ q. e (sym q)))) (cases_eq a b)

module _ (d : Network) (law : Lawful d) (plain-ends : uses d Terminals ≡ false) (p : Plan) (ok : Feasible (lowers_first d) p) where
  abbrev n : ℕ
  n = point_count d

  abbrev m : ℕ
  m = run_count d

  abbrev d₁ : Network
  d₁ = lowers_first d

  -- the flows of the leads, of those that were added for each point, and of the last
  abbrev g : ℕ → ℕ
  g k = forth (flow p k)

  abbrev src : ℕ → ℕ
  src v = forth (flow p (src_of d v))

  abbrev snk : ℕ → ℕ
  snk v = forth (flow p (snk_of d v))

  abbrev ret : ℕ
  ret = last_flow d p

  ranged : (k : ℕ) → Within (run_count d₁) k → (r : Run) → run d₁ k ≡ r → InRange r.kind r.lower r.upper (flow p k)
  ranged k w r e = subst (λ r. InRange r.kind r.lower r.upper (flow p k)) e (ok.in_range k w)

  slack_range : (k : ℕ) → Within m k → (g k ≤ (run d k).upper - (run d k).lower) × (back (flow p k) ≡ 0)
  slack_range k w = let h = lead_flow 0 ((run d k).upper - (run d k).lower) (flow p k) (ranged k (omega (arith, run_count_lem d)) (slack (run d k)) (slack_at d k w)) in (h.1, h.2)

  src_range : (v : ℕ) → Within n v → (src v ≤ lowers_in d v) × (back (flow p (src_of d v)) ≡ 0)
  src_range v w = let h = lead_flow 0 (lowers_in d v) (flow p (src_of d v)) (ranged (src_of d v) (omega (arith, run_count_lem d)) (supply_lead d v) (src_at d v w)) in (h.1, h.2)

  snk_range : (v : ℕ) → Within n v → (snk v ≤ lowers_out d v) × (back (flow p (snk_of d v)) ≡ 0)
  snk_range v w = let h = lead_flow 0 (lowers_out d v) (flow p (snk_of d v)) (ranged (snk_of d v) (omega (arith, run_count_lem d)) (demand_lead d v) (snk_at d v w)) in (h.1, h.2)

  ret_back : back (flow p (last_of d)) ≡ 0
  ret_back = (lead_flow 0 (uppers_out d (old_rack d)) (flow p (last_of d)) (ranged (last_of d) (omega (arith, run_count_lem d)) (return_lead d) (last_at d))).2

  entering₁ : (v : ℕ) → entering d₁ p v ≡ sum_to m (λ k. only (eqb (run d k).head v) (g k))
      + (sum_to n (λ u. only (eqb u v) (src u)) + sum_to n (λ u. only (eqb (new_bar d) v) (snk u)) + only (eqb (old_rack d) v) ret)
  entering₁ v =
      sum_runs d (λ r k. brings r (flow p k) v)
      ∙ ap₂ ◌+◌ (sum_same m _ _ (λ k w. (brings_lead (slack (run d k)) (flow p k) v (slack_range k w).1).0))
      (ap₂ ◌+◌ (ap₂ ◌+◌ (sum_same n _ _ (λ u w. (brings_lead (supply_lead d u) _ v (src_range u w).1).0)) (sum_same n _ _ (λ u w. (brings_lead (demand_lead d u) _ v (snk_range u w).1).0)))
      (brings_lead (return_lead d) _ v ret_back).0)

  leaving₁ : (v : ℕ) → leaving d₁ p v ≡ sum_to m (λ k. only (eqb (run d k).tail v) (g k))
      + (sum_to n (λ u. only (eqb (new_rack d) v) (src u)) + sum_to n (λ u. only (eqb u v) (snk u)) + only (eqb (old_bar d) v) ret)
  leaving₁ v =
      sum_runs d (λ r k. takes r (flow p k) v)
      ∙ ap₂ ◌+◌ (sum_same m _ _ (λ k w. (brings_lead (slack (run d k)) (flow p k) v (slack_range k w).1).1))
      (ap₂ ◌+◌ (ap₂ ◌+◌ (sum_same n _ _ (λ u w. (brings_lead (supply_lead d u) _ v (src_range u w).1).1)) (sum_same n _ _ (λ u w. (brings_lead (demand_lead d u) _ v (snk_range u w).1).1)))
      (brings_lead (return_lead d) _ v ret_back).1)

  -- sums of which no term is at v
  off : (x v : ℕ) (f : ℕ → ℕ) → (x ≡ v → ⊥) → sum_to n (λ u. only (eqb x v) (f u)) ≡ 0
  off x v f ne = sum_none n _ (λ u w. ap (λ t. only t (f u)) (ne_eqb x v ne))

  on : (v : ℕ) (f : ℕ → ℕ) → sum_to n (λ u. only (eqb v v) (f u)) ≡ sum_to n f
  on v f = sum_same n _ f (λ u w. ap (λ t. only t (f u)) (eq-eqb v v refl))

  out : (v : ℕ) (f : ℕ → ℕ) → n < v → sum_to n (λ u. only (eqb u v) (f u)) ≡ 0
  out v f h = sum_none n _ (λ u w. ap (λ t. only t (f u)) (ne_eqb u v (λ q. omega arith)))

  far_head : (v : ℕ) → n < v → sum_to m (λ k. only (eqb (run d k).head v) (g k)) ≡ 0
  far_head v h = sum_none m _ (λ k w. ap (λ t. only t (g k)) (ne_eqb (run d k).head v (λ q. let i = (law.each_run k w).head_in in omega arith)))

  far_tail : (v : ℕ) → n < v → sum_to m (λ k. only (eqb (run d k).tail v) (g k)) ≡ 0
  far_tail v h = sum_none m _ (λ k w. ap (λ t. only t (g k)) (ne_eqb (run d k).tail v (λ q. let i = (law.each_run k w).tail_in in omega arith)))

  rack_off : (v : ℕ) → n < v → only (eqb (old_rack d) v) ret ≡ 0
  rack_off v h = ap (λ t. only t ret) (ne_eqb (old_rack d) v (λ q. let i = (the_one_rack d plain-ends).inside in omega arith))

  bar_off : (v : ℕ) → n < v → only (eqb (old_bar d) v) ret ≡ 0
  bar_off v h = ap (λ t. only t ret) (ne_eqb (old_bar d) v (λ q. let i = (the_one_bar d plain-ends).inside in omega arith))

  none_supplied : (v : ℕ) → Within n v → supply p v ≡ 0
  none_supplied v w = ok.racks_supply v (old_in d v w) (ap (λ q. is_rack q.mark) (old_point d v w))

  none_delivered : (v : ℕ) → Within n v → delivery p v ≡ 0
  none_delivered v w = ok.bars_deliver v (old_in d v w) (ap (λ q. is_bar q.mark) (old_point d v w))

  by_source : supplied d₁ p ≡ sum_to n src
  by_source =
      let s = new_rack d in
      let past : n < s = omega arith in
      omega (
        arith,
        sum_points d (supply p),
        sum_none n (supply p) none_supplied,
        ok.racks_supply (new_bar d) (bar_in d) (ap (λ q. is_rack q.mark) (the_bar d)),
        ok.bars_deliver s (rack_in d) (ap (λ q. is_bar q.mark) (the_rack d)),
        ok.balanced s (rack_in d),
        entering₁ s,
        leaving₁ s,
        far_head s past,
        far_tail s past,
        out s src past,
        out s snk past,
        on s src,
        off (new_bar d) s snk (λ q. omega arith),
        rack_off s past,
        bar_off s past,
      )

  by_sink : supplied d₁ p ≡ sum_to n snk
  by_sink =
      let t = new_bar d in
      let past : n < t = omega arith in
      omega (
        arith,
        delivered d₁ (first_lawful d plain-ends law) p ok,
        sum_points d (delivery p),
        sum_none n (delivery p) none_delivered,
        ok.bars_deliver (new_rack d) (rack_in d) (ap (λ q. is_bar q.mark) (the_rack d)),
        ok.racks_supply t (bar_in d) (ap (λ q. is_rack q.mark) (the_bar d)),
        ok.balanced t (bar_in d),
        entering₁ t,
        leaving₁ t,
        far_head t past,
        far_tail t past,
        out t src past,
        out t snk past,
        on t snk,
        off (new_rack d) t src (λ q. omega arith),
        rack_off t past,
        bar_off t past,
      )

  module _ (full : all_lowers d ≤ supplied d₁ p) where
    lowers_in_lem : sum_to n (lowers_in d) ≡ all_lowers d
    lowers_in_lem = gather₁ n m (λ k. (run d k).head) (λ k. (run d k).lower) (λ _. true) (λ k w. (law.each_run k w).head_in)

    lowers_out_lem : sum_to n (lowers_out d) ≡ all_lowers d
    lowers_out_lem = gather₁ n m (λ k. (run d k).tail) (λ k. (run d k).lower) (λ _. true) (λ k w. (law.each_run k w).tail_in)

    all_in : (v : ℕ) → Within n v → src v ≡ lowers_in d v
    all_in = sum_full n src (lowers_in d) (λ v w. (src_range v w).0) (omega (arith, lowers_in_lem, by_source))

    all_out : (v : ℕ) → Within n v → snk v ≡ lowers_out d v
    all_out = sum_full n snk (lowers_out d) (λ v w. (snk_range v w).0) (omega (arith, lowers_out_lem, by_sink))

    split : (h : ℕ → ℕ) (v : ℕ) → sum_to m (λ k. only (eqb (h k) v) (found d p k)) ≡ sum_to m (λ k. only (eqb (h k) v) (run d k).lower) + sum_to m (λ k. only (eqb (h k) v) (g k))
    split h v = sum_same m _ _ (λ k w. only_plus (eqb (h k) v) (run d k).lower (g k)) ∙ sum_plus m _ _

    -- the flow found balances, with the last lead's flow supplied at the rack and delivered at the bar
    pub found_balance : (v : ℕ) → Within n v → sum_to m (λ k. only (eqb (run d k).head v) (found d p k)) + only (is_rack (point d v).mark) ret
        ≡ sum_to m (λ k. only (eqb (run d k).tail v) (found d p k)) + only (is_bar (point d v).mark) ret
    found_balance v w =
        omega (
          arith,
          split (λ k. (run d k).head) v,
          split (λ k. (run d k).tail) v,
          all_in v w,
          all_out v w,
          none_supplied v w,
          none_delivered v w,
          ok.balanced v (old_in d v w),
          entering₁ v,
          leaving₁ v,
          sum_at n v src w,
          sum_at n v snk w,
          off (new_bar d) v snk (λ q. omega arith),
          off (new_rack d) v src (λ q. omega arith),
          ap (λ b. only b ret) ((the_one_rack d plain-ends).alone v w ∙ eqb_sym v (old_rack d)),
          ap (λ b. only b ret) ((the_one_bar d plain-ends).alone v w ∙ eqb_sym v (old_bar d)),
        )

  pub found_range : (k : ℕ) → Within m k → ((run d k).lower ≤ found d p k) × (found d p k ≤ (run d k).upper)
  found_range k w = let h = (slack_range k w).0 in let o = (law.each_run k w).ordered in (omega arith, omega arith)
