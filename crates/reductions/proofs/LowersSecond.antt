-- The lower-bounds layer: right answers to its two networks are read as a right answer.
use Rattle.std.proofs.Common.{◌≡◌, ℕ, ◌+◌, ◌-◌, ◌<◌, ◌≤◌, Bool, true, false, cond, ◌&&◌, eqb, ltb, List, map, length, pos, ◌-ℤ◌, is_some, sym, refl, ap, ◌∙◌, subst, ap₂, ⊎_elim, true≢false, zero-le, arith, length-append}
use Rattle.std.proofs.lemmas.Int.{ints}
use Rattle.std.proofs.lemmas.Bool.{cases_lt, cases_Bool, eqb-true, ltb-true, ltb-false}
use Rattle.std.proofs.lemmas.List.FromFn.{length-map-range_with_len}
use Rattle.std.specs.List.{range_with_len}
use Rattle.drawing.specs.declared.Kind.{Kind}
use Rattle.drawing.specs.declared.Kind.TheVariants.{Lead, Link}
use Rattle.drawing.specs.declared.Run.{Run}
use Rattle.drawing.specs.declared.Label.{Label}
use Rattle.drawing.specs.Counts.{Within, sum_to, only}
use Rattle.drawing.specs.Drawings.{Network, Lawful, LawfulRun, point_count, run_count, no_run, point, run, is_rack, is_bar, is_link, uses}
use Rattle.drawing.specs.declared.Feature.TheVariants.{Links, Limits, Terminals}
use Rattle.drawing.specs.Plans.{Plan, Feasible, InRange, flow, supply, delivery, forth, back, brings, takes, entering, leaving}
use Rattle.drawing.specs.Labels.{is_near, is_tight, is_far, label, adds, deducts, crossing, forced, worth, Cut, Shortage}
use Rattle.drawing.specs.Answers.{Answer, Planned, Short, Right}
use Rattle.reductions.specs.Terminals.{new_rack, new_bar}
use Rattle.reductions.specs.LowerBounds.{old_rack, old_bar, all_lowers, lowers_first, found, last_flow, short_labels, forward_lead, reversed_lead, lowers_second, raised_plan, raised_answer, lowers_above}
use Rattle.reductions.proofs.Supplied.{supplied}
use Rattle.drawing.proofs.Sums.{sum_same, sum_none, sum_plus, only_zero, only_plus}
use Rattle.duality.proofs.Flows.{lead_flow}
use Rattle.reductions.proofs.Places.{nth_made, nth_front, nth_rest, sum_append}
use Rattle.reductions.proofs.Relabel.{then_near, then_far}
use Rattle.reductions.proofs.Terminals.{the_rack, the_bar, rack_in, bar_in}
use Rattle.reductions.proofs.Finding.{brings_lead, found_balance, found_range}
use Rattle.reductions.proofs.LowersFirst.{each_run₁, the_one_rack, the_one_bar, first_lawful, short_worth, short_labelling, short_not_both}
use Rattle.reductions.proofs.Merging.{under_by}
use Rattle.reductions.proofs.Limits.{only_swap}
use Rattle.reductions.proofs.Ones.{One, sum_one, gather₁}
use Rattle.duality.proofs.Duality.{none_to, delivered, total_is, shortage_excludes}

-- with no lowers, nothing at all is a feasible plan
zero_plan : Network → Plan
zero_plan e = record { flows = map (λ _. pos 0) (range_with_len 1 (run_count e)); supplies = map (λ _. 0) (range_with_len 1 (point_count e)); deliveries = map (λ _. 0) (range_with_len 1 (point_count e)) }

zero_range : (k : Kind) (lo up : ℕ) → lo ≡ 0 → InRange k lo up (pos 0)
zero_range Lead lo up e = omega (arith, ints)
zero_range Link lo up e = omega arith

zero_feasible : (e : Network) → ((k : ℕ) → Within (run_count e) k → (run e k).lower ≡ 0) → Feasible e (zero_plan e)
unfolding zero_plan
zero_feasible e h =
    record {
      flow_count = length-map-range_with_len (λ _. pos 0) 1 (run_count e);
      supply_count = length-map-range_with_len (λ _. 0) 1 (point_count e);
      delivery_count = length-map-range_with_len (λ _. 0) 1 (point_count e);
      racks_supply = λ v w _. none v w;
      bars_deliver = λ v w _. none v w;
      in_range = λ k w. subst (InRange (run e k).kind (run e k).lower (run e k).upper) (sym (still k w)) (zero_range (run e k).kind _ (run e k).upper (h k w));
      balanced = λ v w. omega (arith, none v w, entering_none v, leaving_none v);
      limited = λ v w. under_by (point e v).limit _ (λ _. omega (arith, none v w, entering_none v));
    }
  where
    none : (v : ℕ) → Within (point_count e) v → supply (zero_plan e) v ≡ 0
    none v w = nth_made (λ _. 0) (point_count e) v 0 w

    still : (k : ℕ) → Within (run_count e) k → flow (zero_plan e) k ≡ pos 0
    still k w = nth_made (λ _. pos 0) (run_count e) k (pos 0) w

    entering_none : (v : ℕ) → entering e (zero_plan e) v ≡ 0
    entering_none v = sum_none (run_count e) _ (λ k w. ap (λ f. brings (run e k) f v) (still k w) ∙ omega (arith, only_zero (eqb (run e k).head v), only_zero (eqb (run e k).tail v)))

    leaving_none : (v : ℕ) → leaving e (zero_plan e) v ≡ 0
    leaving_none v = sum_none (run_count e) _ (λ k w. ap (λ f. takes (run e k) f v) (still k w) ∙ omega (arith, only_zero (eqb (run e k).head v), only_zero (eqb (run e k).tail v)))

never_short : (e : Network) → Lawful e → ((k : ℕ) → Within (run_count e) k → (run e k).lower ≡ 0) → (ls : List Label) → Shortage e ls → ⊥
never_short e law h ls short = shortage_excludes e law ls short (zero_plan e) (zero_feasible e h)

-- the second network
module _ (d : Network) (p : Plan) where
  abbrev n : ℕ
  n = point_count d

  abbrev m : ℕ
  m = run_count d

  abbrev d₂ : Network
  d₂ = lowers_second d p

  abbrev ups : List Run
  ups = map (forward_lead d p) (range_with_len 1 m)

  abbrev downs : List Run
  downs = map (reversed_lead d p) (range_with_len 1 m)

  ups_count : length ups ≡ m
  ups_count = length-map-range_with_len (forward_lead d p) 1 m

  downs_count : length downs ≡ m
  downs_count = length-map-range_with_len (reversed_lead d p) 1 m

  pub run_count₂ : run_count d₂ ≡ m + m
  run_count₂ = length-append ups downs ∙ ap₂ ◌+◌ ups_count downs_count

  up_at : (k : ℕ) → Within m k → run d₂ k ≡ forward_lead d p k
  up_at k w = nth_front ups downs k no_run (omega (arith, ups_count)) ∙ nth_made (forward_lead d p) m k no_run w

  down_at : (k : ℕ) → Within m k → run d₂ (m + k) ≡ reversed_lead d p k
  down_at k w = ap (λ z. run d₂ (z + k)) (sym ups_count) ∙ nth_rest ups downs k no_run w.0 ∙ nth_made (reversed_lead d p) m k no_run w

  pub sum_runs₂ : (f : Run → ℕ → ℕ) → sum_to (run_count d₂) (λ k. f (run d₂ k) k) ≡ sum_to m (λ k. f (forward_lead d p k) k) + sum_to m (λ k. f (reversed_lead d p k) (m + k))
  sum_runs₂ f =
      ap (λ z. sum_to z (λ k. f (run d₂ k) k)) run_count₂ ∙ sum_append m m (λ k. f (run d₂ k) k)
      ∙ ap₂ ◌+◌ (sum_same m _ _ (λ k w. ap (λ r. f r k) (up_at k w))) (sum_same m _ _ (λ k w. ap (λ r. f r (m + k)) (down_at k w)))

  pub each_run₂ : (P : Run → Type 0) → ((k : ℕ) → Within m k → P (forward_lead d p k) × P (reversed_lead d p k)) → (k : ℕ) → Within (run_count d₂) k → P (run d₂ k)
  each_run₂ P h k w = ⊎_elim
      (λ (q : m < k). let at : m + (k - m) ≡ k = omega arith in let i : Within m (k - m) = omega (arith, run_count₂) in subst (λ z. P (run d₂ z)) at (subst P (sym (down_at (k - m) i)) (h (k - m) i).1))
      (λ (q : k ≤ m). let i : Within m k = omega arith in subst P (sym (up_at k i)) (h k i).0)
      (cases_lt m k)

  pub second_lawful : Lawful d → Lawful d₂
  second_lawful law = record {
    some_point = law.some_point;
    each_run = each_run₂ (LawfulRun n) (λ k w. let h = law.each_run k w in (
      record { tail_in = h.tail_in; head_in = h.head_in; apart = h.apart; ordered = zero-le; link_lower = λ e. refl },
      record { tail_in = h.head_in; head_in = h.tail_in; apart = λ q. h.apart (sym q); ordered = zero-le; link_lower = λ e. refl },
    ));
  }

difference : (x y : ℕ) → y ≤ x → pos x -ℤ pos y ≡ pos (x - y)
difference x y h = omega (arith, ints)

-- the worth that the second network leaves out is what the flow found carries
raise_run : (k : Kind) (a b : Label) (lo up f : ℕ) → is_link k ≡ false → is_tight a ≡ false → is_tight b ≡ false → lo ≤ f → f ≤ up
    → adds k a b up + only (is_near b) f ≡ adds Lead a b (up - f) + adds Lead b a (f - lo) + only (is_near a) f + deducts k a b lo
raise_run k a b lo up f p q r h i = grind arith

lead_range : (k : Kind) (lo up x : ℕ) → is_link k ≡ false → lo ≤ x → x ≤ up → InRange k lo up (pos x)
lead_range Lead lo up x e h i = omega (arith, ints)
lead_range Link lo up x e h i = absurd (true≢false e)

module _ (d : Network) (law : Lawful d) (no_links : uses d Links ≡ false) (no_limits : uses d Limits ≡ false) (plain-ends : uses d Terminals ≡ false)
    (p : Plan) (ok : Feasible (lowers_first d) p) (full : all_lowers d ≤ supplied (lowers_first d) p)
    (p₂ : Plan) (ok₂ : Feasible (lowers_second d p) p₂) where
  abbrev g : ℕ → ℕ
  g k = forth (flow p₂ k)

  abbrev h : ℕ → ℕ
  h k = forth (flow p₂ (m d p + k))

  abbrev f : ℕ → ℕ
  f k = found d p k

  abbrev w : ℕ → ℕ
  w k = f k + g k - h k

  abbrev tot : ℕ
  tot = supplied (lowers_second d p) p₂

  abbrev q : Plan
  q = raised_plan d p p₂ (last_flow d p + tot)

  abbrev rack : ℕ → Bool
  rack v = is_rack (point d v).mark

  abbrev bar : ℕ → Bool
  bar v = is_bar (point d v).mark

  ranged : (k : ℕ) → Within (run_count (lowers_second d p)) k → (r : Run) → run (lowers_second d p) k ≡ r → InRange r.kind r.lower r.upper (flow p₂ k)
  ranged k i r e = subst (λ r. InRange r.kind r.lower r.upper (flow p₂ k)) e (ok₂.in_range k i)

  g_range : (k : ℕ) → Within (m d p) k → (g k ≤ (run d k).upper - f k) × (back (flow p₂ k) ≡ 0)
  g_range k i = let r = lead_flow 0 ((run d k).upper - f k) (flow p₂ k) (ranged k (omega (arith, run_count₂ d p)) (forward_lead d p k) (up_at d p k i)) in (r.1, r.2)

  h_range : (k : ℕ) → Within (m d p) k → (h k ≤ f k - (run d k).lower) × (back (flow p₂ (m d p + k)) ≡ 0)
  h_range k i = let r = lead_flow 0 (f k - (run d k).lower) (flow p₂ (m d p + k)) (ranged (m d p + k) (omega (arith, run_count₂ d p)) (reversed_lead d p k) (down_at d p k i)) in (r.1, r.2)

  f_range : (k : ℕ) → Within (m d p) k → ((run d k).lower ≤ f k) × (f k ≤ (run d k).upper)
  f_range k i = found_range d law plain-ends p ok k i

  flow_is : (k : ℕ) → Within (m d p) k → flow q k ≡ pos (w k)
  flow_is k i = nth_made (λ k. pos (f k + g k) -ℤ pos (h k)) (m d p) k (pos 0) i ∙ difference (f k + g k) (h k) (let a = (h_range k i).0 in omega arith)

  supply_is : (v : ℕ) → Within (n d p) v → supply q v ≡ only (rack v) (last_flow d p + tot)
  supply_is v i = nth_made (λ v. only (rack v) (last_flow d p + tot)) (n d p) v 0 i

  delivery_is : (v : ℕ) → Within (n d p) v → delivery q v ≡ only (bar v) (last_flow d p + tot)
  delivery_is v i = nth_made (λ v. only (bar v) (last_flow d p + tot)) (n d p) v 0 i

  abbrev at : (ℕ → ℕ) → (ℕ → ℕ) → ℕ → ℕ
  at e x v = sum_to (m d p) (λ k. only (eqb (e k) v) (x k))

  abbrev tl : ℕ → ℕ
  tl k = (run d k).tail

  abbrev hd : ℕ → ℕ
  hd k = (run d k).head

  entering_is : (v : ℕ) → entering d q v ≡ at hd w v
  entering_is v = sum_same (m d p) _ _ (λ k i. ap (λ z. brings (run d k) z v) (flow_is k i) ∙ (brings_lead (run d k) (pos (w k)) v refl).0)

  leaving_is : (v : ℕ) → leaving d q v ≡ at tl w v
  leaving_is v = sum_same (m d p) _ _ (λ k i. ap (λ z. takes (run d k) z v) (flow_is k i) ∙ (brings_lead (run d k) (pos (w k)) v refl).1)

  entering₂ : (v : ℕ) → entering (lowers_second d p) p₂ v ≡ at hd g v + at tl h v
  entering₂ v = sum_runs₂ d p (λ r k. brings r (flow p₂ k) v)
      ∙ ap₂ ◌+◌ (sum_same (m d p) _ _ (λ k i. (brings_lead (forward_lead d p k) (flow p₂ k) v (g_range k i).1).0)) (sum_same (m d p) _ _ (λ k i. (brings_lead (reversed_lead d p k) (flow p₂ (m d p + k)) v (h_range k i).1).0))

  leaving₂ : (v : ℕ) → leaving (lowers_second d p) p₂ v ≡ at tl g v + at hd h v
  leaving₂ v = sum_runs₂ d p (λ r k. takes r (flow p₂ k) v)
      ∙ ap₂ ◌+◌ (sum_same (m d p) _ _ (λ k i. (brings_lead (forward_lead d p k) (flow p₂ k) v (g_range k i).1).1)) (sum_same (m d p) _ _ (λ k i. (brings_lead (reversed_lead d p k) (flow p₂ (m d p + k)) v (h_range k i).1).1))

  -- w + h is f + g, at either end
  joined : (e : ℕ → ℕ) (v : ℕ) → at e w v + at e h v ≡ at e f v + at e g v
  joined e v =
      sym (sum_plus (m d p) _ _)
      ∙ sum_same (m d p) _ (λ k. only (eqb (e k) v) (f k) + only (eqb (e k) v) (g k))
      (λ k i. sym (only_plus (eqb (e k) v) (w k) (h k)) ∙ ap (only (eqb (e k) v)) (let a = (h_range k i).0 in let t : w k + h k ≡ f k + g k = omega arith in t) ∙ only_plus (eqb (e k) v) (f k) (g k))
      ∙ sum_plus (m d p) _ _

  is_one : (t : ℕ → Bool) (r : ℕ) (x : ℕ → ℕ) → One (n d p) t r → ((v : ℕ) → Within (n d p) v → t v ≡ false → x v ≡ 0) → (v : ℕ) → Within (n d p) v → x v ≡ only (t v) (sum_to (n d p) x)
  is_one t r x o z v i = ⊎_elim
      (λ (e : t v ≡ true).
      let same : v ≡ r = eqb-true _ _ (sym (o.alone v i) ∙ e) in
      ap x same ∙ sym (sum_one (n d p) t r x o) ∙ sum_same (n d p) _ x (λ u j. masked (t u) (x u) (z u j)) ∙ sym (ap (λ b. only b (sum_to (n d p) x)) e))
      (λ (e : t v ≡ false). z v i e ∙ sym (ap (λ b. only b (sum_to (n d p) x)) e))
      (cases_Bool (t v))
    where
      masked : (b : Bool) (y : ℕ) → (b ≡ false → y ≡ 0) → only b y ≡ y
      masked true y e = refl
      masked false y e = sym (e refl)

  supply₂ : (v : ℕ) → Within (n d p) v → supply p₂ v ≡ only (rack v) tot
  supply₂ = is_one rack (old_rack d) (supply p₂) (the_one_rack d plain-ends) ok₂.racks_supply

  delivery₂ : (v : ℕ) → Within (n d p) v → delivery p₂ v ≡ only (bar v) tot
  delivery₂ v i = is_one bar (old_bar d) (delivery p₂) (the_one_bar d plain-ends) ok₂.bars_deliver v i ∙ ap (only (bar v)) (sym (delivered (lowers_second d p) (second_lawful d p law) p₂ ok₂))

  raised_feasible : Feasible d q
  raised_feasible =
      record {
        flow_count = length-map-range_with_len _ 1 (m d p);
        supply_count = length-map-range_with_len _ 1 (n d p);
        delivery_count = length-map-range_with_len _ 1 (n d p);
        racks_supply = λ v i e. supply_is v i ∙ ap (λ b. only b (last_flow d p + tot)) e;
        bars_deliver = λ v i e. delivery_is v i ∙ ap (λ b. only b (last_flow d p + tot)) e;
        in_range = λ k i. subst (InRange (run d k).kind (run d k).lower (run d k).upper) (sym (flow_is k i))
            (lead_range (run d k).kind _ _ (w k) (none_to (m d p) _ no_links k i)
            (let a = (h_range k i).0 in let b = f_range k i in omega arith) (let a = (g_range k i).0 in let b = f_range k i in omega arith));
        balanced = λ v i. omega (
          arith,
          supply_is v i,
          delivery_is v i,
          only_plus (rack v) (last_flow d p) tot,
          only_plus (bar v) (last_flow d p) tot,
          entering_is v,
          leaving_is v,
          joined hd v,
          joined tl v,
          found_balance d law plain-ends p ok full v i,
          supply₂ v i,
          delivery₂ v i,
          entering₂ v,
          leaving₂ v,
          ok₂.balanced v i,
        );
        limited = λ v i. under_by (point d v).limit _ (λ e. absurd (true≢false (sym e ∙ none_to (n d p) _ no_limits v i)));
      }

  raised_total : supplied d q ≡ last_flow d p + tot
  raised_total = sum_same (n d p) _ _ supply_is ∙ sum_one (n d p) rack (old_rack d) (λ _. last_flow d p + tot) (the_one_rack d plain-ends)

  module _ (ls : List Label) (cut : Cut (lowers_second d p) ls) where
    loose : (v : ℕ) → Within (n d p) v → is_tight (label ls v) ≡ false
    loose v i = not_so (is_tight (label ls v)) (λ t. true≢false (sym (cut.labelled.tight_limited v i t) ∙ none_to (n d p) _ no_limits v i))
      where
        not_so : (b : Bool) → (b ≡ true → ⊥) → b ≡ false
        not_so true h = absurd (h refl)
        not_so false h = refl

    abbrev nr : ℕ → Bool
    nr v = is_near (label ls v)

    rack_near : nr (old_rack d) ≡ true
    rack_near =
        let o = the_one_rack d plain-ends in
        then_near (label ls (old_rack d)) (sym (ap (λ b. b && is_far (label ls (old_rack d))) o.passes) ∙ none_to (n d p) _ cut.no_far_rack (old_rack d) o.inside) (loose (old_rack d) o.inside)

    bar_not_near : nr (old_bar d) ≡ false
    bar_not_near =
        let o = the_one_bar d plain-ends in
        sym (ap (λ b. b && is_near (label ls (old_bar d))) o.passes) ∙ none_to (n d p) _ cut.no_near_bar (old_bar d) o.inside

    -- what the flow found carries out of the near side
    carried : sum_to (m d p) (λ k. only (nr (hd k)) (f k)) + last_flow d p ≡ sum_to (m d p) (λ k. only (nr (tl k)) (f k))
    carried =
        let x = last_flow d p in
        let N = n d p in
        let each = sum_same N (λ v. only (nr v) (at hd f v) + only (nr v) (only (rack v) x)) (λ v. only (nr v) (at tl f v) + only (nr v) (only (bar v) x))
        (λ v i. sym (only_plus (nr v) _ _) ∙ ap (only (nr v)) (found_balance d law plain-ends p ok full v i) ∙ only_plus (nr v) _ _) in
        omega (
          arith,
          each,
          sum_plus N (λ v. only (nr v) (at hd f v)) (λ v. only (nr v) (only (rack v) x)),
          sum_plus N (λ v. only (nr v) (at tl f v)) (λ v. only (nr v) (only (bar v) x)),
          gather₁ N (m d p) hd f nr (λ k i. (law.each_run k i).head_in),
          gather₁ N (m d p) tl f nr (λ k i. (law.each_run k i).tail_in),
          sum_same N (λ v. only (nr v) (only (rack v) x)) (λ v. only (rack v) (only (nr v) x)) (λ v i. only_swap (nr v) (rack v) x),
          sum_same N (λ v. only (nr v) (only (bar v) x)) (λ v. only (bar v) (only (nr v) x)) (λ v i. only_swap (nr v) (bar v) x),
          sum_one N rack (old_rack d) (λ v. only (nr v) x) (the_one_rack d plain-ends),
          sum_one N bar (old_bar d) (λ v. only (nr v) x) (the_one_bar d plain-ends),
          ap (λ b. only b x) rack_near,
          ap (λ b. only b x) bar_not_near,
        )

    raised_worth : worth (lowers_second d p) ls ≡ pos tot → worth d ls ≡ pos (supplied d q)
    raised_worth e =
        let M = m d p in
        let A : ℕ → ℕ = λ k. adds (run d k).kind (label ls (tl k)) (label ls (hd k)) (run d k).upper in
        let D : ℕ → ℕ = λ k. deducts (run d k).kind (label ls (tl k)) (label ls (hd k)) (run d k).lower in
        let U : ℕ → ℕ = λ k. adds Lead (label ls (tl k)) (label ls (hd k)) ((run d k).upper - f k) in
        let V : ℕ → ℕ = λ k. adds Lead (label ls (hd k)) (label ls (tl k)) (f k - (run d k).lower) in
        let H : ℕ → ℕ = λ k. only (nr (hd k)) (f k) in
        let T : ℕ → ℕ = λ k. only (nr (tl k)) (f k) in
        let each = sum_same M (λ k. A k + H k) (λ k. U k + V k + T k + D k)
        (λ k i. let r = law.each_run k i in raise_run (run d k).kind _ _ (run d k).lower (run d k).upper (f k) (none_to M _ no_links k i) (loose _ r.tail_in) (loose _ r.head_in) (f_range k i).0 (f_range k i).1) in
        let crossing₂ : crossing (lowers_second d p) ls ≡ sum_to M U + sum_to M V = sum_runs₂ d p (λ r k. adds r.kind (label ls r.tail) (label ls r.head) r.upper) in
        omega (arith, ints, e, each, crossing₂, forced₂, carried, raised_total, sum_plus M A H, sum_plus M (λ k. U k + V k + T k) D, sum_plus M (λ k. U k + V k) T, sum_plus M U V)
      where
        no_deduct : (k : Kind) (a b : Label) (lo : ℕ) → lo ≡ 0 → deducts k a b lo ≡ 0
        no_deduct k a b lo e = grind arith

        forced₂ : forced (lowers_second d p) ls ≡ 0
        forced₂ = sum_none (run_count (lowers_second d p)) _ (λ k i. no_deduct (run (lowers_second d p) k).kind _ _ _ (each_run₂ d p (λ r. r.lower ≡ 0) (λ k i. (refl, refl)) k i))

-- both networks taken together
raised_right : (d : Network) (law : Lawful d) → uses d Links ≡ false → uses d Limits ≡ false → uses d Terminals ≡ false
    → (p : Plan) → Feasible (lowers_first d) p → all_lowers d ≤ supplied (lowers_first d) p → (a : Answer) → Right (lowers_second d p) a → Right d (raised_answer d p a)
raised_right d law links limits ends p ok full (Planned p₂ t ls) (ok₂, sum, cut, equal) =
    let same : supplied (lowers_second d p) p₂ ≡ t = sym (sum ∙ total_is (lowers_second d p) p₂ ok₂) in
    let sound = raised_feasible d law links limits ends p ok full p₂ ok₂ in
    let sum' = raised_total d law links limits ends p ok full p₂ ok₂ in
    subst (λ x. Right d (raised_answer d p (Planned p₂ x ls))) same (
      sound,
      sym (total_is d _ sound ∙ sum'),
      record { labelled = record { label_count = cut.labelled.label_count; tight_limited = cut.labelled.tight_limited }; no_far_rack = cut.no_far_rack; no_near_bar = cut.no_near_bar },
      raised_worth d law links limits ends p ok full p₂ ok₂ ls cut (equal ∙ ap pos (sym same)) ∙ ap pos sum',
    )
raised_right d law links limits ends p ok full (Short ls) short =
    absurd (never_short (lowers_second d p) (second_lawful d p law) (each_run₂ d p (λ r. r.lower ≡ 0) (λ k i. (refl, refl))) ls short)

short_right : (d : Network) (law : Lawful d) → uses d Links ≡ false → uses d Limits ≡ false → uses d Terminals ≡ false
    → (t : ℕ) (ls : List Label) → Cut (lowers_first d) ls → worth (lowers_first d) ls ≡ pos t → t < all_lowers d → Shortage d (short_labels d ls)
short_right d law links limits ends t ls cut equal few =
    record { labelled = short_labelling d law links limits ends ls cut.labelled near far; negative = short_worth d law links limits ends ls cut.labelled near far t equal few; not_both = short_not_both d law links limits ends ls cut.labelled near far }
  where
    not_so : (b : Bool) → (b ≡ true → ⊥) → b ≡ false
    not_so true h = absurd (h refl)
    not_so false h = refl

    loose : (v : ℕ) → Within (point_count (lowers_first d)) v → is_some (point (lowers_first d) v).limit ≡ false → is_tight (label ls v) ≡ false
    loose v i e = not_so (is_tight (label ls v)) (λ t. true≢false (sym (cut.labelled.tight_limited v i t) ∙ e))

    near : is_near (label ls (new_rack d)) ≡ true
    near = then_near (label ls (new_rack d)) (sym (ap (λ z. is_rack z.mark && is_far (label ls (new_rack d))) (the_rack d)) ∙ none_to (point_count (lowers_first d)) _ cut.no_far_rack (new_rack d) (rack_in d))
        (loose (new_rack d) (rack_in d) (ap (λ z. is_some z.limit) (the_rack d)))

    far : is_far (label ls (new_bar d)) ≡ true
    far = then_far (label ls (new_bar d)) (sym (ap (λ z. is_bar z.mark && is_near (label ls (new_bar d))) (the_bar d)) ∙ none_to (point_count (lowers_first d)) _ cut.no_near_bar (new_bar d) (bar_in d))
        (loose (new_bar d) (bar_in d) (ap (λ z. is_some z.limit) (the_bar d)))

-- right answers to both networks are read as a right answer
pub lowers_right : (d : Network) → Lawful d → uses d Links ≡ false → uses d Limits ≡ false → uses d Terminals ≡ false
    → (a : Answer) (again : Network → Answer) → Right (lowers_first d) a
    → ((p : Plan) → Feasible (lowers_first d) p → Right (lowers_second d p) (again (lowers_second d p))) → Right d (lowers_above d a again)
lowers_right d law links limits ends (Planned p t ls) again (ok, sum, cut, equal) next =
    by_test (ltb t (all_lowers d)) _ _
    (λ e. short_right d law links limits ends t ls cut equal (ltb-true _ _ e))
    (λ e. raised_right d law links limits ends p ok (omega (arith, ltb-false _ _ e, sum, total_is (lowers_first d) p ok)) (again (lowers_second d p)) (next p ok))
  where
    by_test : (b : Bool) (x y : Answer) → (b ≡ true → Right d x) → (b ≡ false → Right d y) → Right d (cond b x y)
    by_test true x y h i = h refl
    by_test false x y h i = i refl
lowers_right d law links limits ends (Short ls) again short next =
    absurd (never_short (lowers_first d) (first_lawful d ends law) (each_run₁ d (λ r. r.lower ≡ 0) (λ k w. refl) (λ v w. (refl, refl)) refl) ls short)
