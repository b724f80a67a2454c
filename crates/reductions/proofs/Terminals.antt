-- The terminals layer: the network below is lawful, and a right answer to it is read as a right answer.
use Rattle.std.proofs.Common.{◌≡◌, ℕ, zero, suc, ◌+◌, ◌<◌, ◌≤◌, Bool, true, false, cond, ◌&&◌, ◌||◌, eqb, List, [], ◌∷◌, map, length, get_or, ℤ, pos, negsuc, nat_abs, ◌≤ℤ◌, is_some, None, sym, refl, ap, ◌∙◌, subst, ap₂, subst₂, ⊎_elim, true≢false, zero-le, add-one, arith, length-append}
use Rattle.std.proofs.lemmas.Int.{ints}
use Rattle.std.proofs.lemmas.List.{length-map}
use Rattle.std.proofs.lemmas.Bool.{cond-true, cond-false, eqb-true, eq-eqb, ne_eqb, or_from, and_cases, and_left, and_right}
use Rattle.std.proofs.lemmas.List.FromFn.{length-map-range_with_len}
use Rattle.drawing.specs.declared.Mark.{Mark}
use Rattle.drawing.specs.declared.Mark.TheVariants.{Plain, Rack, Bar}
use Rattle.drawing.specs.declared.Point.{Point}
use Rattle.drawing.specs.declared.Kind.{Kind}
use Rattle.drawing.specs.declared.Kind.TheVariants.{Lead, Link}
use Rattle.drawing.specs.declared.Run.{Run}
use Rattle.drawing.specs.declared.Label.{Label}
use Rattle.drawing.specs.Counts.{Within, sum_to, some_to, only, count_to, nth}
use Rattle.drawing.specs.Drawings.{Network, Lawful, LawfulRun, point_count, run_count, no_point, point, run, is_rack, is_bar, is_link, limit_of, units}
use Rattle.drawing.specs.Plans.{Plan, Feasible, InRange, Under, flow, supply, delivery, forth, back, brings, takes, entering, leaving, total}
use Rattle.drawing.specs.Labels.{is_near, is_tight, is_far, label, adds, deducts, Labelling, crossing, throttled, forced, worth, far_rack, near_bar, Cut}
use Rattle.drawing.specs.Answers.{Answer, Planned, Short, Right}
use Rattle.reductions.specs.Terminals.{unmarked, new_rack, new_bar, upper_leaving, upper_entering, uppers_leaving, uppers_entering, is_terminal, terminal_lead, terminals_below, lead_of, terminals_plan, terminals_label, terminals_labels, terminals_above}
use Rattle.reductions.proofs.Supplied.{supplied}
use Rattle.drawing.proofs.Sums.{earlier, last, sum_same, sum_below, sum_none, sum_plus, only_zero, only_le, sum_at, gather}
use Rattle.duality.proofs.Flows.{lead_flow}
use Rattle.reductions.proofs.Places.{nth_map, nth_made, nth_front, nth_rest, sum_longer}
use Rattle.reductions.proofs.Added.{count_all, front_in, place_in, at_front, at_place, sum_all, each_all}
use Rattle.reductions.proofs.Relabel.{reading, relabelled, reading_tight, lead_adds, lead_deducts, rack_read, bar_read, then_near, then_far}
use Rattle.duality.proofs.Duality.{none_to, total_is, weak_duality}

module _ (d : Network) where
  abbrev pub n : ℕ
  n = point_count d

  abbrev pub m : ℕ
  m = run_count d

  abbrev rack_at : ℕ → Bool
  rack_at v = is_rack (point d v).mark

  abbrev bar_at : ℕ → Bool
  bar_at v = is_bar (point d v).mark

  abbrev ends : List Point
  ends = record { mark = Rack; limit = None } ∷ record { mark = Bar; limit = None } ∷ []

  pub same_count : length (map unmarked d.points) ≡ n
  same_count = length-map d.points unmarked

  pub point_count_lem : point_count (terminals_below d) ≡ suc (suc n)
  point_count_lem = length-append (map unmarked d.points) ends ∙ omega (arith, same_count)

  pub old_point : (v : ℕ) → Within n v → point (terminals_below d) v ≡ unmarked (point d v)
  old_point v w = nth_front (map unmarked d.points) ends v no_point (omega (arith, same_count)) ∙ nth_map unmarked d.points v no_point no_point w

  new_point : (i j : ℕ) → 1 ≤ i → n + i ≡ j → point (terminals_below d) j ≡ nth ends i no_point
  new_point i j h e =
      let q : j ≡ length (map unmarked d.points) + i = omega (arith, same_count) in
      ap (point (terminals_below d)) q ∙ nth_rest (map unmarked d.points) ends i no_point h

  pub the_rack : point (terminals_below d) (new_rack d) ≡ record { mark = Rack; limit = None }
  the_rack = new_point 1 (new_rack d) (omega arith) (omega arith)

  pub the_bar : point (terminals_below d) (new_bar d) ≡ record { mark = Bar; limit = None }
  the_bar = new_point 2 (new_bar d) (omega arith) (omega arith)

  -- sums over the runs and over the points below
  sum_runs : (g : Run → ℕ → ℕ) → sum_to (run_count (terminals_below d)) (λ k. g (run (terminals_below d) k) k)
      ≡ sum_to m (λ k. g (run d k) k) + sum_to n (λ v. only (is_terminal d v) (g (terminal_lead d v) (lead_of d v)))
  sum_runs g = sum_all d.runs n (is_terminal d) (terminal_lead d) g

  pub sum_points : (f : ℕ → ℕ) → sum_to (point_count (terminals_below d)) f ≡ sum_to n f + f (new_rack d) + f (new_bar d)
  sum_points f = ap (λ z. sum_to z f) point_count_lem

  pub old_in : (v : ℕ) → Within n v → Within (point_count (terminals_below d)) v
  old_in v w = omega (arith, point_count_lem)

  pub rack_in : Within (point_count (terminals_below d)) (new_rack d)
  rack_in = omega (arith, point_count_lem)

  pub bar_in : Within (point_count (terminals_below d)) (new_bar d)
  bar_in = omega (arith, point_count_lem)

lead_lawful : (d : Network) (v : ℕ) (b : Bool) (x y : ℕ) → Within (point_count d) v → LawfulRun (point_count (terminals_below d))
    (cond b (record { kind = Lead; tail = new_rack d; head = v; lower = 0; upper = x }) (record { kind = Lead; tail = v; head = new_bar d; lower = 0; upper = y }))
lead_lawful d v true x y w = record { tail_in = rack_in d; head_in = old_in d v w; apart = omega arith; ordered = zero-le; link_lower = λ e. refl }
lead_lawful d v false x y w = record { tail_in = old_in d v w; head_in = bar_in d; apart = omega arith; ordered = zero-le; link_lower = λ e. refl }

pub terminals_lawful : (d : Network) → Lawful d → Lawful (terminals_below d)
terminals_lawful d law =
    record {
      some_point = omega (arith, point_count_lem d);
      each_run = each_all d.runs (n d) (is_terminal d) (terminal_lead d) (λ r k. LawfulRun (point_count (terminals_below d)) r)
          (λ k w. let h = law.each_run k w in record { tail_in = old_in d _ h.tail_in; head_in = old_in d _ h.head_in; apart = h.apart; ordered = h.ordered; link_lower = h.link_lower })
          (λ v w e. lead_lawful d v (rack_at d v) _ _ w);
    }

-- what the lead of an old terminal u brings to, and takes from, a point v
module _ (r b u v x y : ℕ) (f : ℤ) where
  abbrev lead : Mark → Run
  lead k = cond (is_rack k) (record { kind = Lead; tail = r; head = u; lower = 0; upper = x }) (record { kind = Lead; tail = u; head = b; lower = 0; upper = y })

  lead_brings : (k : Mark) → ((is_rack k || is_bar k) ≡ true → back f ≡ 0)
      → only (is_rack k || is_bar k) (brings (lead k) f v) ≡ only (eqb u v) (only (is_rack k) (forth f)) + only (eqb b v) (only (is_bar k) (forth f))
  lead_brings Plain h = omega (arith, only_zero (eqb u v), only_zero (eqb b v))
  lead_brings Rack h = omega (arith, ap (only (eqb r v)) (h refl), only_zero (eqb r v), only_zero (eqb b v))
  lead_brings Bar h = omega (arith, ap (only (eqb u v)) (h refl), only_zero (eqb u v))

  lead_takes : (k : Mark) → ((is_rack k || is_bar k) ≡ true → back f ≡ 0)
      → only (is_rack k || is_bar k) (takes (lead k) f v) ≡ only (eqb r v) (only (is_rack k) (forth f)) + only (eqb u v) (only (is_bar k) (forth f))
  lead_takes Plain h = omega (arith, only_zero (eqb u v), only_zero (eqb r v))
  lead_takes Rack h = omega (arith, ap (only (eqb u v)) (h refl), only_zero (eqb u v))
  lead_takes Bar h = omega (arith, ap (only (eqb b v)) (h refl), only_zero (eqb r v), only_zero (eqb b v))

lead_forward : (r b u x y : ℕ) (f : ℤ) (k : Mark) → let l : Run = lead r b u u x y f k in InRange l.kind l.lower l.upper f → back f ≡ 0
lead_forward r b u x y f Plain h = (lead_flow 0 y f h).2
lead_forward r b u x y f Rack h = (lead_flow 0 x f h).2
lead_forward r b u x y f Bar h = (lead_flow 0 y f h).2

-- a run brings nothing to a point that is none of its ends
pub apart_brings : (r : Run) (f : ℤ) (v : ℕ) → (r.tail ≡ v → ⊥) → (r.head ≡ v → ⊥) → (brings r f v ≡ 0) × (takes r f v ≡ 0)
apart_brings r f v t h =
    let a = ap (λ b. only b (forth f)) (ne_eqb r.head v h) in
    let b = ap (λ b. only b (back f)) (ne_eqb r.tail v t) in
    let c = ap (λ b. only b (forth f)) (ne_eqb r.tail v t) in
    let e = ap (λ b. only b (back f)) (ne_eqb r.head v h) in
    (omega (arith, a, b), omega (arith, c, e))

module _ (d : Network) (p : Plan) (ok : Feasible (terminals_below d) p) where
  -- the supply and the delivery of an old point
  abbrev sup : ℕ → ℕ
  sup v = only (rack_at d v) (forth (flow p (lead_of d v)))

  abbrev del : ℕ → ℕ
  del v = only (bar_at d v) (forth (flow p (lead_of d v)))

  forward : (u : ℕ) → Within (n d) u → is_terminal d u ≡ true → back (flow p (lead_of d u)) ≡ 0
  forward u w e =
      lead_forward (new_rack d) (new_bar d) u (uppers_leaving d u) (uppers_entering d u) (flow p (lead_of d u)) (point d u).mark
      (subst (λ r. InRange r.kind r.lower r.upper (flow p (lead_of d u))) (at_place d.runs (n d) (is_terminal d) (terminal_lead d) u w e)
      (ok.in_range (lead_of d u) (place_in d.runs (n d) (is_terminal d) (terminal_lead d) u w e)))

  -- what the added leads bring and take
  added_in : (v : ℕ) → sum_to (n d) (λ u. only (is_terminal d u) (brings (terminal_lead d u) (flow p (lead_of d u)) v))
      ≡ sum_to (n d) (λ u. only (eqb u v) (sup u)) + sum_to (n d) (λ u. only (eqb (new_bar d) v) (del u))
  added_in v =
      sum_same (n d) _ _ (λ u w. lead_brings (new_rack d) (new_bar d) u v (uppers_leaving d u) (uppers_entering d u) (flow p (lead_of d u)) (point d u).mark (forward u w))
      ∙ sum_plus (n d) _ _

  added_out : (v : ℕ) → sum_to (n d) (λ u. only (is_terminal d u) (takes (terminal_lead d u) (flow p (lead_of d u)) v))
      ≡ sum_to (n d) (λ u. only (eqb (new_rack d) v) (sup u)) + sum_to (n d) (λ u. only (eqb u v) (del u))
  added_out v =
      sum_same (n d) _ _ (λ u w. lead_takes (new_rack d) (new_bar d) u v (uppers_leaving d u) (uppers_entering d u) (flow p (lead_of d u)) (point d u).mark (forward u w))
      ∙ sum_plus (n d) _ _

  flow_is : (k : ℕ) → Within (m d) k → flow (terminals_plan d p) k ≡ flow p k
  flow_is k w = nth_made (flow p) (m d) k (pos 0) w

  supply_is : (v : ℕ) → Within (n d) v → supply (terminals_plan d p) v ≡ sup v
  supply_is v w = nth_made sup (n d) v 0 w

  delivery_is : (v : ℕ) → Within (n d) v → delivery (terminals_plan d p) v ≡ del v
  delivery_is v w = nth_made del (n d) v 0 w

  off : (x v : ℕ) (f : ℕ → ℕ) → (x ≡ v → ⊥) → sum_to (n d) (λ u. only (eqb x v) (f u)) ≡ 0
  off x v f ne = sum_none (n d) _ (λ u w. ap (λ t. only t (f u)) (ne_eqb x v ne))

  old_entering : (v : ℕ) → Within (n d) v → entering (terminals_below d) p v ≡ entering d (terminals_plan d p) v + sup v
  old_entering v w =
      sum_runs d (λ r k. brings r (flow p k) v)
      ∙ omega (
        arith,
        sum_same (m d) (λ k. brings (run d k) (flow (terminals_plan d p) k) v) (λ k. brings (run d k) (flow p k) v) (λ k i. ap (λ f. brings (run d k) f v) (flow_is k i)),
        added_in v,
        sum_at (n d) v sup w,
        off (new_bar d) v del (λ q. omega arith),
      )

  old_leaving : (v : ℕ) → Within (n d) v → leaving (terminals_below d) p v ≡ leaving d (terminals_plan d p) v + del v
  old_leaving v w =
      sum_runs d (λ r k. takes r (flow p k) v)
      ∙ omega (
        arith,
        sum_same (m d) (λ k. takes (run d k) (flow (terminals_plan d p) k) v) (λ k. takes (run d k) (flow p k) v) (λ k i. ap (λ f. takes (run d k) f v) (flow_is k i)),
        added_out v,
        sum_at (n d) v del w,
        off (new_rack d) v sup (λ q. omega arith),
      )

  none_supplied : (v : ℕ) → Within (n d) v → supply p v ≡ 0
  none_supplied v w = ok.racks_supply v (old_in d v w) (ap (λ q. is_rack q.mark) (old_point d v w))

  none_delivered : (v : ℕ) → Within (n d) v → delivery p v ≡ 0
  none_delivered v w = ok.bars_deliver v (old_in d v w) (ap (λ q. is_bar q.mark) (old_point d v w))

  limit_old : (v : ℕ) → Within (n d) v → Under (point d v).limit (entering (terminals_below d) p v + supply p v)
  limit_old v w = subst (λ q. Under q.limit (entering (terminals_below d) p v + supply p v)) (old_point d v w) (ok.limited v (old_in d v w))

  pub terminals_feasible : Feasible d (terminals_plan d p)
  terminals_feasible =
      record {
        flow_count = length-map-range_with_len (flow p) 1 (m d);
        supply_count = length-map-range_with_len sup 1 (n d);
        delivery_count = length-map-range_with_len del 1 (n d);
        racks_supply = λ v w e. supply_is v w ∙ ap (λ b. only b (forth (flow p (lead_of d v)))) e;
        bars_deliver = λ v w e. delivery_is v w ∙ ap (λ b. only b (forth (flow p (lead_of d v)))) e;
        in_range = λ k w. subst (InRange (run d k).kind (run d k).lower (run d k).upper) (sym (flow_is k w)) (subst (λ r. InRange r.kind r.lower r.upper (flow p k)) (at_front d.runs (n d) (is_terminal d) (terminal_lead d) k w)
            (ok.in_range k (front_in d.runs (n d) (is_terminal d) (terminal_lead d) k w)));
        balanced = λ v w. omega (arith, supply_is v w, delivery_is v w, old_entering v w, old_leaving v w, none_supplied v w, none_delivered v w, ok.balanced v (old_in d v w));
        limited = λ v w. subst (Under (point d v).limit) (omega (arith, supply_is v w, old_entering v w, none_supplied v w)) (limit_old v w);
      }

  module _ (law : Lawful d) where
    outside : (f : ℕ → ℕ) → sum_to (n d) (λ u. only (eqb u (new_rack d)) (f u)) ≡ 0
    outside f = sum_none (n d) _ (λ u w. ap (λ t. only t (f u)) (ne_eqb u (new_rack d) (λ q. omega arith)))

    old_apart : (k : ℕ) → Within (m d) k → (brings (run d k) (flow p k) (new_rack d) ≡ 0) × (takes (run d k) (flow p k) (new_rack d) ≡ 0)
    old_apart k w =
        let r = law.each_run k w in
        apart_brings (run d k) (flow p k) (new_rack d) (λ q. omega (arith, r.tail_in)) (λ q. omega (arith, r.head_in))

    rack_entering : entering (terminals_below d) p (new_rack d) ≡ 0
    rack_entering =
        sum_runs d (λ r k. brings r (flow p k) (new_rack d))
        ∙ omega (arith, sum_none (m d) (λ k. brings (run d k) (flow p k) (new_rack d)) (λ k w. (old_apart k w).0), added_in (new_rack d), outside sup, off (new_bar d) (new_rack d) del (λ q. omega arith))

    rack_leaving : leaving (terminals_below d) p (new_rack d) ≡ sum_to (n d) sup
    rack_leaving =
        sum_runs d (λ r k. takes r (flow p k) (new_rack d))
        ∙ omega (
          arith,
          sum_none (m d) (λ k. takes (run d k) (flow p k) (new_rack d)) (λ k w. (old_apart k w).1),
          added_out (new_rack d),
          outside del,
          sum_same (n d) (λ u. only (eqb (new_rack d) (new_rack d)) (sup u)) sup (λ u w. ap (λ t. only t (sup u)) (eq-eqb (new_rack d) (new_rack d) refl)),
        )

    pub terminals_total : supplied d (terminals_plan d p) ≡ supplied (terminals_below d) p
    terminals_total =
        omega (
          arith,
          sum_same (n d) (supply (terminals_plan d p)) sup supply_is,
          sum_points d (supply p),
          sum_none (n d) (supply p) none_supplied,
          ok.racks_supply (new_bar d) (bar_in d) (ap (λ q. is_rack q.mark) (the_bar d)),
          ok.bars_deliver (new_rack d) (rack_in d) (ap (λ q. is_bar q.mark) (the_rack d)),
          ok.balanced (new_rack d) (rack_in d),
          rack_entering,
          rack_leaving,
        )

pub some_none : (n : ℕ) (t : ℕ → Bool) → ((k : ℕ) → Within n k → t k ≡ false) → some_to n t ≡ false
some_none zero t h = refl
some_none (suc n) t h = or_from (some_to n t) (t (suc n)) (some_none n t (λ k w. h k (earlier w))) (h (suc n) (last n))

-- the labels as they are read
module _ (d : Network) (ls : List Label) (marked : Labelling (terminals_below d) ls) where
  abbrev up : List Label
  up = terminals_labels d ls

  abbrev x : ℕ → Bool
  x v = rack_at d v && is_near (label ls (new_rack d))

  abbrev y : ℕ → Bool
  y v = bar_at d v && is_far (label ls (new_bar d))

  label_is : (v : ℕ) → Within (n d) v → label up v ≡ reading (label ls v) (x v) (y v)
  label_is v w = nth_made (terminals_label d ls) (n d) v _ w

  tight_is : (v : ℕ) → Within (n d) v → is_tight (label up v) ≡ is_tight (label ls v)
  tight_is v w = ap is_tight (label_is v w) ∙ reading_tight (label ls v) (x v) (y v)

  up_labelling : Labelling d up
  up_labelling =
      record {
        label_count = length-map-range_with_len (terminals_label d ls) 1 (n d);
        tight_limited = λ v w e. sym (ap (λ q. is_some q.limit) (old_point d v w)) ∙ marked.tight_limited v (old_in d v w) (sym (tight_is v w) ∙ e);
      }

  loose : (v : ℕ) → Within (point_count (terminals_below d)) v → is_some (point (terminals_below d) v).limit ≡ false → is_tight (label ls v) ≡ false
  loose v w e = not_so (is_tight (label ls v)) (λ t. true≢false (sym (marked.tight_limited v w t) ∙ e))
    where
      not_so : (b : Bool) → (b ≡ true → ⊥) → b ≡ false
      not_so true h = absurd (h refl)
      not_so false h = refl

  racks_read : far_rack (terminals_below d) ls ≡ false → far_rack d up ≡ false
  racks_read e =
      let here = none_to (point_count (terminals_below d)) _ e (new_rack d) (rack_in d) in
      let near : is_near (label ls (new_rack d)) ≡ true =
      then_near (label ls (new_rack d)) (sym (ap (λ q. is_rack q.mark && is_far (label ls (new_rack d))) (the_rack d)) ∙ here)
      (loose (new_rack d) (rack_in d) (ap (λ q. is_some q.limit) (the_rack d))) in
      some_none (n d) _ (λ v w. ap (λ l. rack_at d v && is_far l) (label_is v w) ∙ rack_read (point d v).mark (label ls v) _ _ near)

  bars_read : near_bar (terminals_below d) ls ≡ false → near_bar d up ≡ false
  bars_read e =
      let here = none_to (point_count (terminals_below d)) _ e (new_bar d) (bar_in d) in
      let far : is_far (label ls (new_bar d)) ≡ true =
      then_far (label ls (new_bar d)) (sym (ap (λ q. is_bar q.mark && is_near (label ls (new_bar d))) (the_bar d)) ∙ here)
      (loose (new_bar d) (bar_in d) (ap (λ q. is_some q.limit) (the_bar d))) in
      some_none (n d) _ (λ v w. ap (λ l. bar_at d v && is_near l) (label_is v w) ∙ bar_read (point d v).mark (label ls v) _ _ far)

  -- what the added leads add
  abbrev s : ℕ → Bool
  s v = is_far (label ls v) && x v

  abbrev s' : ℕ → Bool
  s' v = is_near (label ls v) && y v

  module _ (law : Lawful d) where
    abbrev at : (ℕ → Bool) → (ℕ → Bool) → ℕ → ℕ
    at f g k = only (f k) (run d k).upper + only (g k) (only (is_link (run d k).kind) (run d k).upper)

    abbrev out_of : ℕ → ℕ
    out_of = at (λ k. s (run d k).tail) (λ k. s (run d k).head)

    abbrev into : ℕ → ℕ
    into = at (λ k. s' (run d k).head) (λ k. s' (run d k).tail)

    by_out : sum_to (n d) (λ v. only (s v) (uppers_leaving d v)) ≡ sum_to (m d) out_of
    by_out = gather (n d) (m d) (λ k. (run d k).tail) (λ k. (run d k).head) (λ k. (run d k).upper) (λ k. only (is_link (run d k).kind) (run d k).upper) s
        (λ k w. (law.each_run k w).tail_in) (λ k w. (law.each_run k w).head_in)

    by_in : sum_to (n d) (λ v. only (s' v) (uppers_entering d v)) ≡ sum_to (m d) into
    by_in = gather (n d) (m d) (λ k. (run d k).head) (λ k. (run d k).tail) (λ k. (run d k).upper) (λ k. only (is_link (run d k).kind) (run d k).upper) s'
        (λ k w. (law.each_run k w).head_in) (λ k w. (law.each_run k w).tail_in)

    crossing_down : crossing (terminals_below d) ls ≡ crossing d ls + (sum_to (m d) out_of + sum_to (m d) into)
    crossing_down =
        sum_runs d (λ r k. adds r.kind (label ls r.tail) (label ls r.head) r.upper)
        ∙ ap (λ z. crossing d ls + z)
        (sum_same (n d) _ _ (λ v w. lead_adds (point d v).mark (new_rack d) (new_bar d) v (uppers_leaving d v) (uppers_entering d v) (label ls))
        ∙ sum_plus (n d) (λ v. only (s v) (uppers_leaving d v)) (λ v. only (s' v) (uppers_entering d v)) ∙ ap₂ ◌+◌ by_out by_in)

    forced_down : forced (terminals_below d) ls ≡ forced d ls
    forced_down =
        sum_runs d (λ r k. deducts r.kind (label ls r.tail) (label ls r.head) r.lower)
        ∙ omega (arith, sum_none (n d) _ (λ v w. lead_deducts (point d v).mark (new_rack d) (new_bar d) v (uppers_leaving d v) (uppers_entering d v) (label ls)))

    throttled_down : throttled (terminals_below d) ls ≡ throttled d up
    throttled_down =
        sum_points d (λ v. only (is_tight (label ls v)) (limit_of (point (terminals_below d) v).limit))
        ∙ omega (
          arith,
          sum_same (n d) (λ v. only (is_tight (label ls v)) (limit_of (point (terminals_below d) v).limit)) (λ v. only (is_tight (label up v)) (limit_of (point d v).limit))
              (λ v w. ap₂ (λ t q. only t (limit_of q.limit)) (sym (tight_is v w)) (old_point d v w)),
          ap (λ q. only (is_tight (label ls (new_rack d))) (limit_of q.limit)) (the_rack d),
          only_zero (is_tight (label ls (new_rack d))),
          ap (λ q. only (is_tight (label ls (new_bar d))) (limit_of q.limit)) (the_bar d),
          only_zero (is_tight (label ls (new_bar d))),
        )

    read_run : (k : ℕ) → Within (m d) k → adds (run d k).kind (label up (run d k).tail) (label up (run d k).head) (run d k).upper + deducts (run d k).kind (label ls (run d k).tail) (label ls (run d k).head) (run d k).lower
        ≤ adds (run d k).kind (label ls (run d k).tail) (label ls (run d k).head) (run d k).upper + deducts (run d k).kind (label up (run d k).tail) (label up (run d k).head) (run d k).lower + out_of k + into k
    read_run k w =
        let r = run d k in
        let h = law.each_run k w in
        let P : Label → Label → Type 0 = λ a b. adds r.kind a b r.upper + deducts r.kind (label ls r.tail) (label ls r.head) r.lower
        ≤ adds r.kind (label ls r.tail) (label ls r.head) r.upper + deducts r.kind a b r.lower + out_of k + into k in
        subst₂ P (sym (label_is r.tail h.tail_in)) (sym (label_is r.head h.head_in))
        (relabelled r.kind (label ls r.tail) (label ls r.head) (x r.tail) (y r.tail) (x r.head) (y r.head) r.lower r.upper h.ordered)

    pub read_worth : worth d up ≤ℤ worth (terminals_below d) ls
    read_worth =
        let A' : ℕ → ℕ = λ k. adds (run d k).kind (label up (run d k).tail) (label up (run d k).head) (run d k).upper in
        let D' : ℕ → ℕ = λ k. deducts (run d k).kind (label up (run d k).tail) (label up (run d k).head) (run d k).lower in
        let A : ℕ → ℕ = λ k. adds (run d k).kind (label ls (run d k).tail) (label ls (run d k).head) (run d k).upper in
        let D : ℕ → ℕ = λ k. deducts (run d k).kind (label ls (run d k).tail) (label ls (run d k).head) (run d k).lower in
        let each = sum_below (m d) (λ k. A' k + D k) (λ k. A k + D' k + out_of k + into k) read_run in
        omega (
          arith,
          ints,
          each,
          sum_plus (m d) A' D,
          sum_plus (m d) (λ k. A k + D' k + out_of k) into,
          sum_plus (m d) (λ k. A k + D' k) out_of,
          sum_plus (m d) A D',
          crossing_down,
          forced_down,
          throttled_down,
        )

pub terminals_right : (d : Network) → Lawful d → (a : Answer) → Right (terminals_below d) a → Right d (terminals_above d a)
terminals_right d law (Planned p t ls) (ok, sum, cut, equal) =
    let sound = terminals_feasible d p ok in
    let cut' : Cut d (terminals_labels d ls) = record {
      labelled = up_labelling d ls cut.labelled;
      no_far_rack = racks_read d ls cut.labelled cut.no_far_rack;
      no_near_bar = bars_read d ls cut.labelled cut.no_near_bar;
    } in
    let sum' : t ≡ total (terminals_plan d p) = omega (arith, sum, terminals_total d p ok law, total_is (terminals_below d) p ok, total_is d (terminals_plan d p) sound) in
    (sound, sum', cut', omega (arith, ints, equal, sum', read_worth d ls cut.labelled law, weak_duality d law (terminals_plan d p) sound (terminals_labels d ls) cut'))
terminals_right d law (Short ls) short =
    record {
      labelled = up_labelling d ls short.labelled;
      negative = omega (arith, ints, short.negative, read_worth d ls short.labelled law);
      not_both = ⊎_elim
          (λ (e : far_rack (terminals_below d) ls ≡ false). and_left _ _ (racks_read d ls short.labelled e))
          (λ (e : near_bar (terminals_below d) ls ≡ false). and_right _ _ (bars_read d ls short.labelled e))
          (and_cases _ _ short.not_both);
    }

-- a lawful run is at a point with one end only
once : (k : Kind) (t h v u : ℕ) → (t ≡ h → ⊥) → only (eqb t v || (is_link k && eqb h v)) u ≡ only (eqb t v) u + only (eqb h v) (only (is_link k) u)
once Lead t h v u ne = lead_once (eqb t v) (eqb h v) u
  where
    lead_once : (a b : Bool) (u : ℕ) → only (a || (false && b)) u ≡ only a u + only b 0
    lead_once a b u = grind arith
once Link t h v u ne = link_once (eqb t v) (eqb h v) u (λ a b. ne (eqb-true t v a ∙ sym (eqb-true h v b)))
  where
    link_once : (a b : Bool) (u : ℕ) → (a ≡ true → b ≡ true → ⊥) → only (a || (true && b)) u ≡ only a u + only b u
    link_once true true u h = absurd (h refl refl)
    link_once true false u h = omega arith
    link_once false true u h = omega arith
    link_once false false u h = omega arith

pub leaving_once : {n : ℕ} (r : Run) (v : ℕ) → LawfulRun n r → only (eqb r.tail v || (is_link r.kind && eqb r.head v)) r.upper ≡ upper_leaving r v
leaving_once r v h = once r.kind r.tail r.head v r.upper h.apart

pub entering_once : {n : ℕ} (r : Run) (v : ℕ) → LawfulRun n r → only (eqb r.head v || (is_link r.kind && eqb r.tail v)) r.upper ≡ upper_entering r v
entering_once r v h = once r.kind r.head r.tail v r.upper (λ q. h.apart (sym q))

-- the sums stay below the units of the drawing
module _ (d : Network) (law : Lawful d) (f : Run → ℕ) (small : (r : Run) → LawfulRun (point_count d) r → f r ≤ r.upper) where
  pub uppers_bounded : (i : ℕ) → i ≤ run_count d → sum_to i (λ k. f (run d k)) ≤ units d
  uppers_bounded i h =
      omega (arith, sum_below i (λ k. f (run d k)) (λ k. (run d k).upper) (λ k w. small (run d k) (law.each_run k (omega arith))), sum_longer (run_count d) i (λ k. (run d k).upper) h)

pub leaving_small : {n : ℕ} (v : ℕ) (r : Run) → LawfulRun n r → upper_leaving r v ≤ r.upper
leaving_small v r h = subst (λ x. x ≤ r.upper) (leaving_once r v h) (only_le _ r.upper)

pub entering_small : {n : ℕ} (v : ℕ) (r : Run) → LawfulRun n r → upper_entering r v ≤ r.upper
entering_small v r h = subst (λ x. x ≤ r.upper) (entering_once r v h) (only_le _ r.upper)

-- Reading the flow of the lead of the old terminal i + 1, which stands at `lead`, counted from 0.
module _ (d : Network) (p : Plan) (ok : Feasible (terminals_below d) p) (i : ℕ) (lt : i < point_count d)
    (lead : ℕ) (at : lead ≡ run_count d + count_to i (is_terminal d)) (e : is_terminal d (suc i) ≡ true) where
  lead_at : lead_of d (suc i) ≡ suc lead
  lead_at = omega (arith, ap (λ b. only b 1) e)

  pub read_terminal : (lead < length p.flows) × (nat_abs (get_or p.flows lead (pos 0)) ≡ forth (flow p (lead_of d (suc i))))
  read_terminal =
      let w : Within (point_count d) (suc i) = omega arith in (
        omega (arith, ok.flow_count, place_in d.runs (point_count d) (is_terminal d) (terminal_lead d) (suc i) w e, lead_at),
        subst (λ k. nat_abs (flow p k) ≡ forth (flow p (lead_of d (suc i)))) lead_at (size (flow p (lead_of d (suc i))) (forward d p ok (suc i) w e)),
      )
    where
      size : (f : ℤ) → back f ≡ 0 → nat_abs f ≡ forth f
      size (pos n) h = refl
      size (negsuc n) h = let no_such : ⊥ = omega arith in absurd no_such

-- more flows are found below than there are runs
pub flows_below : (d : Network) (p : Plan) → Feasible (terminals_below d) p → run_count d ≤ length p.flows
flows_below d p ok = omega (arith, ok.flow_count, count_all d.runs (point_count d) (is_terminal d) (terminal_lead d))

-- The leads of the old rack and of the old bar i + 1, as code writes them.
abbrev lead_over : ℕ → ℕ → ℕ → Run
lead_over t h u = record { kind = Lead; tail = t; head = h; lower = 0; upper = u }

module _ (d : Network) (i n u : ℕ) (same : n ≡ point_count d) where
  pub rack_lead : (point d (suc i)).mark ≡ Rack → u ≡ uppers_leaving d (i + 1)
      → ◌≡◌ {A = Run} (record { kind = Lead; tail = n + 1; head = i + 1; lower = 0; upper = u }) (terminal_lead d (suc i))
  rack_lead k e =
      let t : n + 1 ≡ new_rack d = omega arith in
      ap₂ (λ x y. lead_over x y u) t (add-one i) ∙ ap (lead_over (new_rack d) (suc i)) (e ∙ ap (uppers_leaving d) (add-one i))
      ∙ sym (cond-true (is_rack (point d (suc i)).mark) _ _ (ap is_rack k))

  pub bar_lead : (point d (suc i)).mark ≡ Bar → u ≡ uppers_entering d (i + 1)
      → ◌≡◌ {A = Run} (record { kind = Lead; tail = i + 1; head = n + 2; lower = 0; upper = u }) (terminal_lead d (suc i))
  bar_lead k e =
      let h : n + 2 ≡ new_bar d = omega arith in
      ap₂ (λ x y. lead_over x y u) (add-one i) h ∙ ap (lead_over (suc i) (new_bar d)) (e ∙ ap (uppers_entering d) (add-one i))
      ∙ sym (cond-false (is_rack (point d (suc i)).mark) _ _ (ap is_rack k))
