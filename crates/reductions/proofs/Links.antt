-- The links layer: the network below is lawful, and a right answer to it is read as a right answer.
use Rattle.std.proofs.Common.{◌≡◌, ℕ, suc, ◌+◌, ◌<◌, ◌≤◌, Bool, true, false, cond, eqb, List, map, length, get_or, ℤ, pos, negsuc, ◌-ℤ◌, nat_abs, ◌≤ℤ◌, ◌<ℤ◌, Some, None, Option, sym, refl, ap, ◌∙◌, subst, ap₂, zero-le, arith}
use mathlib.Core.Bool.{false≢true}
use Rattle.std.proofs.lemmas.Int.{ints}
use Rattle.std.proofs.lemmas.List.{length-map}
use Rattle.std.proofs.lemmas.Bool.{cond-true, cond-false}
use Rattle.std.proofs.lemmas.List.FromFn.{length-map-range_with_len}
use Rattle.drawing.specs.declared.Kind.{Kind}
use Rattle.drawing.specs.declared.Kind.TheVariants.{Lead, Link}
use Rattle.drawing.specs.declared.Run.{Run}
use Rattle.drawing.specs.declared.Label.{Label}
use Rattle.drawing.specs.Counts.{Within, sum_to, only, count_to, nth}
use Rattle.drawing.specs.Drawings.{Network, Lawful, LawfulRun, point_count, run_count, no_run, point, run, is_link}
use Rattle.drawing.specs.Plans.{Plan, Feasible, InRange, Under, flow, forth, back, brings, takes, entering, leaving}
use Rattle.drawing.specs.Labels.{label, adds, deducts, Labelling, crossing, throttled, forced, worth}
use Rattle.drawing.specs.Answers.{Answer, Planned, Short, Right}
use Rattle.reductions.specs.Links.{as_lead, lead_back, link_at, links_below, back_of, links_flow, links_plan, links_above}
use Rattle.drawing.proofs.Sums.{sum_same, sum_below, sum_plus}
use Rattle.duality.proofs.Flows.{lead_flow}
use Rattle.reductions.proofs.Places.{nth_map, nth_made}
use Rattle.reductions.proofs.Added.{place, front_in, place_in, at_front, at_place, sum_all, each_all}

module _ (d : Network) where
  abbrev pub links : ℕ → Bool
  links k = link_at d k

  abbrev pub leads : List Run
  leads = map as_lead d.runs

  abbrev pub backs : ℕ → Run
  backs k = lead_back (run d k)

  pub same_count : length leads ≡ run_count d
  same_count = length-map d.runs as_lead

  same_place : (k : ℕ) → place leads (run_count d) links backs k ≡ back_of d k
  same_place k = ap (λ z. z + count_to k links) same_count

  pub lead_is : (k : ℕ) → Within (run_count d) k → nth leads k no_run ≡ as_lead (run d k)
  lead_is k w = nth_map as_lead d.runs k no_run no_run w

  front_is : (k : ℕ) → Within (run_count d) k → run (links_below d) k ≡ as_lead (run d k)
  front_is k w = at_front leads (run_count d) links backs k (omega (arith, same_count)) ∙ lead_is k w

  front_within : (k : ℕ) → Within (run_count d) k → Within (run_count (links_below d)) k
  front_within k w = front_in leads (run_count d) links backs k (omega (arith, same_count))

  back_is : (k : ℕ) → Within (run_count d) k → links k ≡ true → run (links_below d) (back_of d k) ≡ lead_back (run d k)
  back_is k w e = ap (run (links_below d)) (sym (same_place k)) ∙ at_place leads (run_count d) links backs k w e

  back_within : (k : ℕ) → Within (run_count d) k → links k ≡ true → Within (run_count (links_below d)) (back_of d k)
  back_within k w e = subst (Within (run_count (links_below d))) (same_place k) (place_in leads (run_count d) links backs k w e)

  -- a sum over the runs below, by the runs of the drawing
  pub sum_down : (g : Run → ℕ → ℕ) → sum_to (run_count (links_below d)) (λ k. g (run (links_below d) k) k)
      ≡ sum_to (run_count d) (λ k. g (as_lead (run d k)) k + only (links k) (g (lead_back (run d k)) (back_of d k)))
  sum_down g =
      sum_all leads (run_count d) links backs g
      ∙ ap₂ ◌+◌ (ap (λ z. sum_to z (λ k. g (nth leads k no_run) k)) same_count ∙ sum_same (run_count d) _ _ (λ k w. ap (λ r. g r k) (lead_is k w)))
      (sum_same (run_count d) _ _ (λ k w. ap (λ z. only (links k) (g (lead_back (run d k)) z)) (same_place k)))
      ∙ sym (sum_plus (run_count d) _ _)

-- the network below is lawful
pub links_lawful : (d : Network) → Lawful d → Lawful (links_below d)
links_lawful d law =
    record {
      some_point = law.some_point;
      each_run = each_all (leads d) (run_count d) (links d) (backs d) (λ r k. LawfulRun (point_count d) r)
          (λ k w. let u : Within (run_count d) k = omega (arith, same_count d) in subst (LawfulRun (point_count d)) (sym (lead_is d k u)) (lead_lawful (law.each_run k u)))
          (λ k w e. back_lawful (law.each_run k w));
    }
  where
    lead_lawful : {r : Run} → LawfulRun (point_count d) r → LawfulRun (point_count d) (as_lead r)
    lead_lawful h = record { tail_in = h.tail_in; head_in = h.head_in; apart = h.apart; ordered = h.ordered; link_lower = λ e. absurd (false≢true e) }

    back_lawful : {r : Run} → LawfulRun (point_count d) r → LawfulRun (point_count d) (lead_back r)
    back_lawful h = record { tail_in = h.head_in; head_in = h.tail_in; apart = λ q. h.apart (sym q); ordered = zero-le; link_lower = λ e. absurd (false≢true e) }

-- a labelling is one of both, and worth the same in both
labels_up : (d : Network) (ls : List Label) → Labelling (links_below d) ls → Labelling d ls
labels_up d ls h = record { label_count = h.label_count; tight_limited = h.tight_limited }

adds_same : (k : Kind) (a b : Label) (u : ℕ) → adds Lead a b u + only (is_link k) (adds Lead b a u) ≡ adds k a b u
adds_same k a b u = grind arith

deducts_same : (k : Kind) (a b : Label) (lo : ℕ) → (is_link k ≡ true → lo ≡ 0) → deducts Lead a b lo + only (is_link k) (deducts Lead b a 0) ≡ deducts k a b lo
deducts_same k a b lo h = grind arith

pub links_worth : (d : Network) → Lawful d → (ls : List Label) → worth (links_below d) ls ≡ worth d ls
links_worth d law ls = ap₂ (λ x y. pos (x + throttled d ls) -ℤ pos y) crossing_same forced_same
  where
    crossing_same : crossing (links_below d) ls ≡ crossing d ls
    crossing_same =
        sum_down d (λ r k. adds r.kind (label ls r.tail) (label ls r.head) r.upper)
        ∙ sum_same (run_count d) _ _ (λ k w. adds_same (run d k).kind (label ls (run d k).tail) (label ls (run d k).head) (run d k).upper)

    forced_same : forced (links_below d) ls ≡ forced d ls
    forced_same =
        sum_down d (λ r k. deducts r.kind (label ls r.tail) (label ls r.head) r.lower)
        ∙ sum_same (run_count d) _ _ (λ k w. deducts_same (run d k).kind (label ls (run d k).tail) (label ls (run d k).head) (run d k).lower (law.each_run k w).link_lower)

-- the two parts of a difference
parts : (z : ℤ) (x y : ℕ) → z ≡ pos x -ℤ pos y → (forth z + y ≡ x + back z) × (forth z ≤ x)
parts (pos n) x y e = omega (arith, ints)
parts (negsuc n) x y e = omega (arith, ints)

less : (h t : Bool) (f b x y : ℕ) → f + y ≡ x + b → f ≤ x → only h f + only t b ≤ (only h x + only t 0) + (only t y + only h 0)
less h t f b x y e l = grind arith

even : (h t : Bool) (f b x y : ℕ) → f + y ≡ x + b → f ≤ x
    → (only h f + only t b) + ((only t x + only h 0) + (only h y + only t 0)) ≡ (only t f + only h b) + ((only h x + only t 0) + (only t y + only h 0))
even h t f b x y e l = grind arith

-- a run's flow read from the lead's and the lead back's: it brings no more to a point, and brings and takes the same on balance
module _ (r : Run) (f g : ℤ) (v : ℕ) where
  abbrev drawn : ℤ
  drawn = cond (is_link r.kind) (f -ℤ g) f

  abbrev brought : ℕ
  brought = brings (as_lead r) f v + only (is_link r.kind) (brings (lead_back r) g v)

  abbrev taken : ℕ
  taken = takes (as_lead r) f v + only (is_link r.kind) (takes (lead_back r) g v)

abbrev Joined : (r : Run) (f g : ℤ) (v : ℕ) → Type 0
Joined r f g v = (brings r (drawn r f g v) v ≤ brought r f g v) × (brings r (drawn r f g v) v + taken r f g v ≡ takes r (drawn r f g v) v + brought r f g v)

joined_nat : (b h t : Bool) (x y : ℕ) →
    (only h (forth (cond b (pos x -ℤ pos y) (pos x))) + only t (back (cond b (pos x -ℤ pos y) (pos x))) ≤ (only h x + only t 0) + only b (only t y + only h 0))
    × ((only h (forth (cond b (pos x -ℤ pos y) (pos x))) + only t (back (cond b (pos x -ℤ pos y) (pos x)))) + ((only t x + only h 0) + only b (only h y + only t 0))
    ≡ (only t (forth (cond b (pos x -ℤ pos y) (pos x))) + only h (back (cond b (pos x -ℤ pos y) (pos x)))) + ((only h x + only t 0) + only b (only t y + only h 0)))
joined_nat true h t x y =
    let q = parts (pos x -ℤ pos y) x y refl in
    (less h t _ _ x y q.0 q.1, even h t _ _ x y q.0 q.1)
joined_nat false h t x y = omega arith

joined_off : (b h t : Bool) (x u w : ℕ) (g : ℤ) → (b ≡ true → ⊥) →
    (only h (forth (cond b (pos x -ℤ g) (pos x))) + only t (back (cond b (pos x -ℤ g) (pos x))) ≤ (only h x + only t 0) + only b u)
    × ((only h (forth (cond b (pos x -ℤ g) (pos x))) + only t (back (cond b (pos x -ℤ g) (pos x)))) + ((only t x + only h 0) + only b w)
    ≡ (only t (forth (cond b (pos x -ℤ g) (pos x))) + only h (back (cond b (pos x -ℤ g) (pos x)))) + ((only h x + only t 0) + only b u))
joined_off true h t x u w g no-link = absurd (no-link refl)
joined_off false h t x u w g no-link = omega arith

joined : (r : Run) (f g : ℤ) (v : ℕ) → back f ≡ 0 → (is_link r.kind ≡ true → back g ≡ 0) → Joined r f g v
joined r (pos x) (pos y) v ef eg = joined_nat (is_link r.kind) (eqb r.head v) (eqb r.tail v) x y
joined r (pos x) (negsuc y) v ef eg = joined_off (is_link r.kind) (eqb r.head v) (eqb r.tail v) x _ _ (negsuc y) (λ e. let q : suc y ≡ 0 = eg e in omega arith)
joined r (negsuc x) g v ef eg = let no_such : ⊥ = omega arith in absurd no_such

-- its range
range : (k : Kind) (lo up : ℕ) (f g : ℤ) → InRange Lead lo up f → (is_link k ≡ true → InRange Lead 0 up g) → InRange k lo up (cond (is_link k) (f -ℤ g) f)
range Lead lo up f g hf hg = hf
range Link lo up f g hf hg = size lo up f g hf (hg refl)
  where
    size : (lo up : ℕ) (f g : ℤ) → InRange Lead lo up f → InRange Lead 0 up g → nat_abs (f -ℤ g) ≤ up
    size lo up f g hf hg = omega (arith, ints)

module _ (d : Network) (p : Plan) (ok : Feasible (links_below d) p) where
  first_range : (k : ℕ) → Within (run_count d) k → InRange Lead (run d k).lower (run d k).upper (flow p k)
  first_range k w = subst (λ r. InRange r.kind r.lower r.upper (flow p k)) (front_is d k w) (ok.in_range k (front_within d k w))

  second_range : (k : ℕ) → Within (run_count d) k → link_at d k ≡ true → InRange Lead 0 (run d k).upper (flow p (back_of d k))
  second_range k w e = subst (λ r. InRange r.kind r.lower r.upper (flow p (back_of d k))) (back_is d k w e) (ok.in_range (back_of d k) (back_within d k w e))

  flow_is : (k : ℕ) → Within (run_count d) k → flow (links_plan d p) k ≡ links_flow d p k
  flow_is k w = nth_made (links_flow d p) (run_count d) k (pos 0) w

  at_run : (k : ℕ) → Within (run_count d) k → (v : ℕ) → Joined (run d k) (flow p k) (flow p (back_of d k)) v
  at_run k w v =
      joined (run d k) (flow p k) (flow p (back_of d k)) v (lead_flow _ _ _ (first_range k w)).2 (λ e. (lead_flow _ _ _ (second_range k w e)).2)

  module _ (v : ℕ) where
    abbrev drawn_in : ℕ → ℕ
    drawn_in k = brings (run d k) (links_flow d p k) v

    abbrev drawn_out : ℕ → ℕ
    drawn_out k = takes (run d k) (links_flow d p k) v

    abbrev down_in : ℕ → ℕ
    down_in k = brought (run d k) (flow p k) (flow p (back_of d k)) v

    abbrev down_out : ℕ → ℕ
    down_out k = taken (run d k) (flow p k) (flow p (back_of d k)) v

    entering_is : entering d (links_plan d p) v ≡ sum_to (run_count d) drawn_in
    entering_is = sum_same (run_count d) _ drawn_in (λ k w. ap (λ f. brings (run d k) f v) (flow_is k w))

    leaving_is : leaving d (links_plan d p) v ≡ sum_to (run_count d) drawn_out
    leaving_is = sum_same (run_count d) _ drawn_out (λ k w. ap (λ f. takes (run d k) f v) (flow_is k w))

    entering_down : entering (links_below d) p v ≡ sum_to (run_count d) down_in
    entering_down = sum_down d (λ r k. brings r (flow p k) v)

    leaving_down : leaving (links_below d) p v ≡ sum_to (run_count d) down_out
    leaving_down = sum_down d (λ r k. takes r (flow p k) v)

    no_more : entering d (links_plan d p) v ≤ entering (links_below d) p v
    no_more = omega (arith, entering_is, entering_down, sum_below (run_count d) drawn_in down_in (λ k w. (at_run k w v).0))

    on_balance : entering d (links_plan d p) v + leaving (links_below d) p v ≡ leaving d (links_plan d p) v + entering (links_below d) p v
    on_balance =
        let m = run_count d in
        let each = sum_same m (λ k. drawn_in k + down_out k) (λ k. drawn_out k + down_in k) (λ k w. (at_run k w v).1) in
        omega (arith, each, entering_is, entering_down, leaving_is, leaving_down, sum_plus m drawn_in down_out, sum_plus m drawn_out down_in)

under_less : (o : Option ℕ) (x y : ℕ) → x ≤ y → Under o y → Under o x
under_less None x y l h = tt
under_less (Some n) x y l h = omega arith

-- a feasible plan for the network below is read as a feasible plan
pub links_feasible : (d : Network) (p : Plan) → Feasible (links_below d) p → Feasible d (links_plan d p)
links_feasible d p ok =
    record {
      flow_count = length-map-range_with_len (links_flow d p) 1 (run_count d);
      supply_count = ok.supply_count;
      delivery_count = ok.delivery_count;
      racks_supply = ok.racks_supply;
      bars_deliver = ok.bars_deliver;
      in_range = λ k w. subst (λ f. InRange (run d k).kind (run d k).lower (run d k).upper f) (sym (flow_is d p ok k w))
          (range (run d k).kind _ _ (flow p k) (flow p (back_of d k)) (first_range d p ok k w) (second_range d p ok k w));
      balanced = λ v w. omega (arith, ok.balanced v w, on_balance d p ok v);
      limited = λ v w. under_less (point d v).limit _ _ (omega (arith, no_more d p ok v)) (ok.limited v w);
    }

-- and so a right answer is read as a right answer
pub links_right : (d : Network) → Lawful d → (a : Answer) → Right (links_below d) a → Right d (links_above d a)
links_right d law (Planned p t ls) (ok, sum, cut, equal) =
    (links_feasible d p ok, sum, record { labelled = labels_up d ls cut.labelled; no_far_rack = cut.no_far_rack; no_near_bar = cut.no_near_bar }, sym (links_worth d law ls) ∙ equal)
links_right d law (Short ls) short =
    record { labelled = labels_up d ls short.labelled; negative = subst (λ z. z <ℤ pos 0) (links_worth d law ls) short.negative; not_both = short.not_both }

-- Reading the flows below, counted from 0: that of run i + 1 stands at i, and that of its lead back at `back`.
module _ (d : Network) (p : Plan) (ok : Feasible (links_below d) p) (i : ℕ) (lt : i < run_count d) where
  pub read_flow : (i < length p.flows) × (pos 0 ≤ℤ get_or p.flows i (pos 0))
  read_flow =
      let w : Within (run_count d) (suc i) = omega arith in
      (omega (arith, ok.flow_count, front_within d (suc i) w), at_least (flow p (suc i)) (first_range d p ok (suc i) w))
    where
      at_least : {lo up : ℕ} (f : ℤ) → InRange Lead lo up f → pos 0 ≤ℤ f
      at_least f h = omega (arith, ints)

  pub read_lead : link_at d (suc i) ≡ false → links_flow d p (suc i) ≡ get_or p.flows i (pos 0)
  read_lead e = cond-false (link_at d (suc i)) _ _ e

  module _ (back : ℕ) (at : back ≡ run_count d + count_to i (link_at d)) (e : link_at d (suc i) ≡ true) where
    back_at : back_of d (suc i) ≡ suc back
    back_at = omega (arith, ap (λ b. only b 1) e)

    pub read_back : (back < length p.flows) × (pos 0 ≤ℤ get_or p.flows back (pos 0))
    read_back =
        let w : Within (run_count d) (suc i) = omega arith in (
          omega (arith, ok.flow_count, back_within d (suc i) w e, back_at),
          subst (λ k. pos 0 ≤ℤ flow p k) back_at (second_range d p ok (suc i) w e).0,
        )

    pub read_link : links_flow d p (suc i) ≡ get_or p.flows i (pos 0) -ℤ get_or p.flows back (pos 0)
    read_link = cond-true (link_at d (suc i)) _ _ e ∙ ap (λ k. flow p (suc i) -ℤ flow p k) back_at
