-- The answer that stands in the arcs is right.
use Rattle.std.proofs.Common.{◌≡◌, ℕ, zero, suc, ◌+◌, ◌-◌, ◌*◌, ◌≤◌, Bool, true, false, cond, not, ◌&&◌, eqb, List, map, get_or, pos, ◌-ℤ◌, is_some, Some, None, Option, sym, refl, ap, ◌∙◌, subst, ap₂, ⊎_elim, arith}
use Rattle.std.specs.List.{range_with_len}
use Rattle.std.proofs.lemmas.Int.{ints}
use Rattle.std.proofs.lemmas.List.FromFn.{length-map-range_with_len, get_or-map-range_with_len}
use Rattle.std.proofs.lemmas.Bool.{cases_Bool, cases_eq, eq-eqb, ne_eqb, true≢false}
use Rattle.drawing.specs.declared.Kind.{Kind}
use Rattle.drawing.specs.declared.Kind.TheVariants.{Lead, Link}
use Rattle.drawing.specs.declared.Label.{Label}
use Rattle.drawing.specs.declared.Label.TheVariants.{Near, Far}
use Rattle.drawing.specs.Counts.{Within, sum_to, only, nth}
use Rattle.drawing.specs.Drawings.{Network, point_count, run_count, point, run, is_rack, is_bar, is_link, limit_of}
use Rattle.drawing.specs.Plans.{Plan, Feasible, InRange, Under, flow, supply, delivery, brings, takes, entering, leaving, total as total_of}
use Rattle.drawing.specs.Labels.{is_near, is_tight, is_far, label, Labelling, Cut, adds, deducts, crossing, throttled, forced}
use Rattle.drawing.specs.Answers.{Right}
use Rattle.drawing.proofs.Sums.{sum_same, sum_none, only_zero}
use Rattle.residual.specs.Plain.{Plain, rack_of, bar_of}
use Rattle.residual.specs.Readings.{plan_in, labels_by, answer_in, Solved}
use Rattle.residual.proofs.Terminals.{rack, bar, none_from}
use Rattle.residual.proofs.Cuts.{whole, balance, crossed}

-- the k-th of a list made by number
pub nth_made : {A : Type 0} (f : ℕ → A) (n k : ℕ) (x : A) → Within n k → nth (map f (range_with_len 1 n)) k x ≡ f k
nth_made f n zero x w = absurd (let z : ⊥ = omega arith in z)
nth_made f n (suc k) x w = get_or-map-range_with_len f 1 n k (suc k) x (omega arith) (omega arith)

-- where just one passes a test, the test says whether a number is that one
at_one : {n : ℕ} {t : ℕ → Bool} (o : ℕ) → t o ≡ true → ((v : ℕ) → Within n v → t v ≡ true → v ≡ o) → (v x : ℕ) → Within n v → only (t v) x ≡ cond (eqb o v) x 0
at_one {n} {t} o h alone v x w =
    ⊎_elim
    (λ (e : o ≡ v). ap (λ a. only a x) (sym (ap t e) ∙ h) ∙ sym (ap (λ b. cond b x 0) (eq-eqb o v e)))
    (λ (e : o ≡ v → ⊥).
    ap (λ b. only b x) (⊎_elim (λ (q : t v ≡ true). absurd (e (sym (alone v w q)))) (λ (q : t v ≡ false). q) (cases_Bool (t v)))
    ∙ sym (ap (λ b. cond b x 0) (ne_eqb o v e)))
    (cases_eq o v)

-- over components
lead_range : (k : Kind) (lower upper x : ℕ) → is_link k ≡ false → lower ≡ 0 → x ≤ upper → InRange k lower upper (pos x)
lead_range Lead lower upper x l z h = (omega (arith, ints), omega (arith, ints))
lead_range Link lower upper x l z h = absurd (true≢false l)

unlimited : (l : Option ℕ) (x : ℕ) → is_some l ≡ false → Under l x
unlimited None x h = tt
unlimited (Some y) x h = absurd (true≢false h)

only_brought : (a b : Bool) (x : ℕ) → only a x + only b 0 ≡ only a x
only_brought a b x = omega (arith, only_zero b)

lead_adds : (k : Kind) (a b : Bool) (upper : ℕ) → is_link k ≡ false → adds k (cond a Near Far) (cond b Near Far) upper ≡ only (a && not b) upper
lead_adds Lead true true upper l = refl
lead_adds Lead true false upper l = refl
lead_adds Lead false true upper l = refl
lead_adds Lead false false upper l = refl
lead_adds Link a b upper l = absurd (true≢false l)

nothing_deducted : (k : Kind) (a b : Label) → deducts k a b 0 ≡ 0
nothing_deducted Lead a b = only_zero _
nothing_deducted Link a b = refl

never_tight : (a : Bool) → is_tight (cond a Near Far) ≡ false
never_tight true = refl
never_tight false = refl

plain_worth : (c t f x : ℕ) → c ≡ x → t ≡ 0 → f ≡ 0 → pos (c + t) -ℤ pos f ≡ pos x
plain_worth c t f x a b e = omega (arith, ints)

module _ (d : Network) (p : Plain d) (rs : List ℕ) (near : ℕ → Bool) (total : ℕ) (s : Solved d (rack_of d) (bar_of d) rs near total) where
  abbrev plan : Plan
  plan = plan_in d rs total

  abbrev ls : List Label
  ls = labels_by (point_count d) near

  abbrev x : ℕ → ℕ
  x k = get_or rs (2 * k - 1) 0

  flow_is : (k : ℕ) → Within (run_count d) k → flow plan k ≡ pos (x k)
  flow_is k w = nth_made (λ k. pos (get_or rs (2 * k - 1) 0)) (run_count d) k (pos 0) w

  supply_is : (v : ℕ) → Within (point_count d) v → supply plan v ≡ only (is_rack (point d v).mark) total
  supply_is v w = nth_made (λ v. only (is_rack (point d v).mark) total) (point_count d) v 0 w

  delivery_is : (v : ℕ) → Within (point_count d) v → delivery plan v ≡ only (is_bar (point d v).mark) total
  delivery_is v w = nth_made (λ v. only (is_bar (point d v).mark) total) (point_count d) v 0 w

  label_is : (v : ℕ) → Within (point_count d) v → label ls v ≡ cond (near v) Near Far
  label_is v w = nth_made (λ v. cond (near v) Near Far) (point_count d) v _ w

  below_upper : (k : ℕ) → Within (run_count d) k → x k ≤ (run d k).upper
  below_upper zero w = absurd (let z : ⊥ = omega arith in z)
  below_upper (suc k) w = let e = whole d (rack_of d) (bar_of d) rs total s.sent k (omega arith) in omega arith

  entering_is : (v : ℕ) → entering d plan v ≡ sum_to (run_count d) (λ k. only (eqb (run d k).head v) (x k))
  entering_is v = sum_same (run_count d) _ _ (λ k w. ap (λ f. brings (run d k) f v) (flow_is k w) ∙ only_brought (eqb (run d k).head v) (eqb (run d k).tail v) (x k))

  leaving_is : (v : ℕ) → leaving d plan v ≡ sum_to (run_count d) (λ k. only (eqb (run d k).tail v) (x k))
  leaving_is v = sum_same (run_count d) _ _ (λ k w. ap (λ f. takes (run d k) f v) (flow_is k w) ∙ only_brought (eqb (run d k).tail v) (eqb (run d k).head v) (x k))

  balanced : (v : ℕ) → Within (point_count d) v → entering d plan v + supply plan v ≡ leaving d plan v + delivery plan v
  balanced v w =
      let r = rack d p in
      let b = bar d p in
      let e = balance d (rack_of d) (bar_of d) rs total s.sent (λ u. eqb u v) in
      let i = entering_is v in
      let o = leaving_is v in
      let su = supply_is v w ∙ at_one (rack_of d) r.passes r.alone v total w in
      let de = delivery_is v w ∙ at_one (bar_of d) b.passes b.alone v total w in
      omega (arith, e, i, o, su, de)

  pub feasible : Feasible d plan
  feasible = record {
    flow_count = length-map-range_with_len (λ k. pos (get_or rs (2 * k - 1) 0)) 1 (run_count d);
    supply_count = length-map-range_with_len (λ v. only (is_rack (point d v).mark) total) 1 (point_count d);
    delivery_count = length-map-range_with_len (λ v. only (is_bar (point d v).mark) total) 1 (point_count d);
    racks_supply = λ v w h. supply_is v w ∙ ap (λ b. only b total) h;
    bars_deliver = λ v w h. delivery_is v w ∙ ap (λ b. only b total) h;
    in_range = λ k w. subst (InRange (run d k).kind (run d k).lower (run d k).upper) (sym (flow_is k w)) (lead_range (run d k).kind (run d k).lower (run d k).upper (x k) (p.lead k w) (p.no_lower k w) (below_upper k w));
    balanced = balanced;
    limited = λ v w. unlimited (point d v).limit _ (p.no_limit v w);
  }

  total_is : total ≡ total_of plan
  total_is =
      sym (ap (λ n. sum_to n (supply plan)) (length-map-range_with_len (λ v. only (is_rack (point d v).mark) total) 1 (point_count d))
      ∙ sum_same (point_count d) (supply plan) (λ v. only (is_rack (point d v).mark) total) supply_is
      ∙ (rack d p).sum total)

  labelled : Labelling d ls
  labelled = record {
    label_count = length-map-range_with_len (λ v. cond (near v) Near Far) 1 (point_count d);
    tight_limited = λ v w h. absurd (true≢false (sym h ∙ ap is_tight (label_is v w) ∙ never_tight (near v)));
  }

  not_far : (b : Bool) (l : Label) → (b ≡ true → l ≡ Near) → (b && is_far l) ≡ false
  not_far true l h = ap is_far (h refl)
  not_far false l h = refl

  not_near : (b : Bool) (l : Label) → (b ≡ true → l ≡ Far) → (b && is_near l) ≡ false
  not_near true l h = ap is_near (h refl)
  not_near false l h = refl

  cut : Cut d ls
  cut = record {
    labelled = labelled;
    no_far_rack = none_from (point_count d) (λ v. is_rack (point d v).mark && is_far (label ls v)) (λ v w. not_far (is_rack (point d v).mark) (label ls v)
        (λ h. label_is v w ∙ ap (λ b. cond b Near Far) (ap near ((rack d p).alone v w h) ∙ s.near_source)));
    no_near_bar = none_from (point_count d) (λ v. is_bar (point d v).mark && is_near (label ls v)) (λ v w. not_near (is_bar (point d v).mark) (label ls v)
        (λ h. label_is v w ∙ ap (λ b. cond b Near Far) (ap near ((bar d p).alone v w h) ∙ s.far_sink)));
  }

  crossing_is : crossing d ls ≡ total
  crossing_is =
      sum_same (run_count d) _ (λ k. only (near (run d k).tail && not (near (run d k).head)) (run d k).upper)
      (λ k w.
      let r = p.lawful.each_run k w in
      ap₂ (λ a b. adds (run d k).kind a b (run d k).upper) (label_is (run d k).tail r.tail_in) (label_is (run d k).head r.head_in)
      ∙ lead_adds (run d k).kind (near (run d k).tail) (near (run d k).head) (run d k).upper (p.lead k w))
      ∙ crossed d (rack_of d) (bar_of d) rs near total s

  throttled_is : throttled d ls ≡ 0
  throttled_is = sum_none (point_count d) _ (λ v w. ap (λ b. only b (limit_of (point d v).limit)) (ap is_tight (label_is v w) ∙ never_tight (near v)))

  forced_is : forced d ls ≡ 0
  forced_is = sum_none (run_count d) _ (λ k w.
      ap (deducts (run d k).kind (label ls (run d k).tail) (label ls (run d k).head)) (p.no_lower k w) ∙ nothing_deducted (run d k).kind (label ls (run d k).tail) (label ls (run d k).head))

  pub right : Right d (answer_in d rs near total)
  right = (feasible, total_is, cut, plain_worth (crossing d ls) (throttled d ls) (forced d ls) total crossing_is throttled_is forced_is)
