-- The first network of the lower-bounds layer: its runs and sums over them, and the shortage it tells.
use Rattle.std.proofs.Common.{◌≡◌, ℕ, zero, suc, ◌+◌, ◌-◌, ◌<◌, ◌≤◌, Bool, true, false, cond, ◌&&◌, List, [], ◌∷◌, ◌++◌, map, length, pos, ◌<ℤ◌, is_some, Some, None, Option, sym, refl, ap, ◌∙◌, subst, ap₂, subst₂, ⊎_elim, true≢false, zero-le, arith, length-append}
use mathlib.Core.Bool.{false≢true}
use Rattle.std.proofs.lemmas.Int.{ints}
use Rattle.std.proofs.lemmas.List.{length-map}
use Rattle.std.proofs.lemmas.Bool.{cases_eq, cases_lt, cases_Bool, and_parts, not-false, eqb-true, and_left, and_right}
use Rattle.std.proofs.lemmas.List.FromFn.{length-map-range_with_len}
use Rattle.drawing.specs.declared.Mark.{Mark}
use Rattle.drawing.specs.declared.Mark.TheVariants.{Plain, Rack, Bar}
use Rattle.drawing.specs.declared.Kind.{Kind}
use Rattle.drawing.specs.declared.Kind.TheVariants.{Lead}
use Rattle.drawing.specs.declared.Run.{Run}
use Rattle.drawing.specs.declared.Label.{Label}
use Rattle.drawing.specs.declared.Label.TheVariants.{Near, Tight, Far}
use Rattle.drawing.specs.Counts.{Within, sum_to, only, count_to, nth}
use Rattle.drawing.specs.Drawings.{Network, Lawful, LawfulRun, point_count, run_count, no_run, point, run, is_rack, is_bar, is_link, limit_of, uses}
use Rattle.drawing.specs.declared.Feature.TheVariants.{Links, Limits, Terminals}
use Rattle.drawing.specs.Labels.{is_near, is_tight, is_far, label, adds, deducts, Labelling, crossing, throttled, forced, worth, far_rack, near_bar}
use Rattle.reductions.specs.Terminals.{new_rack, new_bar}
use Rattle.reductions.specs.LowerBounds.{old_rack, old_bar, lowers_in, lowers_out, all_lowers, uppers_out, slack, supply_lead, demand_lead, return_lead, pairs, lowers_first, short_labels}
use Rattle.drawing.proofs.Sums.{earlier, last, sum_same, sum_below, sum_none, sum_plus, only_zero}
use Rattle.reductions.proofs.Places.{nth_map, nth_made, nth_front, nth_rest, sum_append}
use Rattle.reductions.proofs.Relabel.{reading, reading_tight}
use Rattle.reductions.proofs.Terminals.{point_count_lem, old_point, the_rack, the_bar, sum_points, old_in, rack_in, bar_in, some_none}
use Rattle.reductions.proofs.Ones.{One, one, sum_one, gather₁, sum_pairs}
use Rattle.duality.proofs.Duality.{none_to}

-- two runs for each of 1 .. n
module _ (a b : ℕ → Run) where
  pairs_count : (n : ℕ) → length (pairs n a b) ≡ n + n
  pairs_count zero = refl
  pairs_count (suc n) = length-append (pairs n a b) (a (suc n) ∷ b (suc n) ∷ []) ∙ omega (arith, pairs_count n)

  pair_first : (n v : ℕ) → Within n v → nth (pairs n a b) (v + v - 1) no_run ≡ a v
  pair_first zero v w = let no_such : ⊥ = omega arith in absurd no_such
  pair_first (suc n) v w = ⊎_elim
      (λ (q : v ≡ suc n).
      let at : v + v - 1 ≡ length (pairs n a b) + 1 = omega (arith, pairs_count n) in
      ap (λ z. nth (pairs (suc n) a b) z no_run) at ∙ nth_rest (pairs n a b) (a (suc n) ∷ b (suc n) ∷ []) 1 no_run (omega arith) ∙ ap a (sym q))
      (λ (q : v ≡ suc n → ⊥). nth_front (pairs n a b) _ (v + v - 1) no_run (omega (arith, pairs_count n)) ∙ pair_first n v (omega arith))
      (cases_eq v (suc n))

  pair_second : (n v : ℕ) → Within n v → nth (pairs n a b) (v + v) no_run ≡ b v
  pair_second zero v w = let no_such : ⊥ = omega arith in absurd no_such
  pair_second (suc n) v w = ⊎_elim
      (λ (q : v ≡ suc n).
      let at : v + v ≡ length (pairs n a b) + 2 = omega (arith, pairs_count n) in
      ap (λ z. nth (pairs (suc n) a b) z no_run) at ∙ nth_rest (pairs n a b) (a (suc n) ∷ b (suc n) ∷ []) 2 no_run (omega arith) ∙ ap b (sym q))
      (λ (q : v ≡ suc n → ⊥). nth_front (pairs n a b) _ (v + v) no_run (omega (arith, pairs_count n)) ∙ pair_second n v (omega arith))
      (cases_eq v (suc n))

  -- what holds of both runs of each
  each_pair : (P : Run → Type 0) (n : ℕ) → ((v : ℕ) → Within n v → P (a v) × P (b v)) → (j : ℕ) → Within (n + n) j → P (nth (pairs n a b) j no_run)
  each_pair P zero h j w = let no_such : ⊥ = omega arith in absurd no_such
  each_pair P (suc n) h j w = ⊎_elim
      (λ (q : j ≡ n + n + 2). subst P (sym (ap (λ z. nth (pairs (suc n) a b) z no_run) (let t : j ≡ suc n + suc n = omega arith in t) ∙ pair_second (suc n) (suc n) (last n))) (h (suc n) (last n)).1)
      (λ (q : j ≡ n + n + 2 → ⊥). ⊎_elim
      (λ (z : j ≡ n + n + 1). subst P (sym (ap (λ z. nth (pairs (suc n) a b) z no_run) (let t : j ≡ suc n + suc n - 1 = omega arith in t) ∙ pair_first (suc n) (suc n) (last n))) (h (suc n) (last n)).0)
      (λ (z : j ≡ n + n + 1 → ⊥). subst P (sym (nth_front (pairs n a b) _ j no_run (omega (arith, pairs_count n)))) (each_pair P n (λ v i. h v (earlier i)) j (omega arith)))
      (cases_eq j (n + n + 1)))
      (cases_eq j (n + n + 2))

module _ (d : Network) where
  abbrev pub n : ℕ
  n = point_count d

  abbrev pub m : ℕ
  m = run_count d

  abbrev pub d₁ : Network
  d₁ = lowers_first d

  abbrev slacks : List Run
  slacks = map slack d.runs

  abbrev both : List Run
  both = pairs n (supply_lead d) (demand_lead d)

  abbrev extra : List Run
  extra = both ++ (return_lead d ∷ [])

  slack_count : length slacks ≡ m
  slack_count = length-map d.runs slack

  both_count : length both ≡ n + n
  both_count = pairs_count (supply_lead d) (demand_lead d) n

  extra_count : length extra ≡ n + n + 1
  extra_count = length-append both (return_lead d ∷ []) ∙ ap (λ z. z + 1) both_count

  pub run_count_lem : run_count d₁ ≡ m + (n + n + 1)
  run_count_lem = length-append slacks extra ∙ ap₂ ◌+◌ slack_count extra_count

  -- where each stands
  abbrev pub src_of : ℕ → ℕ
  src_of v = m + (v + v - 1)

  abbrev pub snk_of : ℕ → ℕ
  snk_of v = m + (v + v)

  abbrev pub last_of : ℕ
  last_of = m + (n + n + 1)

  pub slack_at : (k : ℕ) → Within m k → run d₁ k ≡ slack (run d k)
  slack_at k w = nth_front slacks extra k no_run (omega (arith, slack_count)) ∙ nth_map slack d.runs k no_run no_run w

  extra_at : (j : ℕ) → 1 ≤ j → run d₁ (m + j) ≡ nth extra j no_run
  extra_at j h = ap (λ z. run d₁ (z + j)) (sym slack_count) ∙ nth_rest slacks extra j no_run h

  pub src_at : (v : ℕ) → Within n v → run d₁ (src_of v) ≡ supply_lead d v
  src_at v w = extra_at (v + v - 1) (omega arith) ∙ nth_front both (return_lead d ∷ []) (v + v - 1) no_run (omega (arith, both_count)) ∙ pair_first (supply_lead d) (demand_lead d) n v w

  pub snk_at : (v : ℕ) → Within n v → run d₁ (snk_of v) ≡ demand_lead d v
  snk_at v w = extra_at (v + v) (omega arith) ∙ nth_front both (return_lead d ∷ []) (v + v) no_run (omega (arith, both_count)) ∙ pair_second (supply_lead d) (demand_lead d) n v w

  pub last_at : run d₁ last_of ≡ return_lead d
  last_at = extra_at (n + n + 1) (omega arith) ∙ ap (λ z. nth extra (z + 1) no_run) (sym both_count) ∙ nth_rest both (return_lead d ∷ []) 1 no_run (omega arith)

  pub sum_runs : (g : Run → ℕ → ℕ) → sum_to (run_count d₁) (λ k. g (run d₁ k) k)
      ≡ sum_to m (λ k. g (slack (run d k)) k) + (sum_to n (λ v. g (supply_lead d v) (src_of v)) + sum_to n (λ v. g (demand_lead d v) (snk_of v)) + g (return_lead d) last_of)
  sum_runs g =
      let f : ℕ → ℕ = λ k. g (run d₁ k) k in
      let f' : ℕ → ℕ = λ j. f (m + j) in
      let rest : sum_to (n + n + 1) f' ≡ sum_to (n + n) f' + f' (n + n + 1) = omega (arith, sum_append (n + n) 1 f') in
      omega (
        arith,
        ap (λ z. sum_to z f) run_count_lem,
        sum_append m (n + n + 1) f,
        rest,
        sum_pairs n f',
        sum_same m f (λ k. g (slack (run d k)) k) (λ k w. ap (λ r. g r k) (slack_at k w)),
        sum_plus n (λ v. f' (v + v - 1)) (λ v. f' (v + v)),
        sum_same n (λ v. f' (v + v - 1)) (λ v. g (supply_lead d v) (src_of v)) (λ v w. ap (λ r. g r (src_of v)) (src_at v w)),
        sum_same n (λ v. f' (v + v)) (λ v. g (demand_lead d v) (snk_of v)) (λ v w. ap (λ r. g r (snk_of v)) (snk_at v w)),
        ap (λ r. g r last_of) last_at,
      )

  -- what holds of each
  pub each_run₁ : (P : Run → Type 0) → ((k : ℕ) → Within m k → P (slack (run d k))) → ((v : ℕ) → Within n v → P (supply_lead d v) × P (demand_lead d v)) → P (return_lead d)
      → (k : ℕ) → Within (run_count d₁) k → P (run d₁ k)
  each_run₁ P h₁ h₂ h₃ k w = ⊎_elim
      (λ (q : m < k).
      let at : m + (k - m) ≡ k = omega arith in
      subst (λ z. P (run d₁ z)) at (subst P (sym (extra_at (k - m) (omega arith))) (⊎_elim
      (λ (z : n + n < k - m). subst P (sym (ap (λ i. nth extra i no_run) (let t : k - m ≡ length both + 1 = omega (arith, both_count, run_count_lem) in t) ∙ nth_rest both (return_lead d ∷ []) 1 no_run (omega arith))) h₃)
      (λ (z : k - m ≤ n + n). subst P (sym (nth_front both (return_lead d ∷ []) (k - m) no_run (omega (arith, both_count)))) (each_pair (supply_lead d) (demand_lead d) P n h₂ (k - m) (omega arith)))
      (cases_lt (n + n) (k - m)))))
      (λ (q : k ≤ m). subst P (sym (slack_at k (omega arith))) (h₁ k (omega arith)))
      (cases_lt m k)

-- one rack and one bar
module _ (d : Network) (plain-ends : uses d Terminals ≡ false) where
  counts : (count_to (point_count d) (λ v. is_rack (point d v).mark) ≡ 1) × (count_to (point_count d) (λ v. is_bar (point d v).mark) ≡ 1)
  counts = let (r, b) = and_parts _ _ (not-false _ plain-ends) in (eqb-true _ _ r, eqb-true _ _ b)

  pub the_one_rack : One (point_count d) (λ v. is_rack (point d v).mark) (old_rack d)
  the_one_rack = one (point_count d) (λ v. is_rack (point d v).mark) counts.0

  pub the_one_bar : One (point_count d) (λ v. is_bar (point d v).mark) (old_bar d)
  the_one_bar = one (point_count d) (λ v. is_bar (point d v).mark) counts.1

  pub ends_apart : old_bar d ≡ old_rack d → ⊥
  ends_apart e = not_two (point d (old_rack d)).mark the_one_rack.passes (ap (λ v. is_bar (point d v).mark) (sym e) ∙ the_one_bar.passes)
    where
      not_two : (k : Mark) → is_rack k ≡ true → is_bar k ≡ true → ⊥
      not_two Plain r b = false≢true r
      not_two Rack r b = false≢true b
      not_two Bar r b = false≢true r

  pub first_lawful : Lawful d → Lawful (lowers_first d)
  first_lawful law = record {
    some_point = omega (arith, point_count_lem d);
    each_run = each_run₁ d (LawfulRun (point_count (lowers_first d)))
        (λ k w. let h = law.each_run k w in record { tail_in = old_in d _ h.tail_in; head_in = old_in d _ h.head_in; apart = h.apart; ordered = zero-le; link_lower = λ e. refl })
        (λ v w. (
          record { tail_in = rack_in d; head_in = old_in d v w; apart = omega arith; ordered = zero-le; link_lower = λ e. refl },
          record { tail_in = old_in d v w; head_in = bar_in d; apart = omega arith; ordered = zero-le; link_lower = λ e. refl },
        ))
        (record { tail_in = old_in d _ the_one_bar.inside; head_in = old_in d _ the_one_rack.inside; apart = ends_apart; ordered = zero-le; link_lower = λ e. refl });
  }

-- the worth of a cut of the first network, by what it says of the drawing
slack_run : (k : Kind) (a b : Label) (lo up : ℕ) → is_link k ≡ false → is_tight a ≡ false → is_tight b ≡ false → lo ≤ up
    → adds Lead a b (up - lo) + (only (is_far b) lo + only (is_near a) lo) + deducts k a b lo ≡ adds k a b up + lo
slack_run k a b lo up p q r h = grind arith

short_label_lem : (a : Label) (x : Bool) → (x ≡ true → is_far a ≡ true) → cond x Near a ≡ reading a x false
short_label_lem Near true h = absurd (false≢true (h refl))
short_label_lem Tight true h = absurd (false≢true (h refl))
short_label_lem Far true h = refl
short_label_lem Near false h = refl
short_label_lem Tight false h = refl
short_label_lem Far false h = refl

rack_bonus : (r f F N : Bool) (u : ℕ) → (r ≡ true → f ≡ F) → only (f && (r && (F && N))) u ≡ only r (only (N && F) u)
rack_bonus r f F N u h = grind arith

and_near : (a b : Bool) (u : ℕ) → a ≡ true → only (a && b) u ≡ only b u
and_near a b u e = grind arith

and_far : (a b : Bool) (u : ℕ) → b ≡ true → only (a && b) u ≡ only a u
and_far a b u e = grind arith

-- a far rack beside a near bar is read as near, so not both are left
read_rack : (r f F N : Bool) → (r ≡ true → f ≡ F) → N ≡ true → (a : Label) → is_far a ≡ f → (r && is_far (reading a (r && (F && N)) false)) ≡ false
read_rack r f F N h e a q = grind arith

read_bar : (b f N x : Bool) → (b ≡ true → f ≡ N) → N ≡ false → (b ≡ true → x ≡ false) → (a : Label) → is_near a ≡ f → (b && is_near (reading a x false)) ≡ false
read_bar b f N x h e g a q = grind arith

-- with the source near and the sink far
module _ (d : Network) (law : Lawful d) (no_links : uses d Links ≡ false) (no_limits : uses d Limits ≡ false) (plain-ends : uses d Terminals ≡ false)
    (ls : List Label) (marked : Labelling (lowers_first d) ls)
    (near : is_near (label ls (new_rack d)) ≡ true) (far : is_far (label ls (new_bar d)) ≡ true) where
  abbrev F : Bool
  F = is_far (label ls (old_rack d))

  abbrev N : Bool
  N = is_near (label ls (old_bar d))

  abbrev up : List Label
  up = short_labels d ls

  abbrev x : ℕ → Bool
  x v = is_rack (point d v).mark && (F && N)

  loose : (v : ℕ) → Within (point_count d) v → is_tight (label ls v) ≡ false
  loose v w = not_so (is_tight (label ls v)) (λ t. true≢false (sym (marked.tight_limited v (old_in d v w) t) ∙ ap (λ z. is_some z.limit) (old_point d v w) ∙ none_to (point_count d) _ no_limits v w))
    where
      not_so : (b : Bool) → (b ≡ true → ⊥) → b ≡ false
      not_so true h = absurd (h refl)
      not_so false h = refl

  is_rack_lem : (v : ℕ) → Within (point_count d) v → is_rack (point d v).mark ≡ true → v ≡ old_rack d
  is_rack_lem v w e = eqb-true _ _ (sym ((the_one_rack d plain-ends).alone v w) ∙ e)

  is_bar_lem : (v : ℕ) → Within (point_count d) v → is_bar (point d v).mark ≡ true → v ≡ old_bar d
  is_bar_lem v w e = eqb-true _ _ (sym ((the_one_bar d plain-ends).alone v w) ∙ e)

  rack_far_lem : (v : ℕ) → Within (point_count d) v → x v ≡ true → is_far (label ls v) ≡ true
  rack_far_lem v w e =
      let (r, fn) = and_parts _ _ e in
      let (f, _) = and_parts _ _ fn in
      let same : v ≡ old_rack d = eqb-true _ _ (sym ((the_one_rack d plain-ends).alone v w) ∙ r) in
      ap (λ z. is_far (label ls z)) same ∙ f

  label_is : (v : ℕ) → Within (point_count d) v → label up v ≡ reading (label ls v) (x v) false
  label_is v w = nth_made (λ u. cond (x u) Near (label ls u)) (point_count d) v _ w ∙ short_label_lem (label ls v) (x v) (rack_far_lem v w)

  ways_none : (o : Option ℕ) → is_some o ≡ false → limit_of o ≡ 0
  ways_none None e = refl
  ways_none (Some l) e = absurd (true≢false e)

  throttled_none : (us : List Label) → throttled d us ≡ 0
  throttled_none us = sum_none (point_count d) _ (λ v w. ap (only (is_tight (label us v))) (ways_none (point d v).limit (none_to (point_count d) _ no_limits v w)) ∙ only_zero (is_tight (label us v)))

  bonus : sum_to (run_count d) (λ k. only (is_far (label ls (run d k).tail) && x (run d k).tail) (run d k).upper) ≡ only (N && F) (uppers_out d (old_rack d))
  bonus =
      sym (gather₁ (point_count d) (run_count d) (λ k. (run d k).tail) (λ k. (run d k).upper) (λ v. is_far (label ls v) && x v) (λ k w. (law.each_run k w).tail_in))
      ∙ sum_same (point_count d) _ (λ v. only (is_rack (point d v).mark) (only (N && F) (uppers_out d v))) (λ v w. rack_bonus (is_rack (point d v).mark) (is_far (label ls v)) F N (uppers_out d v) (λ e. ap (λ z. is_far (label ls z)) (is_rack_lem v w e)))
      ∙ sum_one (point_count d) _ (old_rack d) (λ v. only (N && F) (uppers_out d v)) (the_one_rack d plain-ends)

  crossing_first : crossing (lowers_first d) ls
      ≡ sum_to (run_count d) (λ k. adds Lead (label ls (run d k).tail) (label ls (run d k).head) ((run d k).upper - (run d k).lower))
      + (sum_to (run_count d) (λ k. only (is_far (label ls (run d k).head)) (run d k).lower) + sum_to (run_count d) (λ k. only (is_near (label ls (run d k).tail)) (run d k).lower) + only (N && F) (uppers_out d (old_rack d)))
  crossing_first =
      let A : ℕ → ℕ = λ k. adds Lead (label ls (run d k).tail) (label ls (run d k).head) ((run d k).upper - (run d k).lower) in
      sum_runs d (λ r k. adds r.kind (label ls r.tail) (label ls r.head) r.upper)
      ∙ ap (λ z. sum_to (run_count d) A + (z + only (N && F) (uppers_out d (old_rack d)))) (ap₂ ◌+◌
      (sum_same (point_count d) _ _ (λ v w. and_near _ (is_far (label ls v)) (lowers_in d v) near)
      ∙ gather₁ (point_count d) (run_count d) (λ k. (run d k).head) (λ k. (run d k).lower) (λ v. is_far (label ls v)) (λ k w. (law.each_run k w).head_in))
      (sum_same (point_count d) _ _ (λ v w. and_far (is_near (label ls v)) _ (lowers_out d v) far)
      ∙ gather₁ (point_count d) (run_count d) (λ k. (run d k).tail) (λ k. (run d k).lower) (λ v. is_near (label ls v)) (λ k w. (law.each_run k w).tail_in)))

  throttled_first : throttled (lowers_first d) ls ≡ 0
  throttled_first =
      sum_points d (λ v. only (is_tight (label ls v)) (limit_of (point (lowers_first d) v).limit))
      ∙ omega (
        arith,
        sum_none (point_count d) (λ v. only (is_tight (label ls v)) (limit_of (point (lowers_first d) v).limit))
            (λ v w. ap (λ z. only (is_tight (label ls v)) (limit_of z.limit)) (old_point d v w) ∙ ap (only (is_tight (label ls v))) (ways_none (point d v).limit (none_to (point_count d) _ no_limits v w)) ∙ only_zero (is_tight (label ls v))),
        ap (λ q. only (is_tight (label ls (new_rack d))) (limit_of q.limit)) (the_rack d),
        only_zero (is_tight (label ls (new_rack d))),
        ap (λ q. only (is_tight (label ls (new_bar d))) (limit_of q.limit)) (the_bar d),
        only_zero (is_tight (label ls (new_bar d))),
      )

  forced_first : forced (lowers_first d) ls ≡ 0
  forced_first = sum_none (run_count (lowers_first d)) _ (λ k w. no_deduct (run (lowers_first d) k).kind _ _ _ (no_lower k w))
    where
      no_deduct : (k : Kind) (a b : Label) (lo : ℕ) → lo ≡ 0 → deducts k a b lo ≡ 0
      no_deduct k a b lo e = grind arith

      no_lower : (k : ℕ) → Within (run_count (lowers_first d)) k → (run (lowers_first d) k).lower ≡ 0
      no_lower = each_run₁ d (λ r. r.lower ≡ 0) (λ k w. refl) (λ v w. (refl, refl)) refl

  read_run : (k : ℕ) → Within (run_count d) k → adds (run d k).kind (label up (run d k).tail) (label up (run d k).head) (run d k).upper + deducts (run d k).kind (label ls (run d k).tail) (label ls (run d k).head) (run d k).lower
      ≤ adds (run d k).kind (label ls (run d k).tail) (label ls (run d k).head) (run d k).upper + deducts (run d k).kind (label up (run d k).tail) (label up (run d k).head) (run d k).lower
      + only (is_far (label ls (run d k).tail) && x (run d k).tail) (run d k).upper
  read_run k w =
      let r = run d k in
      let h = law.each_run k w in
      let P : Label → Label → Type 0 = λ a b. adds r.kind a b r.upper + deducts r.kind (label ls r.tail) (label ls r.head) r.lower
      ≤ adds r.kind (label ls r.tail) (label ls r.head) r.upper + deducts r.kind a b r.lower + only (is_far (label ls r.tail) && x r.tail) r.upper in
      subst₂ P (sym (label_is r.tail h.tail_in)) (sym (label_is r.head h.head_in))
      (plain_part r.kind (label ls r.tail) (label ls r.head) (x r.tail) (x r.head) r.lower r.upper h.ordered (none_to (run_count d) _ no_links k w))
    where
      plain_part : (k : Kind) (a b : Label) (x z : Bool) (lo up : ℕ) → lo ≤ up → is_link k ≡ false
          → adds k (reading a x false) (reading b z false) up + deducts k a b lo ≤ adds k a b up + deducts k (reading a x false) (reading b z false) lo + only (is_far a && x) up
      plain_part k a b x z lo up h e = grind arith

  -- with less than all lowers in all, the labels are worth less than nothing
  pub short_worth : (t : ℕ) → worth (lowers_first d) ls ≡ pos t → t < all_lowers d → worth d up <ℤ pos 0
  short_worth t e h =
      let m = run_count d in
      let A' : ℕ → ℕ = λ k. adds (run d k).kind (label up (run d k).tail) (label up (run d k).head) (run d k).upper in
      let D' : ℕ → ℕ = λ k. deducts (run d k).kind (label up (run d k).tail) (label up (run d k).head) (run d k).lower in
      let A : ℕ → ℕ = λ k. adds (run d k).kind (label ls (run d k).tail) (label ls (run d k).head) (run d k).upper in
      let D : ℕ → ℕ = λ k. deducts (run d k).kind (label ls (run d k).tail) (label ls (run d k).head) (run d k).lower in
      let B : ℕ → ℕ = λ k. only (is_far (label ls (run d k).tail) && x (run d k).tail) (run d k).upper in
      let S : ℕ → ℕ = λ k. adds Lead (label ls (run d k).tail) (label ls (run d k).head) ((run d k).upper - (run d k).lower) in
      let I : ℕ → ℕ = λ k. only (is_far (label ls (run d k).head)) (run d k).lower in
      let O : ℕ → ℕ = λ k. only (is_near (label ls (run d k).tail)) (run d k).lower in
      let L : ℕ → ℕ = λ k. (run d k).lower in
      let reads = sum_below m (λ k. A' k + D k) (λ k. A k + D' k + B k) read_run in
      let slacks = sum_same m (λ k. S k + (I k + O k) + D k) (λ k. A k + L k)
      (λ k w. let g = law.each_run k w in slack_run (run d k).kind _ _ (run d k).lower (run d k).upper (none_to m _ no_links k w) (loose _ g.tail_in) (loose _ g.head_in) g.ordered) in
      omega (
        arith,
        ints,
        e,
        reads,
        slacks,
        sum_plus m A' D,
        sum_plus m (λ k. A k + D' k) B,
        sum_plus m A D',
        sum_plus m (λ k. S k + (I k + O k)) D,
        sum_plus m S (λ k. I k + O k),
        sum_plus m I O,
        sum_plus m A L,
        bonus,
        crossing_first,
        throttled_first,
        forced_first,
        throttled_none up,
      )

  pub short_labelling : Labelling d up
  short_labelling = record {
    label_count = length-map-range_with_len _ 1 (point_count d);
    tight_limited = λ v w e. absurd (true≢false (sym e ∙ ap is_tight (label_is v w) ∙ reading_tight (label ls v) (x v) false ∙ loose v w));
  }

  pub short_not_both : (far_rack d up && near_bar d up) ≡ false
  short_not_both = ⊎_elim
      (λ (e : N ≡ true). and_left _ _ (some_none (point_count d) _ (λ v w. ap (λ l. is_rack (point d v).mark && is_far l) (label_is v w)
      ∙ read_rack (is_rack (point d v).mark) (is_far (label ls v)) F N (λ r. ap (λ z. is_far (label ls z)) (is_rack_lem v w r)) e (label ls v) refl)))
      (λ (e : N ≡ false). and_right _ _ (some_none (point_count d) _ (λ v w. ap (λ l. is_bar (point d v).mark && is_near l) (label_is v w)
      ∙ read_bar (is_bar (point d v).mark) (is_near (label ls v)) N (x v) (λ b. ap (λ z. is_near (label ls z)) (is_bar_lem v w b)) e (λ b. ap (λ r. r && (F && N)) (bar_no_rack (point d v).mark b)) (label ls v) refl)))
      (cases_Bool N)
    where
      bar_no_rack : (k : Mark) → is_bar k ≡ true → is_rack k ≡ false
      bar_no_rack Plain e = refl
      bar_no_rack Rack e = absurd (false≢true e)
      bar_no_rack Bar e = refl
