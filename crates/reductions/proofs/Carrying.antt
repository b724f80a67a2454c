-- The solver below carries the network below whenever the layer carries the drawing, and a layer's numbers are never above those of a solver.
use Rattle.std.proofs.Common.{◌≡◌, ℕ, zero, suc, ◌+◌, ◌-◌, ◌*◌, ◌/◌, ◌<◌, ◌≤◌, min, Bool, true, false, cond, not, ◌&&◌, ◌||◌, eqb, ltb, is_some, Some, None, Option, sym, refl, ap, ◌∙◌, subst, ap₂, ⊎_elim, arith}
use Rattle.drawing.specs.declared.Mark.{Mark}
use Rattle.drawing.specs.declared.Mark.TheVariants.{Plain as PlainMark, Rack, Bar}
use Rattle.drawing.specs.declared.Kind.TheVariants.{Lead}
use Rattle.drawing.specs.declared.Run.{Run}
use Rattle.std.proofs.lemmas.Bool.Decides.{nat_tests}
use Rattle.std.proofs.lemmas.Bool.{cases_eq, cases_lt, eq-eqb, and_parts, and_from, leb-true, not_from_true, true≢false}
use Rattle.drawing.specs.Counts.{Within, sum_to, some_to, only, count_to}
use Rattle.drawing.specs.Drawings.{Network, Lawful, point_count, run_count, point, run, units, limit_of, is_link, is_rack, is_bar, uses}
use Rattle.reductions.specs.Links.{links_below, links_states}
use Rattle.reductions.specs.Terminals.{terminals_below, is_terminal, terminal_lead, new_rack, new_bar, uppers_leaving, uppers_entering, terminals_fit, terminals_states}
use Rattle.drawing.specs.declared.Feature.{Feature}
use Rattle.drawing.specs.declared.Feature.TheVariants.{LowerBounds, Links, Limits, Terminals}
use Rattle.drawing.specs.declared.Statements.{Statements}
use Rattle.drawing.specs.Solvers.{Modest, Carried, says_yes}
use Rattle.drawing.specs.Plans.{Plan, Feasible}
use Rattle.reductions.specs.Limits.{limited_at, moved, limit_lead, limits_below, limits_fit, limits_states}
use Rattle.reductions.specs.LowerBounds.{old_rack, lowers_first, lowers_second, found, lowers_fit, lowers_states}
use Rattle.reductions.proofs.Limits as limits
use Rattle.reductions.proofs.LowersFirst as first
use Rattle.reductions.proofs.Finding.{found_range}
use Rattle.reductions.proofs.LowersSecond.{run_count₂, sum_runs₂, each_run₂, second_lawful}
use Rattle.reductions.proofs.Ones.{gather₁}
use Rattle.reductions.proofs.Places.{sum_append}
use Rattle.drawing.proofs.Sums.{sum_same, sum_below, sum_plus, sum_none, only_le, gather}
use Rattle.duality.proofs.Duality.{none_to}
use Rattle.reductions.proofs.Terminals.{terminals_lawful, some_none, point_count_lem, old_point, the_rack, the_bar, sum_points}
use Rattle.reductions.proofs.Links.{links_lawful, leads, links, backs, same_count, lead_is, sum_down}
use Rattle.reductions.proofs.Added.{count_all, each_all, sum_all}

-- no more pass than there are
pub count_le : (n : ℕ) (t : ℕ → Bool) → count_to n t ≤ n
count_le zero t = omega arith
count_le (suc n) t = omega (arith, count_le n t, only_le (t (suc n)) 1)

no_lower : (l : Bool) (lo : ℕ) → (not l && ltb 0 lo) ≡ false → (l ≡ true → lo ≡ 0) → ltb 0 lo ≡ false
no_lower l lo e h = grind (arith, nat_tests)

at_ends : (t h : Mark) (l : Bool) (u : ℕ) → only (is_rack t) u + only (is_rack h) (only l u) + (only (is_bar h) u + only (is_bar t) (only l u)) ≤ u + u
at_ends t h l u = grind arith

lead_upper : (k : Mark) (r b v x y : ℕ) → only (is_rack k || is_bar k) (let l : Run = cond (is_rack k) (record { kind = Lead; tail = r; head = v; lower = 0; upper = x }) (record { kind = Lead; tail = v; head = b; lower = 0; upper = y }) in l.upper)
    ≡ only (is_rack k) x + only (is_bar k) y
lead_upper PlainMark r b v x y = refl
lead_upper Rack r b v x y = omega arith
lead_upper Bar r b v x y = omega arith

lead_bare : (b : Bool) (r e v x y : ℕ) → let l : Run = cond b (record { kind = Lead; tail = r; head = v; lower = 0; upper = x }) (record { kind = Lead; tail = v; head = e; lower = 0; upper = y }) in
    ((not (is_link l.kind) && ltb 0 l.lower) ≡ false) × (is_link l.kind ≡ false)
lead_bare true r e v x y = (refl, refl)
lead_bare false r e v x y = (refl, refl)

only_limit : (o : Option ℕ) → only (is_some o) (limit_of o) ≡ limit_of o
only_limit None = refl
only_limit (Some l) = refl

rack_split : (k : Mark) (l : Bool) → only (is_rack (cond (l && is_bar k) PlainMark k)) 1 + only (is_rack (cond (l && is_bar k) Bar PlainMark)) 1 ≡ only (is_rack k) 1
rack_split k l = grind arith

bar_split : (k : Mark) (l : Bool) → only (is_bar (cond (l && is_bar k) PlainMark k)) 1 + only (is_bar (cond (l && is_bar k) Bar PlainMark)) 1 ≡ only (is_bar k) 1
bar_split k l = grind arith

-- over bare tests: a feature is used below only where it is used above, or not at all
passed_on : (x y z : Bool) → (x ≡ false → y ≡ false) → (x ≡ true → z ≡ true) → y ≡ true → z ≡ true
passed_on true y z h g e = g refl
passed_on false y z h g e = absurd (true≢false (sym e ∙ h refl))

unused : (y z : Bool) → y ≡ false → y ≡ true → z ≡ true
unused y z h e = absurd (true≢false (sym e ∙ h))

not_used : (x : Bool) → (x ≡ true → false ≡ true) → x ≡ false
not_used true h = sym (h refl)
not_used false h = refl

-- with a point, the numbers are not all 0
fits : (t : Bool) (n x : ℕ) → 1 ≤ n → n ≤ only t x → (t ≡ true) × (n ≤ x)
fits true n x h i = (refl, i)
fits false n x h i = let no_such : ⊥ = omega arith in absurd no_such

module _ (b : Statements) (e : Network) (modest : Modest b) (law : Lawful e) where
  carried_by : point_count e ≤ b.points → run_count e ≤ b.runs → units e ≤ b.units
      → (uses e LowerBounds ≡ true → b.lowers ≡ true) → (uses e Links ≡ true → b.links ≡ true) → (uses e Limits ≡ true → b.limits ≡ true) → (uses e Terminals ≡ true → b.terminals ≡ true)
      → Carried b e
  carried_by ps rs us lowers links limits terminals =
      let each : (f : Feature) → uses e f ≡ true → says_yes b f ≡ true = λ f. elim f as (λ g. uses e g ≡ true → says_yes b g ≡ true) [
        | LowerBounds ↦ lowers
        | Links ↦ links
        | Limits ↦ limits
        | Terminals ↦ terminals
      ] in
      record {
        admissible = record { lawful = law; few_points = omega (arith, ps, modest.points); few_runs = omega (arith, rs, modest.runs) };
        says_yes_to = each;
        few_points = ps;
        few_runs = rs;
        few_units = us;
      }

module _ (d : Network) where
  abbrev m : ℕ
  m = run_count d

  links_runs : run_count (links_below d) ≤ 2 * run_count d
  links_runs = omega (arith, count_all (leads d) m (links d) (backs d), same_count d, count_le m (links d))

  links_units : units (links_below d) ≤ 2 * units d
  links_units =
      omega (
        arith,
        sum_down d (λ r k. r.upper),
        sum_plus m (λ k. (run d k).upper) (λ k. only (links d k) (run d k).upper),
        sum_below m (λ k. only (links d k) (run d k).upper) (λ k. (run d k).upper) (λ k w. only_le (links d k) (run d k).upper),
      )

  links_links : uses (links_below d) Links ≡ false
  links_links = some_none (run_count (links_below d)) _
      (each_all (leads d) m (links d) (backs d) (λ r k. is_link r.kind ≡ false)
      (λ k w. ap (λ r. is_link r.kind) (lead_is d k (omega (arith, same_count d)))) (λ k w e. refl))

  links_lowers : Lawful d → uses d LowerBounds ≡ false → uses (links_below d) LowerBounds ≡ false
  links_lowers law e = some_none (run_count (links_below d)) _
      (each_all (leads d) m (links d) (backs d) (λ r k. (not (is_link r.kind) && ltb 0 r.lower) ≡ false)
      (λ k w. let i : Within m k = omega (arith, same_count d) in
      ap (λ r. not (is_link r.kind) && ltb 0 r.lower) (lead_is d k i) ∙ no_lower (is_link (run d k).kind) (run d k).lower (none_to m _ e k i) (law.each_run k i).link_lower)
      (λ k w e. refl))

pub links_modest : (b : Statements) → Modest b → Modest (links_states b)
links_modest b h = record { points = h.points; runs = omega (arith, h.runs); units = omega (arith, h.units) }

pub links_carried : (b : Statements) (d : Network) → Modest b → Carried (links_states b) d → Carried b (links_below d)
links_carried b d modest c =
    let law = c.admissible.lawful in
    carried_by b (links_below d) modest (links_lawful d law)
    c.few_points (omega (arith, links_runs d, c.few_runs)) (omega (arith, links_units d, c.few_units))
    (passed_on _ _ _ (links_lowers d law) (c.says_yes_to LowerBounds))
    (unused _ _ (links_links d))
    (c.says_yes_to Limits)
    (c.says_yes_to Terminals)

module _ (d : Network) (law : Lawful d) where
  abbrev n : ℕ
  n = point_count d

  abbrev rack_at : ℕ → Bool
  rack_at v = is_rack (point d v).mark

  abbrev bar_at : ℕ → Bool
  bar_at v = is_bar (point d v).mark

  terminals_uppers : sum_to (run_count (terminals_below d)) (λ k. (run (terminals_below d) k).upper) ≤ 3 * sum_to (run_count d) (λ k. (run d k).upper)
  terminals_uppers =
      let m = run_count d in
      let u : ℕ → ℕ = λ k. (run d k).upper in
      let l : ℕ → ℕ = λ k. only (is_link (run d k).kind) (u k) in
      let O : ℕ → ℕ = λ k. only (rack_at (run d k).tail) (u k) + only (rack_at (run d k).head) (l k) in
      let I : ℕ → ℕ = λ k. only (bar_at (run d k).head) (u k) + only (bar_at (run d k).tail) (l k) in
      omega (
        arith,
        sum_all d.runs n (is_terminal d) (terminal_lead d) (λ r k. r.upper),
        sum_same n (λ v. only (is_terminal d v) (terminal_lead d v).upper) (λ v. only (rack_at v) (uppers_leaving d v) + only (bar_at v) (uppers_entering d v))
            (λ v w. lead_upper (point d v).mark (new_rack d) (new_bar d) v (uppers_leaving d v) (uppers_entering d v)),
        sum_plus n (λ v. only (rack_at v) (uppers_leaving d v)) (λ v. only (bar_at v) (uppers_entering d v)),
        gather n m (λ k. (run d k).tail) (λ k. (run d k).head) u l rack_at (λ k w. (law.each_run k w).tail_in) (λ k w. (law.each_run k w).head_in),
        gather n m (λ k. (run d k).head) (λ k. (run d k).tail) u l bar_at (λ k w. (law.each_run k w).head_in) (λ k w. (law.each_run k w).tail_in),
        sum_below m (λ k. O k + I k) (λ k. u k + u k) (λ k w. at_ends (point d (run d k).tail).mark (point d (run d k).head).mark (is_link (run d k).kind) (u k)),
        sum_plus m O I,
        sum_plus m u u,
      )

  terminals_limits : sum_to (point_count (terminals_below d)) (λ v. limit_of (point (terminals_below d) v).limit) ≡ sum_to n (λ v. limit_of (point d v).limit)
  terminals_limits =
      omega (
        arith,
        sum_points d (λ v. limit_of (point (terminals_below d) v).limit),
        sum_same n (λ v. limit_of (point (terminals_below d) v).limit) (λ v. limit_of (point d v).limit) (λ v w. ap (λ q. limit_of q.limit) (old_point d v w)),
        ap (λ q. limit_of q.limit) (the_rack d),
        ap (λ q. limit_of q.limit) (the_bar d),
      )

  pub terminals_units : units (terminals_below d) ≤ 3 * units d
  terminals_units = omega (arith, terminals_uppers, terminals_limits)

  pub terminals_runs : run_count (terminals_below d) ≤ run_count d + point_count d
  terminals_runs = omega (arith, count_all d.runs n (is_terminal d) (terminal_lead d), count_le n (is_terminal d))

  -- at the old points, the rack and the bar
  each_point : (P : ℕ → Type 0) → ((v : ℕ) → Within n v → P v) → P (new_rack d) → P (new_bar d) → (v : ℕ) → Within (point_count (terminals_below d)) v → P v
  each_point P old r b v w = ⊎_elim
      (λ (e : v ≡ new_rack d). subst P (sym e) r)
      (λ (e : v ≡ new_rack d → ⊥). ⊎_elim
      (λ (q : v ≡ new_bar d). subst P (sym q) b)
      (λ (q : v ≡ new_bar d → ⊥). old v (omega (arith, point_count_lem d)))
      (cases_eq v (new_bar d)))
      (cases_eq v (new_rack d))

  terminals_limits_none : uses d Limits ≡ false → uses (terminals_below d) Limits ≡ false
  terminals_limits_none e = some_none (point_count (terminals_below d)) _
      (each_point (λ v. is_some (point (terminals_below d) v).limit ≡ false) (λ v w. ap (λ q. is_some q.limit) (old_point d v w) ∙ none_to n _ e v w)
      (ap (λ q. is_some q.limit) (the_rack d)) (ap (λ q. is_some q.limit) (the_bar d)))

  one_each : (count_to (point_count (terminals_below d)) (λ v. is_rack (point (terminals_below d) v).mark) ≡ 1) × (count_to (point_count (terminals_below d)) (λ v. is_bar (point (terminals_below d) v).mark) ≡ 1)
  one_each = (
    omega (
      arith,
      sum_points d (λ v. only (is_rack (point (terminals_below d) v).mark) 1),
      sum_none n (λ v. only (is_rack (point (terminals_below d) v).mark) 1) (λ v w. ap (λ q. only (is_rack q.mark) 1) (old_point d v w)),
      ap (λ q. only (is_rack q.mark) 1) (the_rack d),
      ap (λ q. only (is_rack q.mark) 1) (the_bar d),
    ),
    omega (
      arith,
      sum_points d (λ v. only (is_bar (point (terminals_below d) v).mark) 1),
      sum_none n (λ v. only (is_bar (point (terminals_below d) v).mark) 1) (λ v w. ap (λ q. only (is_bar q.mark) 1) (old_point d v w)),
      ap (λ q. only (is_bar q.mark) 1) (the_rack d),
      ap (λ q. only (is_bar q.mark) 1) (the_bar d),
    ),
  )

  terminals_one : uses (terminals_below d) Terminals ≡ false
  terminals_one = not_from_true _ (and_from _ _ (eq-eqb _ 1 one_each.0) (eq-eqb _ 1 one_each.1))

  terminals_lowers : uses d LowerBounds ≡ false → uses (terminals_below d) LowerBounds ≡ false
  terminals_lowers e =
      some_none (run_count (terminals_below d)) _
      (each_all d.runs n (is_terminal d) (terminal_lead d) (λ r k. (not (is_link r.kind) && ltb 0 r.lower) ≡ false)
      (λ k w. none_to (run_count d) _ e k w) (λ v w t. (lead_bare (rack_at v) _ _ _ _ _).0))

  terminals_links : uses d Links ≡ false → uses (terminals_below d) Links ≡ false
  terminals_links e =
      some_none (run_count (terminals_below d)) _
      (each_all d.runs n (is_terminal d) (terminal_lead d) (λ r k. is_link r.kind ≡ false)
      (λ k w. none_to (run_count d) _ e k w) (λ v w t. (lead_bare (rack_at v) _ _ _ _ _).1))

  -- the limits layer
  abbrev m' : ℕ
  m' = run_count d

  limits_uppers : sum_to (run_count (limits_below d)) (λ k. (run (limits_below d) k).upper) ≡ sum_to m' (λ k. (run d k).upper) + sum_to n (λ v. limit_of (point d v).limit)
  limits_uppers = limits.sum_runs d (λ r k. r.upper) ∙ ap (λ z. sum_to m' (λ k. (run d k).upper) + z) (sum_same n _ _ (λ v w. only_limit (point d v).limit))

  limits_runs : run_count (limits_below d) ≤ run_count d + point_count d
  limits_runs = omega (arith, count_all (limits.kept d) n (limited_at d) (limit_lead d), limits.kept_count d, count_le n (limited_at d))

  limits_none : (v : ℕ) → Within (point_count (limits_below d)) v → (is_some (point (limits_below d) v).limit ≡ false) × (limit_of (point (limits_below d) v).limit ≡ 0)
  limits_none v w = ⊎_elim
      (λ (h : n < v).
      let at : n + (v - n) ≡ v = omega arith in
      let i : Within n (v - n) = omega (arith, limits.point_count_lem d) in
      subst (λ z. (is_some (point (limits_below d) z).limit ≡ false) × (limit_of (point (limits_below d) z).limit ≡ 0)) at
      (ap (λ q. is_some q.limit) (limits.second_point d (v - n) i), ap (λ q. limit_of q.limit) (limits.second_point d (v - n) i)))
      (λ (h : v ≤ n). let i : Within n v = omega arith in (ap (λ q. is_some q.limit) (limits.first_point d v i), ap (λ q. limit_of q.limit) (limits.first_point d v i)))
      (cases_lt n v)

  limits_units : units (limits_below d) ≤ units d
  limits_units = omega (arith, limits_uppers, sum_none (point_count (limits_below d)) (λ v. limit_of (point (limits_below d) v).limit) (λ v w. (limits_none v w).1))

  limits_marks : (count_to (point_count (limits_below d)) (λ v. is_rack (point (limits_below d) v).mark) ≡ count_to n rack_at) × (count_to (point_count (limits_below d)) (λ v. is_bar (point (limits_below d) v).mark) ≡ count_to n bar_at)
  limits_marks =
      let R : ℕ → ℕ = λ v. only (is_rack (point (limits_below d) v).mark) 1 in
      let B : ℕ → ℕ = λ v. only (is_bar (point (limits_below d) v).mark) 1 in (
        omega (
          arith,
          ap (λ z. sum_to z R) (limits.point_count_lem d),
          sum_append n n R,
          sym (sum_plus n R (λ v. R (n + v))),
          sum_same n (λ v. R v + R (n + v)) (λ v. only (rack_at v) 1) (λ v w. ap₂ (λ a b. only (is_rack a.mark) 1 + only (is_rack b.mark) 1) (limits.first_point d v w) (limits.second_point d v w) ∙ rack_split (point d v).mark (limited_at d v)),
        ),
        omega (
          arith,
          ap (λ z. sum_to z B) (limits.point_count_lem d),
          sum_append n n B,
          sym (sum_plus n B (λ v. B (n + v))),
          sum_same n (λ v. B v + B (n + v)) (λ v. only (bar_at v) 1) (λ v w. ap₂ (λ a b. only (is_bar a.mark) 1 + only (is_bar b.mark) 1) (limits.first_point d v w) (limits.second_point d v w) ∙ bar_split (point d v).mark (limited_at d v)),
        ),
      )

  limits_runs_each : (t : Run → Bool) → ((k : ℕ) → Within m' k → t (moved d (run d k)) ≡ false) → ((v : ℕ) → t (limit_lead d v) ≡ false) → some_to (run_count (limits_below d)) (λ k. t (run (limits_below d) k)) ≡ false
  limits_runs_each t h g = some_none (run_count (limits_below d)) _ (each_all (limits.kept d) n (limited_at d) (limit_lead d) (λ r k. t r ≡ false)
      (λ k w. let i : Within m' k = omega (arith, limits.kept_count d) in ap t (limits.kept_is d k i) ∙ h k i) (λ v w e. g v))

  limits_lowers : uses d LowerBounds ≡ false → uses (limits_below d) LowerBounds ≡ false
  limits_lowers e = limits_runs_each (λ r. not (is_link r.kind) && ltb 0 r.lower) (λ k w. none_to m' _ e k w) (λ v. refl)

  limits_links : uses d Links ≡ false → uses (limits_below d) Links ≡ false
  limits_links e = limits_runs_each (λ r. is_link r.kind) (λ k w. none_to m' _ e k w) (λ v. refl)

  limits_terminals : uses d Terminals ≡ false → uses (limits_below d) Terminals ≡ false
  limits_terminals e = ap₂ (λ a b. not (eqb a 1 && eqb b 1)) limits_marks.0 limits_marks.1 ∙ e

  -- the lower-bounds layer
  module _ (no_links : uses d Links ≡ false) (no_limits : uses d Limits ≡ false) (ends : uses d Terminals ≡ false) where
    first_units : units (lowers_first d) ≤ 3 * units d
    first_units =
        let u : ℕ → ℕ = λ k. (run d k).upper in
        let l : ℕ → ℕ = λ k. (run d k).lower in
        let s : ℕ → ℕ = λ k. (run d k).upper - (run d k).lower in
        omega (
          arith,
          first.sum_runs d (λ r k. r.upper),
          terminals_limits,
          sum_same m' (λ k. s k + l k) u (λ k w. let o = (law.each_run k w).ordered in omega arith),
          sum_plus m' s l,
          gather₁ n m' (λ k. (run d k).head) l (λ _. true) (λ k w. (law.each_run k w).head_in),
          gather₁ n m' (λ k. (run d k).tail) l (λ _. true) (λ k w. (law.each_run k w).tail_in),
          sum_below m' (λ k. only (eqb (run d k).tail (old_rack d)) (u k)) u (λ k w. only_le (eqb (run d k).tail (old_rack d)) (u k)),
        )

    second_units : (p : Plan) → Feasible (lowers_first d) p → units (lowers_second d p) ≤ units d
    second_units p ok =
        let u : ℕ → ℕ = λ k. (run d k).upper in
        let a : ℕ → ℕ = λ k. (run d k).upper - found d p k in
        let b : ℕ → ℕ = λ k. found d p k - (run d k).lower in
        omega (arith, sum_runs₂ d p (λ r k. r.upper), sum_plus m' a b, sum_below m' (λ k. a k + b k) u (λ k w. let r = found_range d law ends p ok k w in omega arith))

    first_lowers : uses (lowers_first d) LowerBounds ≡ false
    first_lowers = some_none (run_count (lowers_first d)) _ (first.each_run₁ d (λ r. (not (is_link r.kind) && ltb 0 r.lower) ≡ false) (λ k w. refl) (λ v w. (refl, refl)) refl)

    first_links : uses (lowers_first d) Links ≡ false
    first_links = some_none (run_count (lowers_first d)) _ (first.each_run₁ d (λ r. is_link r.kind ≡ false) (λ k w. refl) (λ v w. (refl, refl)) refl)

    second_lowers : (p : Plan) → uses (lowers_second d p) LowerBounds ≡ false
    second_lowers p = some_none (run_count (lowers_second d p)) _ (each_run₂ d p (λ r. (not (is_link r.kind) && ltb 0 r.lower) ≡ false) (λ k w. (refl, refl)))

    second_links : (p : Plan) → uses (lowers_second d p) Links ≡ false
    second_links p = some_none (run_count (lowers_second d p)) _ (each_run₂ d p (λ r. is_link r.kind ≡ false) (λ k w. (refl, refl)))

pub terminals_modest : (b : Statements) → Modest b → Modest (terminals_states b)
terminals_modest b h = record {
  points = omega (arith, only_le (terminals_fit b) (b.points - 2), h.points);
  runs = omega (arith, only_le (terminals_fit b) (b.runs - (b.points - 2)), h.runs);
  units = omega (arith, only_le (terminals_fit b) (b.units / 3), h.units);
}

pub terminals_carried : (b : Statements) (d : Network) → Modest b → Carried (terminals_states b) d → Carried b (terminals_below d)
terminals_carried b d modest c =
    let law = c.admissible.lawful in
    let (fit, ps) = fits (terminals_fit b) (point_count d) (b.points - 2) law.some_point c.few_points in
    let (two?, own?) = and_parts _ _ fit in
    let two = leb-true 2 b.points two? in
    let own = leb-true (b.points - 2) b.runs own? in
    carried_by b (terminals_below d) modest (terminals_lawful d law)
    (omega (arith, point_count_lem d, ps, two))
    (omega (arith, terminals_runs d law, ps, own, c.few_runs, only_le (terminals_fit b) (b.runs - (b.points - 2))))
    (omega (arith, terminals_units d law, c.few_units, only_le (terminals_fit b) (b.units / 3)))
    (passed_on _ _ _ (terminals_lowers d law) (c.says_yes_to LowerBounds))
    (passed_on _ _ _ (terminals_links d law) (c.says_yes_to Links))
    (passed_on _ _ _ (terminals_limits_none d law) (c.says_yes_to Limits))
    (unused _ _ (terminals_one d law))

-- a run below is kept for each point
pub terminals_room : (b : Statements) (d : Network) → Modest b → Carried (terminals_states b) d → run_count d + point_count d ≤ 1024
terminals_room b d modest c =
    let (fit, ps) = fits (terminals_fit b) (point_count d) (b.points - 2) c.admissible.lawful.some_point c.few_points in
    let (_, own?) = and_parts _ _ fit in
    let own = leb-true (b.points - 2) b.runs own? in
    omega (arith, ps, own, c.few_runs, modest.runs, only_le (terminals_fit b) (b.runs - (b.points - 2)))

-- what the network below a drawing needs
pub record TerminalsFit (d : Network) : Type 0 where
  pub few : units d ≤ 600000000
  pub points : point_count d + 2 ≤ 128
  pub runs : run_count d + point_count d ≤ 1024

pub terminals_taken : (b : Statements) (d : Network) → Modest b → Carried (terminals_states b) d → TerminalsFit d
terminals_taken b d modest c =
    let e = terminals_carried b d modest c in
    let most = only_le (terminals_fit b) (b.units / 3) in
    record {
      few = omega (arith, c.few_units, most, modest.units);
      points = omega (arith, e.admissible.few_points, point_count_lem d);
      runs = terminals_room b d modest c;
    }

pub limits_modest : (b : Statements) → Modest b → Modest (limits_states b)
limits_modest b h = record {
  points = omega (arith, only_le (limits_fit b) (b.points / 2), h.points);
  runs = omega (arith, only_le (limits_fit b) (b.runs - b.points / 2), h.runs);
  units = omega (arith, only_le (limits_fit b) b.units, h.units);
}

pub limits_carried : (b : Statements) (d : Network) → Modest b → Carried (limits_states b) d → Carried b (limits_below d)
limits_carried b d modest c =
    let law = c.admissible.lawful in
    let (fit, ps) = fits (limits_fit b) (point_count d) (b.points / 2) law.some_point c.few_points in
    let own = leb-true (b.points / 2) b.runs fit in
    carried_by b (limits_below d) modest (limits.limits_lawful d law)
    (omega (arith, limits.point_count_lem d, ps))
    (omega (arith, limits_runs d law, ps, own, c.few_runs, only_le (limits_fit b) (b.runs - b.points / 2)))
    (omega (arith, limits_units d law, c.few_units, only_le (limits_fit b) b.units))
    (passed_on _ _ _ (limits_lowers d law) (c.says_yes_to LowerBounds))
    (unused _ _ (limits_links d law (not_used _ (c.says_yes_to Links))))
    (unused _ _ (some_none (point_count (limits_below d)) _ (λ v w. (limits_none d law v w).0)))
    (passed_on _ _ _ (limits_terminals d law) (c.says_yes_to Terminals))

pub limits_room : (b : Statements) (d : Network) → Modest b → Carried (limits_states b) d → run_count d + point_count d ≤ 1024
limits_room b d modest c =
    let (fit, ps) = fits (limits_fit b) (point_count d) (b.points / 2) c.admissible.lawful.some_point c.few_points in
    let own = leb-true (b.points / 2) b.runs fit in
    omega (arith, ps, own, c.few_runs, modest.runs, only_le (limits_fit b) (b.runs - b.points / 2))

pub record LimitsFit (d : Network) : Type 0 where
  pub points : point_count d + point_count d ≤ 128
  pub runs : run_count d + point_count d ≤ 1024

pub limits_taken : (b : Statements) (d : Network) → Modest b → Carried (limits_states b) d → LimitsFit d
limits_taken b d modest c =
    let e = limits_carried b d modest c in
    record { points = omega (arith, e.admissible.few_points, limits.point_count_lem d); runs = limits_room b d modest c }

pub limits_no_links : (b : Statements) (d : Network) → Carried (limits_states b) d → uses d Links ≡ false
limits_no_links b d c = not_used _ (c.says_yes_to Links)

pub lowers_modest : (b : Statements) → Modest b → Modest (lowers_states b)
lowers_modest b h = record {
  points = omega (arith, only_le (lowers_fit b) (b.points - 2), h.points);
  runs = omega (arith, only_le (lowers_fit b) (min (b.runs / 2) (b.runs - 2 * (b.points - 2) - 1)), h.runs);
  units = omega (arith, only_le (lowers_fit b) (b.units / 3), h.units);
}

-- what the lower-bounds layer is given
pub record Plain (d : Network) : Type 0 where
  pub lawful : Lawful d
  pub no_links : uses d Links ≡ false
  pub no_limits : uses d Limits ≡ false
  pub one_each : uses d Terminals ≡ false

pub plain_drawing : (b : Statements) (d : Network) → Carried (lowers_states b) d → Plain d
plain_drawing b d c = record {
  lawful = c.admissible.lawful;
  no_links = not_used _ (c.says_yes_to Links);
  no_limits = not_used _ (c.says_yes_to Limits);
  one_each = not_used _ (c.says_yes_to Terminals);
}

module _ (b : Statements) (d : Network) (modest : Modest b) (c : Carried (lowers_states b) d) where
  abbrev given : Plain d
  given = plain_drawing b d c

  abbrev law : Lawful d
  law = given.lawful

  room : (2 ≤ b.points) × (2 * (b.points - 2) + 1 ≤ b.runs) × (point_count d ≤ b.points - 2)
  room =
      let (fit, ps) = fits (lowers_fit b) (point_count d) (b.points - 2) law.some_point c.few_points in
      let (two?, own?) = and_parts _ _ fit in
      (leb-true 2 b.points two?, leb-true (2 * (b.points - 2) + 1) b.runs own?, ps)

  runs_room : run_count d ≤ min (b.runs / 2) (b.runs - 2 * (b.points - 2) - 1)
  runs_room = omega (arith, c.few_runs, only_le (lowers_fit b) (min (b.runs / 2) (b.runs - 2 * (b.points - 2) - 1)))

  pub lowers_first_carried : Carried b (lowers_first d)
  lowers_first_carried =
      carried_by b (lowers_first d) modest (first.first_lawful d given.one_each law)
      (omega (arith, point_count_lem d, room))
      (omega (arith, first.run_count_lem d, room, runs_room))
      (omega (arith, first_units d law given.no_links given.no_limits given.one_each, c.few_units, only_le (lowers_fit b) (b.units / 3)))
      (unused _ _ (first_lowers d law given.no_links given.no_limits given.one_each))
      (unused _ _ (first_links d law given.no_links given.no_limits given.one_each))
      (unused _ _ (terminals_limits_none d law given.no_limits))
      (unused _ _ (terminals_one d law))

  pub lowers_second_carried : (p : Plan) → Feasible (lowers_first d) p → Carried b (lowers_second d p)
  lowers_second_carried p ok =
      carried_by b (lowers_second d p) modest (second_lawful d p law)
      (omega (arith, room))
      (omega (arith, run_count₂ d p, runs_room))
      (omega (arith, second_units d law given.no_links given.no_limits given.one_each p ok, c.few_units, only_le (lowers_fit b) (b.units / 3)))
      (unused _ _ (second_lowers d law given.no_links given.no_limits given.one_each p))
      (unused _ _ (second_links d law given.no_links given.no_limits given.one_each p))
      (unused _ _ given.no_limits)
      (unused _ _ given.one_each)
