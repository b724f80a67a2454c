-- No feasible plan's total is above the worth of a cut, and a shortage leaves no feasible plan.
use Rattle.std.proofs.Common.{◌≡◌, ℕ, zero, suc, ◌+◌, ◌≤◌, Bool, true, false, not, ◌&&◌, List, eqb, Some, Decides, refl, ap, ◌∙◌, ⊎_elim, arith}
use mathlib.Core.Bool.{false≢true}
use Rattle.std.specs.Option.{option_eq}
use Rattle.std.proofs.lemmas.Int.{ints}
use Rattle.std.proofs.lemmas.Bool.{or_parts, and_cases, cases_eq, eqb-true, eq-eqb}
use Rattle.drawing.specs.declared.Label.{Label}
use Rattle.drawing.specs.declared.Verdict.{Verdict}
use Rattle.drawing.specs.declared.Verdict.TheVariants.{Plan as PlanVerdict, Shortage as ShortageVerdict}
use Rattle.drawing.specs.Counts.{Within, sum_to, some_to, only}
use Rattle.drawing.specs.Drawings.{Network, Lawful, point_count, run_count, point, run, is_rack, is_bar, limit_of}
use Rattle.drawing.specs.Plans.{Plan, Feasible, flow, supply, delivery, forth, back, entering, leaving, total}
use Rattle.drawing.specs.Labels.{is_near, is_tight, is_far, label, adds, deducts, Labelling, crossing, throttled, forced, far_rack, near_bar}
use Rattle.drawing.specs.Answers.{Answer, Planned, Short, total_of}
use Rattle.duality.specs.Duality.{WeakDuality, ShortageExcludes, Agree, AnswersAgree, RightIsMost, PlanExactly}
use Rattle.drawing.proofs.Sums.{sum_same, sum_below, sum_none, sum_plus, only_le, gather}
use Rattle.duality.proofs.Flows.{inside, at_point, at_run}

-- a test that holds at none of 1 .. n fails at each
pub none_to : (n : ℕ) (t : ℕ → Bool) → some_to n t ≡ false → (k : ℕ) → Within n k → t k ≡ false
none_to zero t e k w = let no_such : ⊥ = omega arith in absurd no_such
none_to (suc n) t e k w =
    let (below, here) = or_parts (some_to n t) (t (suc n)) e in
    ⊎_elim (λ (q : k ≡ suc n). ap t q ∙ here) (λ (q : k ≡ suc n → ⊥). none_to n t below k (omega arith)) (cases_eq k (suc n))

kept : (r f : Bool) (x : ℕ) → (r ≡ false → x ≡ 0) → (r && f) ≡ false → only (not f) x ≡ x
kept r f x h e = grind arith

dropped : (b n : Bool) (x : ℕ) → (b ≡ false → x ≡ 0) → (b && n) ≡ false → only n x ≡ 0
dropped b n x h e = grind arith

served_part : (n : ℕ) (s : ℕ → Bool) (f : ℕ → ℕ) → sum_to n (λ v. only (s v) (f v)) ≤ sum_to n f
served_part n s f = sum_below n _ f (λ v w. only_le (s v) (f v))

module _ (d : Network) (lawful : Lawful d) (p : Plan) (ok : Feasible d p) where
  -- what enters, or leaves, the points that pass a test
  entered : (s : ℕ → Bool) → sum_to (point_count d) (λ v. only (s v) (entering d p v))
      ≡ sum_to (run_count d) (λ k. only (s (run d k).head) (forth (flow p k)) + only (s (run d k).tail) (back (flow p k)))
  entered s =
      gather (point_count d) (run_count d) (λ k. (run d k).head) (λ k. (run d k).tail) (λ k. forth (flow p k)) (λ k. back (flow p k)) s
      (λ k w. (lawful.each_run k w).head_in) (λ k w. (lawful.each_run k w).tail_in)

  left : (s : ℕ → Bool) → sum_to (point_count d) (λ v. only (s v) (leaving d p v))
      ≡ sum_to (run_count d) (λ k. only (s (run d k).tail) (forth (flow p k)) + only (s (run d k).head) (back (flow p k)))
  left s =
      gather (point_count d) (run_count d) (λ k. (run d k).tail) (λ k. (run d k).head) (λ k. forth (flow p k)) (λ k. back (flow p k)) s
      (λ k w. (lawful.each_run k w).tail_in) (λ k w. (lawful.each_run k w).head_in)

  -- all that is supplied is delivered
  pub delivered : sum_to (point_count d) (supply p) ≡ sum_to (point_count d) (delivery p)
  delivered =
      let balance = sum_same (point_count d) (λ v. entering d p v + supply p v) (λ v. leaving d p v + delivery p v) ok.balanced in
      omega (arith, balance, sum_plus (point_count d) (entering d p) (supply p), sum_plus (point_count d) (leaving d p) (delivery p), entered (λ _. true), left (λ _. true))

  module _ (ls : List Label) (marked : Labelling d ls) where
    -- supplied to the near and tight points, and delivered at the near points
    abbrev supplied : ℕ
    supplied = sum_to (point_count d) (λ v. only (inside (label ls v)) (supply p v))

    abbrev served : ℕ
    served = sum_to (point_count d) (λ v. only (is_near (label ls v)) (delivery p v))

    near : ℕ → Bool
    near v = is_near (label ls v)

    within : ℕ → Bool
    within v = inside (label ls v)

    by_points : sum_to (point_count d) (λ v. only (within v) (entering d p v)) + supplied
        ≤ sum_to (point_count d) (λ v. only (near v) (leaving d p v)) + served + throttled d ls
    unfolding near within
    by_points =
        let n = point_count d in
        let inn : ℕ → ℕ = λ v. only (within v) (entering d p v) in
        let sup : ℕ → ℕ = λ v. only (within v) (supply p v) in
        let out : ℕ → ℕ = λ v. only (near v) (leaving d p v) in
        let del : ℕ → ℕ = λ v. only (near v) (delivery p v) in
        let lim : ℕ → ℕ = λ v. only (is_tight (label ls v)) (limit_of (point d v).limit) in
        let each = sum_below n (λ v. inn v + sup v) (λ v. out v + del v + lim v)
        (λ v w. at_point (label ls v) (point d v).limit (entering d p v) (supply p v) (leaving d p v) (delivery p v) (ok.balanced v w) (ok.limited v w) (marked.tight_limited v w)) in
        omega (arith, each, sum_plus n inn sup, sum_plus n (λ v. out v + del v) lim, sum_plus n out del)

    by_runs : sum_to (run_count d) (λ k. only (near (run d k).tail) (forth (flow p k)) + only (near (run d k).head) (back (flow p k))) + forced d ls
        ≤ sum_to (run_count d) (λ k. only (within (run d k).head) (forth (flow p k)) + only (within (run d k).tail) (back (flow p k))) + crossing d ls
    unfolding near within
    by_runs =
        let m = run_count d in
        let a : ℕ → ℕ = λ k. only (near (run d k).tail) (forth (flow p k)) + only (near (run d k).head) (back (flow p k)) in
        let b : ℕ → ℕ = λ k. deducts (run d k).kind (label ls (run d k).tail) (label ls (run d k).head) (run d k).lower in
        let e : ℕ → ℕ = λ k. only (within (run d k).head) (forth (flow p k)) + only (within (run d k).tail) (back (flow p k)) in
        let f : ℕ → ℕ = λ k. adds (run d k).kind (label ls (run d k).tail) (label ls (run d k).head) (run d k).upper in
        let each = sum_below m (λ k. a k + b k) (λ k. e k + f k)
        (λ k w. at_run (run d k).kind (label ls (run d k).tail) (label ls (run d k).head) (run d k).lower (run d k).upper (flow p k) (ok.in_range k w)) in
        omega (arith, each, sum_plus m a b, sum_plus m e f)

    bounded : supplied + forced d ls ≤ served + (crossing d ls + throttled d ls)
    bounded = omega (arith, by_points, by_runs, entered within, left near)

    -- with no far rack all supplies are within, with no near bar nothing is delivered near
    all_supplied : far_rack d ls ≡ false → supplied ≡ sum_to (point_count d) (supply p)
    all_supplied e = sum_same (point_count d) _ (supply p) (λ v w. kept (is_rack (point d v).mark) (is_far (label ls v)) (supply p v) (ok.racks_supply v w) (none_to (point_count d) _ e v w))

    none_served : near_bar d ls ≡ false → served ≡ 0
    none_served e = sum_none (point_count d) _ (λ v w. dropped (is_bar (point d v).mark) (is_near (label ls v)) (delivery p v) (ok.bars_deliver v w) (none_to (point_count d) _ e v w))

-- the total of a plan that is feasible, as a sum over the drawing's points
pub total_is : (d : Network) (p : Plan) → Feasible d p → total p ≡ sum_to (point_count d) (supply p)
total_is d p ok = ap (λ n. sum_to n (supply p)) ok.supply_count

pub weak_duality : WeakDuality
weak_duality d lawful p ok ls cut =
    omega (arith, ints, total_is d p ok, bounded d lawful p ok ls cut.labelled, all_supplied d lawful p ok ls cut.labelled cut.no_far_rack, none_served d lawful p ok ls cut.labelled cut.no_near_bar)

pub shortage_excludes : ShortageExcludes
shortage_excludes d lawful ls short p ok =
    let all = bounded d lawful p ok ls short.labelled in
    let served-≤ : served d lawful p ok ls short.labelled ≤ sum_to (point_count d) (delivery p) = served_part (point_count d) (λ v. is_near (label ls v)) (delivery p) in
    ⊎_elim
    (λ (e : far_rack d ls ≡ false). omega (arith, ints, all, short.negative, all_supplied d lawful p ok ls short.labelled e, delivered d lawful p ok, served-≤))
    (λ (e : near_bar d ls ≡ false). omega (arith, ints, all, short.negative, none_served d lawful p ok ls short.labelled e))
    (and_cases (far_rack d ls) (near_bar d ls) short.not_both)

pub right_is_most : RightIsMost
right_is_most d lawful p t ls right q ok =
    omega (arith, ints, weak_duality d lawful q ok ls right.2, right.3)

pub answers_agree : AnswersAgree
answers_agree d lawful (Planned p t ls) (Planned q u ms) a b =
    let below = right_is_most d lawful p t ls a q b.0 in
    let above = right_is_most d lawful q u ms b p a.0 in
    let same : t ≡ u = omega (arith, below, above, a.1, b.1) in
    (refl, ap Some same)
answers_agree d lawful (Planned p t ls) (Short ms) a b = absurd (shortage_excludes d lawful ms b p a.0)
answers_agree d lawful (Short ls) (Planned q u ms) a b = absurd (shortage_excludes d lawful ls a q b.0)
answers_agree d lawful (Short ls) (Short ms) a b = (refl, refl)

pub plan_exactly : PlanExactly
plan_exactly d lawful (Planned p t ls) a = (λ _. (p, a.0), λ _ _. refl)
plan_exactly d lawful (Short ls) a = (λ e. cc, λ p ok. absurd (shortage_excludes d lawful ls a p ok))

-- an answer as a verdict has it read
abbrev pub reading : Verdict → Plan → ℕ → List Label → Answer
reading v p t ls = elim v [ PlanVerdict ↦ Planned p t ls | ShortageVerdict ↦ Short ls ]

-- the same as a test of totals
pub decides_agree : (a b : Answer) → Decides (option_eq eqb (total_of a) (total_of b)) (Agree a b)
decides_agree (Planned p t ls) (Planned q u ms) = (λ e. (refl, ap Some (eqb-true t u e)), λ h. eq-eqb t u (cc))
decides_agree (Planned p t ls) (Short ms) = (λ e. absurd (false≢true e), λ h. cc)
decides_agree (Short ls) (Planned q u ms) = (λ e. absurd (false≢true e), λ h. cc)
decides_agree (Short ls) (Short ms) = (λ e. (refl, refl), λ h. refl)
