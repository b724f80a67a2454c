-- What a carried drawing is, and its one rack and one bar.
use Rattle.std.proofs.Common.{◌≡◌, ℕ, zero, suc, Bool, true, false, not, ◌&&◌, ◌||◌, eqb, ltb, is_some, sym, refl, subst, ap, ◌∙◌, ⊎_elim, arith}
use Rattle.std.proofs.lemmas.Bool.{cases_Bool, cases_eq, cond-true, cond-false, true≢false}
use Rattle.std.proofs.lemmas.Bool.Decides.{nat_tests}
use Rattle.drawing.specs.declared.Feature.TheVariants.{LowerBounds, Links, Limits, Terminals}
use Rattle.drawing.specs.declared.Statements.{Statements}
use Rattle.drawing.specs.Counts.{Within, sum_to, some_to, count_to, only}
use Rattle.drawing.specs.Drawings.{Network, point_count, run_count, point, run, is_rack, is_bar, is_link, rack_count, bar_count}
use Rattle.drawing.specs.Solvers.{Carried}
use Rattle.drawing.specs.declared.Mark.{Mark}
use Rattle.drawing.proofs.Sums.{earlier, last, sum_none}
use Rattle.residual.specs.Plain.{Plain, plain_statements, last_to, rack_of, bar_of}

-- a test that holds nowhere
pub none_of : (n : ℕ) (t : ℕ → Bool) → some_to n t ≡ false → (k : ℕ) → Within n k → t k ≡ false
none_of zero t e k w = absurd (let z : ⊥ = omega arith in z)
none_of (suc n) t e k w =
    ⊎_elim (λ (q : k ≡ suc n). ap t q ∙ right (some_to n t) (t (suc n)) e) (λ (q : k ≡ suc n → ⊥). none_of n t (left (some_to n t) (t (suc n)) e) k (omega arith)) (cases_eq k (suc n))
  where
    left : (a b : Bool) → (a || b) ≡ false → a ≡ false
    left a b h = grind arith

    right : (a b : Bool) → (a || b) ≡ false → b ≡ false
    right a b h = grind arith

pub none_from : (n : ℕ) (t : ℕ → Bool) → ((k : ℕ) → Within n k → t k ≡ false) → some_to n t ≡ false
none_from zero t h = refl
none_from (suc n) t h = both (some_to n t) (t (suc n)) (none_from n t (λ k w. h k (earlier w))) (h (suc n) (last n))
  where
    both : (a b : Bool) → a ≡ false → b ≡ false → (a || b) ≡ false
    both a b p q = grind arith

-- what counts for nothing fails
pub none_met : (b : Bool) → only b 1 ≡ 0 → b ≡ false
none_met true h = absurd (let z : ⊥ = omega arith in z)
none_met false h = refl

-- no term of a sum that is 0 is above 0
count_none : (n : ℕ) (t : ℕ → Bool) → count_to n t ≡ 0 → (k : ℕ) → Within n k → t k ≡ false
count_none zero t e k w = absurd (let z : ⊥ = omega arith in z)
count_none (suc n) t e k w =
    ⊎_elim (λ (q : k ≡ suc n). ap t q ∙ none_met (t (suc n)) (omega arith)) (λ (q : k ≡ suc n → ⊥). count_none n t (omega arith) k (omega arith)) (cases_eq k (suc n))

sum_unmet : (n x : ℕ) (t : ℕ → Bool) → count_to n t ≡ 0 → sum_to n (λ v. only (t v) x) ≡ 0
sum_unmet n x t e = sum_none n (λ v. only (t v) x) (λ k w. ap (λ b. only b x) (count_none n t e k w))

-- the one that passes the test, where just one does
pub record One (n : ℕ) (t : ℕ → Bool) : Type 0 where
  pub within : Within n (last_to n t)
  pub passes : t (last_to n t) ≡ true
  pub alone : (v : ℕ) → Within n v → t v ≡ true → v ≡ last_to n t
  pub sum : (x : ℕ) → sum_to n (λ v. only (t v) x) ≡ x

one_last : (n : ℕ) (t : ℕ → Bool) → t (suc n) ≡ true → count_to n t ≡ 0 → One (suc n) t
unfolding last_to
one_last n t b e =
    let here : last_to (suc n) t ≡ suc n = cond-true (t (suc n)) (suc n) (last_to n t) b in
    record {
      within = rw here (omega arith);
      passes = rw here b;
      alone = λ v w h. here_only v w h ∙ sym here;
      sum = λ x. omega (arith, sum_unmet n x t e, ap (λ c. only c x) b);
    }
  where
    here_only : (v : ℕ) → Within (suc n) v → t v ≡ true → v ≡ suc n
    here_only v w h =
        ⊎_elim (λ (q : v ≡ suc n). q) (λ (q : v ≡ suc n → ⊥). absurd (true≢false (sym h ∙ count_none n t e v (omega arith)))) (cases_eq v (suc n))

one_before : (n : ℕ) (t : ℕ → Bool) → t (suc n) ≡ false → One n t → One (suc n) t
unfolding last_to
one_before n t b o =
    let here : last_to (suc n) t ≡ last_to n t = cond-false (t (suc n)) (suc n) (last_to n t) b in
    record {
      within = rw here (earlier o.within);
      passes = rw here o.passes;
      alone = λ v w h. before_only v w h ∙ sym here;
      sum = λ x. omega (arith, o.sum x, ap (λ c. only c x) b);
    }
  where
    before_only : (v : ℕ) → Within (suc n) v → t v ≡ true → v ≡ last_to n t
    before_only v w h =
        ⊎_elim (λ (q : v ≡ suc n). absurd (true≢false (sym h ∙ ap t q ∙ b))) (λ (q : v ≡ suc n → ⊥). o.alone v (omega arith) h) (cases_eq v (suc n))

pub one : (n : ℕ) (t : ℕ → Bool) → count_to n t ≡ 1 → One n t
one zero t e = absurd (let z : ⊥ = omega arith in z)
one (suc n) t e =
    ⊎_elim
    (λ (b : t (suc n) ≡ true). one_last n t b (omega (arith, e, ap (λ c. only c 1) b)))
    (λ (b : t (suc n) ≡ false). one_before n t b (one n t (omega (arith, e, ap (λ c. only c 1) b))))
    (cases_Bool (t (suc n)))

-- what a solver of plain drawings carries is plain
lone : (a b : ℕ) → not (eqb a 1 && eqb b 1) ≡ false → (a ≡ 1) × (b ≡ 1)
lone a b h = (grind (arith, nat_tests), grind (arith, nat_tests))

no : (b : Bool) → (b ≡ true → false ≡ true) → b ≡ false
no true h = sym (h refl)
no false h = refl

unlowered : (l : Bool) (x : ℕ) → l ≡ false → (not l && ltb 0 x) ≡ false → x ≡ 0
unlowered l x e h = grind (arith, nat_tests)

pub plain : (d : Network) → Carried plain_statements d → Plain d
plain d c =
    let links = none_of (run_count d) (λ k. is_link (run d k).kind) (no _ (c.says_yes_to Links)) in
    let lowers = none_of (run_count d) (λ k. not (is_link (run d k).kind) && ltb 0 (run d k).lower) (no _ (c.says_yes_to LowerBounds)) in
    let ends = lone (rack_count d) (bar_count d) (no _ (c.says_yes_to Terminals)) in
    record {
      lawful = c.admissible.lawful;
      few_points = c.few_points;
      few_runs = c.few_runs;
      few_units = c.few_units;
      lead = links;
      no_lower = λ k w. unlowered (is_link (run d k).kind) (run d k).lower (links k w) (lowers k w);
      no_limit = none_of (point_count d) (λ v. is_some (point d v).limit) (no _ (c.says_yes_to Limits));
      one_rack = ends.0;
      one_bar = ends.1;
    }

module _ (d : Network) (p : Plain d) where
  pub rack : One (point_count d) (λ v. is_rack (point d v).mark)
  rack = one (point_count d) (λ v. is_rack (point d v).mark) p.one_rack

  pub bar : One (point_count d) (λ v. is_bar (point d v).mark)
  bar = one (point_count d) (λ v. is_bar (point d v).mark) p.one_bar

  pub apart : rack_of d ≡ bar_of d → ⊥
  apart e = clash (point d (rack_of d)).mark rack.passes (ap (λ v. is_bar (point d v).mark) e ∙ bar.passes)
    where
      clash : (m : Mark) → is_rack m ≡ true → is_bar m ≡ true → ⊥
      clash m a b = grind arith

-- a drawing that fits statements which are the plain ones
pub plain_said : (d : Network) (s : Statements) → s ≡ plain_statements → Carried s d → Plain d
plain_said d s e c = plain d (subst (λ (t : Statements). Carried t d) e c)
