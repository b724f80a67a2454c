-- An active point is lower than 2n.
use Rattle.std.proofs.Common.{◌≡◌, ℕ, zero, suc, ◌+◌, ◌-◌, ◌*◌, ◌/◌, ◌%◌, ◌<◌, ◌≤◌, Bool, true, false, cond, ltb, ◌≢◌, ◌⊎◌, List, length, get_or, sym, refl, ap, subst, inl, inr, ⊎_elim, arith}
use Rattle.std.proofs.lemmas.Bool.{lt-ltb, le-ltb, ltb-true, ltb-false, cases_eq, cases_lt, cond-true, cond-false, cond_both}
use Rattle.drawing.specs.Counts.{Within}
use Rattle.residual.specs.Net.{mate_of, head_of, tail_of, outs}
use Rattle.residual.proofs.Moves.{mate_within, mate_mate}
use Rattle.residual.proofs.Cuts.{outs_two}
use Rattle.preflow.specs.Preflow.{exc, Arcs}
use Rattle.preflow.proofs.Sums.{term_le}

two_le : (x y : Bool) (r s c z : ℕ) → r + s ≡ c + z → (x ≡ true → y ≡ false → r ≡ 0) → (x ≡ false → y ≡ true → s ≡ 0) → cond x r 0 + cond y s 0 ≤ cond x c 0 + cond y z 0
two_le true true r s c z e a b = omega arith
two_le true false r s c z e a b = let q = a refl refl in omega arith
two_le false true r s c z e a b = let q = b refl refl in omega arith
two_le false false r s c z e a b = omega arith

-- a set of points that no open arc leaves has gained nothing
closed_less : (p : ℕ → Bool) (hs rs₀ rs : List ℕ) → length hs % 2 ≡ 0 → ((a : ℕ) → get_or rs a 0 + get_or rs (mate_of a) 0 ≡ get_or rs₀ a 0 + get_or rs₀ (mate_of a) 0) → ((a : ℕ) → a < length hs → p (tail_of hs a) ≡ true → p (head_of hs a) ≡ false → get_or rs a 0 ≡ 0) → (m : ℕ) → 2 * m ≤ length hs → outs p hs rs (2 * m) ≤ outs p hs rs₀ (2 * m)
unfolding outs
closed_less p hs rs₀ rs ev pairs shut zero h = omega arith
closed_less p hs rs₀ rs ev pairs shut (suc k) h =
    let ih = closed_less p hs rs₀ rs ev pairs shut k (omega arith) in
    let kin : 2 * k < length hs = omega arith in
    let e = outs_two p hs rs k in
    let f = outs_two p hs rs₀ k in
    let c = two_le (p (tail_of hs (2 * k))) (p (head_of hs (2 * k))) (get_or rs (2 * k) 0) (get_or rs (mate_of (2 * k)) 0) (get_or rs₀ (2 * k) 0) (get_or rs₀ (mate_of (2 * k)) 0) (pairs (2 * k))
    (λ n g. shut (2 * k) kin n g)
    (λ n g. shut (mate_of (2 * k)) (mate_within (2 * k) (length hs) ev kin) (subst (λ (x : ℕ). p (get_or hs x 0) ≡ true) (sym (mate_mate (2 * k))) g) n) in
    omega (arith, ih, e, f, c)

exc_has : (p : ℕ → Bool) (es : List ℕ) (u : ℕ) → p u ≡ true → (k : ℕ) → Within k u → get_or es u 0 ≤ exc p es k
exc_has p es u t k h =
    let a = term_le (λ y. cond (p y) (get_or es y 0) 0) u k h in
    let c = cond-true (p u) (get_or es u 0) 0 t in
    omega (arith, a, c)

-- how many of the points 1 .. k have more than g
unfoldable pub above : (ds : List ℕ) (g k : ℕ) → ℕ
above ds g zero = 0
above ds g (suc k) = above ds g k + cond (ltb g (get_or ds (suc k) 0)) 1 0

above_term : (g x : ℕ) → cond (ltb (suc g) x) 1 0 ≤ cond (ltb g x) 1 0
above_term g x =
    cond_both (ltb (suc g) x) 1 0 (λ (y : ℕ). y ≤ cond (ltb g x) 1 0)
    (λ t. let l = ltb-true (suc g) x t in let c = cond-true {A = ℕ} (ltb g x) 1 0 (lt-ltb g x (omega arith)) in omega (arith, c)) (λ t. omega arith)

above_le : (ds : List ℕ) (g k : ℕ) → above ds (suc g) k ≤ above ds g k
unfolding above
above_le ds g zero = omega arith
above_le ds g (suc k) = let a = above_le ds g k in let b = above_term g (get_or ds (suc k) 0) in omega (arith, a, b)

-- fewer have more than g + 1 where a point has just that
pub above_falls : (ds : List ℕ) (g u : ℕ) → get_or ds u 0 ≡ suc g → (k : ℕ) → Within k u → above ds (suc g) k < above ds g k
unfolding above
above_falls ds g u e zero h = absurd (let z : ⊥ = omega arith in z)
above_falls ds g u e (suc k) h =
    elim (cases_eq u (suc k)) [
      | inl q ↦
          let a = above_le ds g k in
          let x : get_or ds (suc k) 0 ≡ suc g = subst (λ (y : ℕ). get_or ds y 0 ≡ suc g) q e in
          let b = cond-false {A = ℕ} (ltb (suc g) (get_or ds (suc k) 0)) 1 0 (le-ltb (suc g) (get_or ds (suc k) 0) (omega arith)) in
          let c = cond-true {A = ℕ} (ltb g (get_or ds (suc k) 0)) 1 0 (lt-ltb g (get_or ds (suc k) 0) (omega arith)) in
          omega (arith, a, b, c)
      | inr n ↦ let a = above_falls ds g u e k (omega arith) in let b = above_term g (get_or ds (suc k) 0) in omega (arith, a, b)
    ]

pub above_has : (ds : List ℕ) (g u : ℕ) → g < get_or ds u 0 → (k : ℕ) → Within k u → 0 < above ds g k
unfolding above
above_has ds g u e zero h = absurd (let z : ⊥ = omega arith in z)
above_has ds g u e (suc k) h =
    elim (cases_eq u (suc k)) [
      | inl q ↦ let c = cond-true {A = ℕ} (ltb g (get_or ds (suc k) 0)) 1 0 (lt-ltb g (get_or ds (suc k) 0) (subst (λ (y : ℕ). g < get_or ds y 0) q e)) in omega (arith, c)
      | inr n ↦ let a = above_has ds g u e k (omega arith) in omega (arith, a)
    ]

at_most_one : (b : Bool) → cond b 1 0 ≤ 1
at_most_one true = omega arith
at_most_one false = omega arith

pub above_most : (ds : List ℕ) (g k : ℕ) → above ds g k ≤ k
unfolding above
above_most ds g zero = omega arith
above_most ds g (suc k) = let a = above_most ds g k in let b = at_most_one (ltb g (get_or ds (suc k) 0)) in omega (arith, a, b)

pub above_misses : (ds : List ℕ) (g u : ℕ) → get_or ds u 0 ≤ g → (k : ℕ) → Within k u → above ds g k < k
unfolding above
above_misses ds g u e zero h = absurd (let z : ⊥ = omega arith in z)
above_misses ds g u e (suc k) h =
    elim (cases_eq u (suc k)) [
      | inl q ↦
          let a = above_most ds g k in
          let c = cond-false {A = ℕ} (ltb g (get_or ds (suc k) 0)) 1 0 (le-ltb g (get_or ds (suc k) 0) (subst (λ (y : ℕ). get_or ds y 0 ≤ g) q e)) in
          omega (arith, a, c)
      | inr n ↦ let a = above_misses ds g u e k (omega arith) in let b = at_most_one (ltb g (get_or ds (suc k) 0)) in omega (arith, a, b)
    ]

-- some point has the height, or none has
abbrev Some : (ds : List ℕ) (g k : ℕ) → Type 0
Some ds g k = ((u : ℕ) × Within k u × (get_or ds u 0 ≡ suc g)) ⊎ ((u : ℕ) → Within k u → get_or ds u 0 ≢ suc g)

find : (ds : List ℕ) (g k : ℕ) → Some ds g k
find ds g zero = inr (λ u h. absurd (let z : ⊥ = omega arith in z))
find ds g (suc k) =
    elim (cases_eq (get_or ds (suc k) 0) (suc g)) [
      | inl e ↦ inl (suc k, omega arith, e)
      | inr n ↦
          ⊎_elim (λ x. let l = x.1 in inl (x.0, omega (arith, l), x.2))
          (λ x. inr (λ u h. ⊎_elim (λ e q. n (subst (λ (y : ℕ). get_or ds y 0 ≡ suc g) e q)) (λ m. x u (omega arith)) (cases_eq u (suc k))))
          (find ds g k)
    ]

module _ (hs rs₀ rs es ds : List ℕ) (n source given : ℕ) (ar : Arcs hs n)
    (pairs : (a : ℕ) → get_or rs a 0 + get_or rs (mate_of a) 0 ≡ get_or rs₀ a 0 + get_or rs₀ (mate_of a) 0)
    (flow : (p : ℕ → Bool) → outs p hs rs (length hs) + cond (p source) given 0 ≡ outs p hs rs₀ (length hs) + exc p es n)
    (steep : (a : ℕ) → a < length hs → 0 < get_or rs a 0 → get_or ds (tail_of hs a) 0 ≤ get_or ds (head_of hs a) 0 + 1)
    (sin : Within n source) (high : get_or ds source 0 ≡ n) where
  -- no height between the source's and an active point's is left out
  no_gap : (v g : ℕ) → Within n v → 0 < get_or es v 0 → n ≤ g → suc g < get_or ds v 0 → ((u : ℕ) → Within n u → get_or ds u 0 ≢ suc g) → ⊥
  no_gap v g vin act low up none =
      let p : ℕ → Bool = λ u. ltb (suc g) (get_or ds u 0) in
      let m : ℕ = length hs / 2 in
      let ev = ar.even in
      let sz : 2 * m ≡ length hs = omega arith in
      let c = closed_less p hs rs₀ rs ev pairs
      (λ a ain t h.
      let x = ltb-true (suc g) (get_or ds (tail_of hs a) 0) t in
      let y = ltb-false (suc g) (get_or ds (head_of hs a) 0) h in
      let w = none (head_of hs a) (ar.some a ain, ar.most a ain) in
      ⊎_elim (λ pos. let s = steep a ain pos in absurd (let z : ⊥ = omega arith in z)) (λ z. omega arith) (cases_lt 0 (get_or rs a 0)))
      m (omega arith) in
      let x = ap (λ (k : ℕ). outs p hs rs k) sz in
      let y = ap (λ (k : ℕ). outs p hs rs₀ k) sz in
      let q = flow p in
      let s = cond-false (p source) given 0 (le-ltb (suc g) (get_or ds source 0) (omega arith)) in
      let e = exc_has p es v (lt-ltb (suc g) (get_or ds v 0) up) n vin in
      omega (arith, c, x, y, q, s, e, act)

  -- so of the n - 1 points other than the source fewer and fewer are higher
  few_above : (v : ℕ) → Within n v → 0 < get_or es v 0 → (j : ℕ) → n + j < get_or ds v 0 → above ds (n + j) n + j < n
  few_above v vin act zero h =
      let z : n + 0 ≡ n = omega arith in
      let a = above_misses ds n source (omega arith) n sin in
      let b = ap (λ (x : ℕ). above ds x n) z in
      omega (arith, a, b)
  few_above v vin act (suc j) h =
      let ih = few_above v vin act j (omega arith) in
      let one : n + suc j ≡ suc (n + j) = omega arith in
      let b = ap (λ (x : ℕ). above ds x n) one in
      ⊎_elim
      (λ x. let a = above_falls ds (n + j) x.0 x.2 n x.1 in omega (arith, a, ih, b))
      (λ x. absurd (no_gap v (n + j) vin act (omega arith) (omega arith) x))
      (find ds (n + j) n)

  pub active_low : (v : ℕ) → Within n v → 0 < get_or es v 0 → get_or ds v 0 < n + n
  active_low v vin act =
      ⊎_elim (λ h. h)
      (λ h.
      let low : n + (n - 1) < get_or ds v 0 = omega arith in
      let a = few_above v vin act (n - 1) low in
      let b = above_has ds (n + (n - 1)) v low n vin in
      absurd (let z : ⊥ = omega (arith, a, b) in z))
      (cases_lt (get_or ds v 0) (n + n))
