-- Sums over the points, and the measure that falls.
use Rattle.std.proofs.Common.{◌≡◌, ℕ, zero, suc, ◌+◌, ◌-◌, ◌*◌, ◌<◌, ◌≤◌, cond, eqb, ◌≢◌, List, length, get_or, set, sym, refl, ap, ◌∙◌, inl, inr, mul-le-mul_right, add-mul, mul-add, arith, length-set, get_or-set_other, get_or-set_same}
use Rattle.std.proofs.lemmas.Bool.{cases_eq, cond-true, cond-false, eq-eqb, ne_eqb}
use Rattle.drawing.specs.Counts.{Within, sum_to}
use Rattle.drawing.proofs.Sums.{sum_same, sum_zero}
use Rattle.preflow.specs.Push.{shifted}

-- sums that differ at one point
pub sum_change : (f g : ℕ → ℕ) (i k : ℕ) → Within k i → ((u : ℕ) → u ≢ i → f u ≡ g u) → sum_to k f + g i ≡ sum_to k g + f i
sum_change f g i zero l h = absurd (let z : ⊥ = omega arith in z)
sum_change f g i (suc k) l h =
    elim (cases_eq i (suc k)) [
      | inl e ↦
          let a = sum_same k f g (λ u m. h u (λ q. omega arith)) in
          let b = ap f e in
          let c = ap g e in
          omega (arith, a, b, c)
      | inr n ↦ let a = sum_change f g i k (omega arith) h in let b = h (suc k) (λ q. n (sym q)) in omega (arith, a, b)
    ]

-- or at two
pub sum_change2 : (f g : ℕ → ℕ) (v w k : ℕ) → Within k v → Within k w → v ≢ w → ((u : ℕ) → u ≢ v → u ≢ w → f u ≡ g u) → sum_to k f + (g v + g w) ≡ sum_to k g + (f v + f w)
sum_change2 f g v w k vin win ne h =
    let m : ℕ → ℕ = λ u. cond (eqb u v) (f v) (g u) in
    let mv : m v ≡ f v = cond-true (eqb v v) (f v) (g v) (eq-eqb v v refl) in
    let mo : (u : ℕ) → u ≢ v → m u ≡ g u = λ u q. cond-false (eqb u v) (f v) (g u) (ne_eqb u v q) in
    let a = sum_change f m w k win (λ u q. elim (cases_eq u v) [ inl e ↦ ap f e ∙ sym mv ∙ ap m (sym e) | inr n ↦ h u n q ∙ sym (mo u n) ]) in
    let b = sum_change m g v k vin mo in
    let mw = mo w (λ q. ne (sym q)) in
    omega (arith, a, b, mv, mw)

-- a term is at most the sum
pub term_le : (f : ℕ → ℕ) (u k : ℕ) → Within k u → f u ≤ sum_to k f
term_le f u zero h = absurd (let z : ⊥ = omega arith in z)
term_le f u (suc k) h =
    elim (cases_eq u (suc k)) [
      | inl e ↦ let b = ap f e in omega (arith, b)
      | inr n ↦ let a = term_le f u k (omega arith) in omega (arith, a)
    ]

pub pair_le : (f : ℕ → ℕ) (v w k : ℕ) → Within k v → Within k w → v ≢ w → f v + f w ≤ sum_to k f
pair_le f v w zero vin win ne = absurd (let z : ⊥ = omega arith in z)
pair_le f v w (suc k) vin win ne =
    elim (cases_eq v (suc k)) [
      | inl e ↦ let b = ap f e in let a = term_le f w k (omega arith) in omega (arith, a, b)
      | inr n ↦
          elim (cases_eq w (suc k)) [
            | inl e ↦ let b = ap f e in let a = term_le f v k (omega arith) in omega (arith, a, b)
            | inr m ↦ let a = pair_le f v w k (omega arith) (omega arith) ne in omega (arith, a)
          ]
    ]

-- all terms at most c
pub sum_most : (f : ℕ → ℕ) (c k : ℕ) → ((u : ℕ) → Within k u → f u ≤ c) → sum_to k f ≤ k * c
sum_most f c zero h = omega arith
sum_most f c (suc k) h =
    let a = sum_most f c k (λ u l. h u (omega arith)) in
    let b = h (suc k) (omega arith) in
    let one : suc k ≡ k + 1 = omega arith in
    let e : suc k * c ≡ k * c + 1 * c = ap (λ (x : ℕ). x * c) one ∙ add-mul k 1 c in
    omega (arith, a, b, e)

-- a sum with only two parts, or one
pub sum_two : (f : ℕ → ℕ) (v w k : ℕ) → Within k v → Within k w → v ≢ w → ((u : ℕ) → u ≢ v → u ≢ w → f u ≡ 0) → sum_to k f ≡ f v + f w
sum_two f v w k vin win ne h =
    let a = sum_change2 f (λ u. 0) v w k vin win ne h in
    let b = sum_zero k in
    omega (arith, a, b)

pub sum_lone : (f : ℕ → ℕ) (v k : ℕ) → Within k v → ((u : ℕ) → u ≢ v → f u ≡ 0) → sum_to k f ≡ f v
sum_lone f v k vin h =
    let a = sum_change f (λ u. 0) v k vin h in
    let b = sum_zero k in
    omega (arith, a, b)

module _ (es : List ℕ) (v w x : ℕ) (ne : v ≢ w) where
  pub shifted_length : length (shifted es v w x) ≡ length es
  unfolding shifted
  shifted_length =
      let one : List ℕ = set es v (get_or es v 0 - x) in
      length-set one w (get_or one w 0 + x) ∙ length-set es v (get_or es v 0 - x)

  pub shifted_other : (u : ℕ) → u ≢ v → u ≢ w → get_or (shifted es v w x) u 0 ≡ get_or es u 0
  unfolding shifted
  shifted_other u a b =
      let one : List ℕ = set es v (get_or es v 0 - x) in
      get_or-set_other one w u (get_or one w 0 + x) 0 b ∙ get_or-set_other es v u (get_or es v 0 - x) 0 a

  pub shifted_from : v < length es → get_or (shifted es v w x) v 0 ≡ get_or es v 0 - x
  unfolding shifted
  shifted_from h =
      let one : List ℕ = set es v (get_or es v 0 - x) in
      get_or-set_other one w v (get_or one w 0 + x) 0 ne ∙ get_or-set_same es v (get_or es v 0 - x) 0 h

  pub shifted_to : w < length es → get_or (shifted es v w x) w 0 ≡ get_or es w 0 + x
  unfolding shifted
  shifted_to h =
      let one : List ℕ = set es v (get_or es v 0 - x) in
      let within : w < length one = rw (length-set es v (get_or es v 0 - x)) h in
      get_or-set_same one w (get_or one w 0 + x) 0 within
      ∙ ap (λ (y : ℕ). y + x) (get_or-set_other es v w (get_or es v 0 - x) 0 (λ q. ne (sym q)))

  -- a sum over the excesses, after a shift
  pub shifted_sum : (F : ℕ → ℕ → ℕ) (n : ℕ) → length es ≡ n + 1 → Within n v → Within n w → sum_to n (λ u. F u (get_or (shifted es v w x) u 0)) + (F v (get_or es v 0) + F w (get_or es w 0)) ≡ sum_to n (λ u. F u (get_or es u 0)) + (F v (get_or es v 0 - x) + F w (get_or es w 0 + x))
  shifted_sum F n len vin win =
      let a = sum_change2 (λ u. F u (get_or (shifted es v w x) u 0)) (λ u. F u (get_or es u 0)) v w n vin win ne (λ u p q. ap (F u) (shifted_other u p q)) in
      let b = ap (F v) (shifted_from (omega arith)) in
      let c = ap (F w) (shifted_to (omega arith)) in
      omega (arith, a, b, c)

-- the measure's part of a point with excess e and height h
unfoldable pub term : (n e h : ℕ) → ℕ
term n e h = 1800000001 * (n + n - h) + e * h

abbrev pub mu : (n : ℕ) (es ds : List ℕ) → ℕ
mu n es ds = sum_to n (λ u. term n (get_or es u 0) (get_or ds u 0))

pub term_lift : (n e h j : ℕ) → e ≤ 1800000001 → h ≤ j → j ≤ n + n → term n e j ≤ term n e h
unfolding term
term_lift n e h j small up top =
    let d : ℕ = j - h in
    let s : j ≡ h + d = omega arith in
    let a : e * j ≡ e * h + e * d = ap (λ (x : ℕ). e * x) s ∙ mul-add e h d in
    let b : e * d ≤ 1800000001 * d = mul-le-mul_right d small in
    omega (arith, a, b)

pub term_most : (n e h : ℕ) → e ≤ 1800000001 → h ≤ n + n → term n e h ≤ 1800000001 * (n + n)
unfolding term
term_most n e h small top =
    let b : e * h ≤ 1800000001 * h = mul-le-mul_right h small in
    omega (arith, b)

pub term_push : (n e f h x : ℕ) → x ≤ e → term n (e - x) (h + 1) + term n (f + x) h + x ≡ term n e (h + 1) + term n f h
unfolding term
term_push n e f h x le =
    let y : ℕ = e - x in
    let s : e ≡ y + x = omega arith in
    let a : e * (h + 1) ≡ y * (h + 1) + x * (h + 1) = ap (λ (z : ℕ). z * (h + 1)) s ∙ add-mul y x (h + 1) in
    let b : (f + x) * h ≡ f * h + x * h = add-mul f x h in
    let c : x * (h + 1) ≡ x * h + x * 1 = mul-add x h 1 in
    omega (arith, a, b, c)
