-- Mates, and what a move along an arc changes.
use Rattle.std.proofs.Common.{◌≡◌, ℕ, zero, suc, ◌+◌, ◌-◌, ◌%◌, ◌<◌, ◌≤◌, Bool, true, false, cond, eqb, ◌≢◌, List, length, get_or, set, sym, refl, ap, ◌∙◌, inl, inr, ⊎_elim, arith, length-set, get_or-set_other, get_or-set_same}
use Rattle.std.proofs.lemmas.Bool.{cases_eq, cond-true, cond-false, eq-eqb, ne_eqb}
use Rattle.residual.specs.Net.{mate_of, head_of, tail_of, outs, moved}

pub mate_even : (a : ℕ) → a % 2 ≡ 0 → mate_of a ≡ a + 1
unfolding mate_of
mate_even a e = cond-true _ _ _ (eq-eqb _ _ e)

pub mate_odd : (a : ℕ) → a % 2 ≡ 1 → mate_of a ≡ a - 1
unfolding mate_of
mate_odd a e = cond-false (eqb (a % 2) 0) (a + 1) (a - 1) (ne_eqb (a % 2) 0 (λ z. omega arith))

pub mate_mate : (a : ℕ) → mate_of (mate_of a) ≡ a
mate_mate a =
    ⊎_elim
    (λ e. let o : (a + 1) % 2 ≡ 1 = omega arith in ap mate_of (mate_even a e) ∙ mate_odd (a + 1) o ∙ (let s : a + 1 - 1 ≡ a = omega arith in s))
    (λ n. let o : a % 2 ≡ 1 = omega arith in let z : (a - 1) % 2 ≡ 0 = omega arith in ap mate_of (mate_odd a o) ∙ mate_even (a - 1) z ∙ (let s : a - 1 + 1 ≡ a = omega arith in s))
    (cases_eq (a % 2) 0)

pub mate_ne : (a : ℕ) → mate_of a ≢ a
mate_ne a =
    ⊎_elim (λ e h. omega (arith, mate_even a e)) (λ n h. let o : a % 2 ≡ 1 = omega arith in omega (arith, mate_odd a o)) (cases_eq (a % 2) 0)

pub mate_within : (a n : ℕ) → n % 2 ≡ 0 → a < n → mate_of a < n
mate_within a n h l =
    ⊎_elim (λ e. rw (mate_even a e) (omega arith)) (λ m. let o : a % 2 ≡ 1 = omega arith in rw (mate_odd a o) (omega arith)) (cases_eq (a % 2) 0)

module _ (rs : List ℕ) (k g : ℕ) where
  pub moved_length : length (moved rs k g) ≡ length rs
  unfolding moved
  moved_length =
      let one : List ℕ = set rs k (get_or rs k 0 - g) in
      length-set one (mate_of k) (get_or one (mate_of k) 0 + g) ∙ length-set rs k (get_or rs k 0 - g)

  pub moved_other : (a : ℕ) → a ≢ k → a ≢ mate_of k → get_or (moved rs k g) a 0 ≡ get_or rs a 0
  unfolding moved
  moved_other a n m =
      let one : List ℕ = set rs k (get_or rs k 0 - g) in
      get_or-set_other one (mate_of k) a (get_or one (mate_of k) 0 + g) 0 m ∙ get_or-set_other rs k a (get_or rs k 0 - g) 0 n

  pub moved_here : k < length rs → get_or (moved rs k g) k 0 ≡ get_or rs k 0 - g
  unfolding moved
  moved_here h =
      let one : List ℕ = set rs k (get_or rs k 0 - g) in
      get_or-set_other one (mate_of k) k (get_or one (mate_of k) 0 + g) 0 (λ e. mate_ne k (sym e)) ∙ get_or-set_same rs k (get_or rs k 0 - g) 0 h

  pub moved_mate : mate_of k < length rs → get_or (moved rs k g) (mate_of k) 0 ≡ get_or rs (mate_of k) 0 + g
  unfolding moved
  moved_mate h =
      let one : List ℕ = set rs k (get_or rs k 0 - g) in
      let within : mate_of k < length one = rw (length-set rs k (get_or rs k 0 - g)) h in
      get_or-set_same one (mate_of k) (get_or one (mate_of k) 0 + g) 0 within
      ∙ ap (λ (x : ℕ). x + g) (get_or-set_other rs k (mate_of k) (get_or rs k 0 - g) 0 (mate_ne k))

  -- the two arcs of a run together
  pub moved_pairs : k < length rs → mate_of k < length rs → g ≤ get_or rs k 0 → (a : ℕ) → get_or (moved rs k g) a 0 + get_or (moved rs k g) (mate_of a) 0 ≡ get_or rs a 0 + get_or rs (mate_of a) 0
  moved_pairs h m le a =
      elim (cases_eq a k) [
        | inl e ↦ rw e (let x = moved_here h in let y = moved_mate m in omega arith)
        | inr n ↦
            elim (cases_eq a (mate_of k)) [
              | inl e ↦ rw (e, mate_mate k) (let x = moved_here h in let y = moved_mate m in omega arith)
              | inr o ↦
                  let p : mate_of a ≢ k = λ e. o (sym (mate_mate a) ∙ ap mate_of e) in
                  let q : mate_of a ≢ mate_of k = λ e. n (sym (mate_mate a) ∙ ap mate_of e ∙ mate_mate k) in
                  rw (moved_other a n o, moved_other (mate_of a) p q) refl
            ]
      ]

-- one arc's room is written
pub outs_past : (p : ℕ → Bool) (hs rs : List ℕ) (i x n : ℕ) → n ≤ i → outs p hs (set rs i x) n ≡ outs p hs rs n
unfolding outs
outs_past p hs rs i x zero h = refl
outs_past p hs rs i x (suc n) h =
    let ne : n ≢ i = omega arith in
    rw (get_or-set_other rs i n x 0 ne, outs_past p hs rs i x n (omega arith)) refl

pub outs_set : (p : ℕ → Bool) (hs rs : List ℕ) (i x n : ℕ) → i < n → i < length rs → outs p hs (set rs i x) n + cond (p (tail_of hs i)) (get_or rs i 0) 0 ≡ outs p hs rs n + cond (p (tail_of hs i)) x 0
unfolding outs
outs_set p hs rs i x zero = λ h l. absurd (let z : ⊥ = omega arith in z)
outs_set p hs rs i x (suc n) = λ h l.
    elim (cases_eq n i) [
      | inl e ↦ rw (e, get_or-set_same rs i x 0 l, outs_past p hs rs i x i (omega arith)) (omega arith)
      | inr ne ↦ rw (get_or-set_other rs i n x 0 ne) (let ih = outs_set p hs rs i x n (omega arith) l in omega arith)
    ]

-- two writes make a move
pub moved_is : (rs : List ℕ) (a b g : ℕ) → b ≡ mate_of a → set (set rs a (get_or rs a 0 - g)) b (get_or rs b 0 + g) ≡ moved rs a g
unfolding moved
moved_is rs a b g e =
    let one : List ℕ = set rs a (get_or rs a 0 - g) in
    ap (λ (x : ℕ). set one x (get_or rs x 0 + g)) e
    ∙ ap (λ (x : ℕ). set one (mate_of a) (x + g)) (sym (get_or-set_other rs a (mate_of a) (get_or rs a 0 - g) 0 (mate_ne a)))

pub cond_add : (b : Bool) (x y : ℕ) → cond b (x + y) 0 ≡ cond b x 0 + cond b y 0
cond_add true x y = refl
cond_add false x y = refl

-- what a move along arc k does to a set of points
pub moved_outs : (p : ℕ → Bool) (hs rs : List ℕ) (k g : ℕ) → length rs ≡ length hs → length hs % 2 ≡ 0 → k < length hs → g ≤ get_or rs k 0 → outs p hs (moved rs k g) (length hs) + cond (p (tail_of hs k)) g 0 ≡ outs p hs rs (length hs) + cond (p (head_of hs k)) g 0
unfolding moved
moved_outs p hs rs k g e ev h le =
    let n = length hs in
    let m = mate_of k in
    let x = get_or rs k 0 - g in
    let one : List ℕ = set rs k x in
    let mw : m < n = mate_within k n ev h in
    let l1 : k < length rs = omega arith in
    let l2 : m < length one = rw (length-set rs k x) (omega arith) in
    let a = outs_set p hs rs k x n h l1 in
    let b = outs_set p hs one m (get_or one m 0 + g) n mw l2 in
    let whole : get_or rs k 0 ≡ x + g = omega arith in
    let c : cond (p (tail_of hs k)) (get_or rs k 0) 0 ≡ cond (p (tail_of hs k)) x 0 + cond (p (tail_of hs k)) g 0 = ap (λ (z : ℕ). cond (p (tail_of hs k)) z 0) whole ∙ cond_add (p (tail_of hs k)) x g in
    let d = cond_add (p (tail_of hs m)) (get_or one m 0) g in
    let t : cond (p (tail_of hs m)) g 0 ≡ cond (p (head_of hs k)) g 0 = ap (λ (z : ℕ). cond (p (get_or hs z 0)) g 0) (mate_mate k) in
    omega arith
