-- The arcs of runs: two writes for each.
use Rattle.std.proofs.Common.{◌≡◌, ℕ, ◌+◌, ◌*◌, ◌/◌, ◌%◌, ◌<◌, ◌≢◌, List, length, get_or, set, ap, ◌∙◌, subst, inl, inr, ⊎_elim, arith, length-set, get_or-set_other, get_or-set_same}
use Rattle.std.proofs.lemmas.Bool.{cases_eq}
use Rattle.residual.specs.Net.{mate_of}
use Rattle.residual.proofs.Moves.{mate_even}

module _ (xs : List ℕ) (i x y : ℕ) (h : 2 * i + 1 < length xs) where
  pub two_even : (k v : ℕ) → k < i + 1 → (k < i → get_or xs (2 * k) 0 ≡ v) → (k ≡ i → x ≡ v) → get_or (set (set xs (2 * i) x) (2 * i + 1) y) (2 * k) 0 ≡ v
  two_even k v kin old new =
      let n : 2 * k ≢ 2 * i + 1 = omega arith in
      get_or-set_other (set xs (2 * i) x) (2 * i + 1) (2 * k) y 0 n
      ∙ elim (cases_eq k i) [
        | inl e ↦ ap (λ (j : ℕ). get_or (set xs (2 * i) x) (2 * j) 0) e ∙ get_or-set_same xs (2 * i) x 0 (omega arith) ∙ new e
        | inr ne ↦ (let m : 2 * k ≢ 2 * i = omega arith in get_or-set_other xs (2 * i) (2 * k) x 0 m) ∙ old (omega arith)
      ]

  pub two_odd : (k v : ℕ) → k < i + 1 → (k < i → get_or xs (2 * k + 1) 0 ≡ v) → (k ≡ i → y ≡ v) → get_or (set (set xs (2 * i) x) (2 * i + 1) y) (2 * k + 1) 0 ≡ v
  two_odd k v kin old new =
      elim (cases_eq k i) [
        | inl e ↦
            (let w : 2 * i + 1 < length (set xs (2 * i) x) = rw (length-set xs (2 * i) x) h in
            ap (λ (j : ℕ). get_or (set (set xs (2 * i) x) (2 * i + 1) y) (2 * j + 1) 0) e ∙ get_or-set_same (set xs (2 * i) x) (2 * i + 1) y 0 w) ∙ new e
        | inr ne ↦
            (let m : 2 * k + 1 ≢ 2 * i + 1 = omega arith in
            let n : 2 * k + 1 ≢ 2 * i = omega arith in
            get_or-set_other (set xs (2 * i) x) (2 * i + 1) (2 * k + 1) y 0 m ∙ get_or-set_other xs (2 * i) (2 * k + 1) x 0 n) ∙ old (omega arith)
      ]

pub mate_double : (k : ℕ) → mate_of (2 * k) ≡ 2 * k + 1
mate_double k = let e : (2 * k) % 2 ≡ 0 = omega arith in mate_even (2 * k) e

-- every arc is one of a run
pub each_arc : (P : ℕ → Type 0) (m : ℕ) → ((k : ℕ) → k < m → P (2 * k)) → ((k : ℕ) → k < m → P (2 * k + 1)) → (a : ℕ) → a < 2 * m → P a
each_arc P m e o a h =
    ⊎_elim
    (λ z. let q : 2 * (a / 2) ≡ a = omega arith in subst P q (e (a / 2) (omega arith)))
    (λ z. let q : 2 * (a / 2) + 1 ≡ a = omega arith in subst P q (o (a / 2) (omega arith)))
    (cases_eq (a % 2) 0)
