-- Laws of `put`, which writes the v-th of a list, counted from 1.
use Rattle.std.proofs.Common.{◌≡◌, ℕ, zero, suc, ◌+◌, ◌-◌, ◌<◌, ◌≤◌, ◌≢◌, List, [], ◌∷◌, ◌++◌, length, get_or, set, refl, ap, add-one, arith, length-set, get_or-set_other, get_or-set_same}
use lib.ListN.{get_or-append}
use lib.Seq.{get_or-append_seam}
use Rattle.drawing.specs.Counts.{Within, nth}
use Rattle.rig_drawing.specs.Changes.{put}

module _ {A : Type 0} where
  pub length_put : (xs : List A) (v : ℕ) (x : A) → length (put xs v x) ≡ length xs
  length_put xs zero x = refl
  length_put xs (suc k) x = length-set xs k x

  pub put_set : (xs : List A) (v : ℕ) (x : A) → 1 ≤ v → put xs v x ≡ set xs (v - 1) x
  put_set xs zero x h = let no_such : ⊥ = omega arith in absurd no_such
  put_set xs (suc k) x h = ap (λ i. set xs i x) (omega arith)

  pub nth_get_or : (xs : List A) (v : ℕ) (d : A) → 1 ≤ v → nth xs v d ≡ get_or xs (v - 1) d
  nth_get_or xs zero d h = let no_such : ⊥ = omega arith in absurd no_such
  nth_get_or xs (suc k) d h = ap (λ i. get_or xs i d) (omega arith)

  pub nth_put_same : (xs : List A) (v : ℕ) (x d : A) → Within (length xs) v → nth (put xs v x) v d ≡ x
  nth_put_same xs zero x d w = let no_such : ⊥ = omega arith in absurd no_such
  nth_put_same xs (suc k) x d w = let lt : k < length xs = omega arith in get_or-set_same xs k x d lt

  pub nth_put_other : (xs : List A) (v w : ℕ) (x d : A) → w ≢ v → nth (put xs v x) w d ≡ nth xs w d
  nth_put_other xs zero w x d ne = refl
  nth_put_other xs (suc k) zero x d ne = refl
  nth_put_other xs (suc k) (suc j) x d ne = let other : j ≢ k = λ e. ne (ap suc e) in get_or-set_other xs k j x d other

  pub nth_more_front : (xs : List A) (x : A) (k : ℕ) (d : A) → Within (length xs) k → nth (xs ++ (x ∷ [])) k d ≡ nth xs k d
  nth_more_front xs x zero d w = refl
  nth_more_front xs x (suc k) d w = get_or-append xs (x ∷ []) d k (omega arith)

  pub nth_more_last : (xs : List A) (x d : A) → nth (xs ++ (x ∷ [])) (length xs + 1) d ≡ x
  nth_more_last xs x d = rw add-one (get_or-append_seam xs x [] d)
