-- Lists made by number: one item more.
use Rattle.std.proofs.Common.{◌≡◌, ℕ, zero, suc, ◌+◌, ◌-◌, ◌*◌, ◌<◌, ◌≤◌, Bool, true, false, inl, inr, refl, List, [], ◌∷◌, ◌++◌, map, length, get_or, take, drop, length-append, sym, ap, ◌∙◌, arith}
use Rattle.std.specs.List.{range_with_len}
use Rattle.std.proofs.Math.Seq.{take-length, drop-append_seam}
use Rattle.std.proofs.Math.ListN.{get_or-append}
use Rattle.std.proofs.lemmas.List.{length-drop, get_or-drop, drop-drop}
use Rattle.std.proofs.lemmas.List.FromFn.{map-range_with_len_more}
use Rattle.std.proofs.lemmas.Bool.{cases_eq, cond-true, cond-false}
use Rattle.drawing.specs.declared.Mark.{Mark}
use Rattle.drawing.specs.declared.Mark.TheVariants.{Plain, Rack, Bar}
use Rattle.filing.specs.Marks.{is_marked}
use Rattle.residual.specs.Plain.{last_to}

pub made_more : {A : Type 0} (f : ℕ → A) (n : ℕ) (xs ys : List A) (y : A) → xs ≡ map f (range_with_len 1 n) → ys ≡ xs ++ y ∷ [] → y ≡ f (suc n) → ys ≡ map f (range_with_len 1 (n + 1))
made_more f n xs ys y e m h =
    let one : 1 + n ≡ suc n = omega arith in
    m ∙ ap (λ zs. zs ++ y ∷ []) e ∙ ap (λ z. map f (range_with_len 1 n) ++ z ∷ []) h ∙ sym (map-range_with_len_more f 1 n (suc n) one)

-- the last number that passes the test, and none
pub last_at : (n i : ℕ) (t : ℕ → Bool) → i < n → t (suc i) ≡ true → ((k : ℕ) → i < k → k < n → t (suc k) ≡ false) → last_to n t ≡ suc i
unfolding last_to
last_at zero i t h y none = absurd (let z : ⊥ = omega arith in z)
last_at (suc n) i t h y none =
    elim (cases_eq n i) [
      | inl e ↦ cond-true (t (suc n)) _ _ (ap (λ (k : ℕ). t (suc k)) e ∙ y) ∙ ap (λ (k : ℕ). suc k) e
      | inr e ↦ cond-false (t (suc n)) _ _ (none n (omega arith) (omega arith)) ∙ last_at n i t (omega arith) y (λ k a b. none k a (omega arith))
    ]

pub last_none : (n : ℕ) (t : ℕ → Bool) → ((k : ℕ) → k < n → t (suc k) ≡ false) → last_to n t ≡ 0
unfolding last_to
last_none zero t none = refl
last_none (suc n) t none = cond-false (t (suc n)) _ _ (none n (omega arith)) ∙ last_none n t (λ k h. none k (omega arith))

-- marks that are equal, and such as are not
pub marked_yes : (w m : Mark) → m ≡ w → is_marked w m ≡ true
marked_yes Plain m e = rw e refl
marked_yes Rack m e = rw e refl
marked_yes Bar m e = rw e refl

pub marked_no : (w m : Mark) → (m ≡ w → ⊥) → is_marked w m ≡ false
marked_no Plain Plain n = absurd (n refl)
marked_no Plain Rack n = refl
marked_no Plain Bar n = refl
marked_no Rack Plain n = refl
marked_no Rack Rack n = absurd (n refl)
marked_no Rack Bar n = refl
marked_no Bar Plain n = refl
marked_no Bar Rack n = refl
marked_no Bar Bar n = absurd (n refl)

-- a list behind its first item
pub rest_of : (xs : List ℕ) (k : ℕ) → get_or (take (length xs - 1) (drop 1 xs)) k 0 ≡ get_or xs (suc k) 0
rest_of [] k = refl
rest_of (x ∷ xs) k = let one : length (x ∷ xs) - 1 ≡ length xs = omega arith in rw one (ap (λ ys. get_or ys k 0) (take-length xs))

-- the pair at the place 2k of a list, and what follows it
pub pair_at : (xs ys zs : List ℕ) (k : ℕ) → drop (2 * k) xs ≡ ys ++ zs → length ys ≡ 2 → (2 * (k + 1) ≤ length xs) × (get_or ys 1 0 ≡ get_or xs (2 * k + 1) 0) × (zs ≡ drop (2 * (k + 1)) xs)
pair_at xs ys zs k e l =
    let all : length (drop (2 * k) xs) ≡ 2 + length zs = ap length e ∙ length-append ys zs ∙ ap (λ n. n + length zs) l in
    let long = length-drop (2 * k) xs in
    let next : 2 * k + 2 ≡ 2 * (k + 1) = omega arith in (
      omega (arith, all, long),
      sym (get_or-append ys zs 0 1 (omega (arith, l))) ∙ ap (λ ws. get_or ws 1 0) (sym e) ∙ get_or-drop (2 * k) xs 1 0,
      sym (drop-append_seam ys zs) ∙ ap (λ n. drop n (ys ++ zs)) l ∙ ap (drop 2) (sym e) ∙ drop-drop 2 (2 * k) xs ∙ ap (λ n. drop n xs) next,
    )
