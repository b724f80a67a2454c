-- A point that is written anew, seen through a field of it; and how many points have a role then.
use Rattle.std.proofs.Common.{◌≡◌, ℕ, ◌+◌, Bool, true, false, cond, eqb, List, length, Some, None, sym, refl, ap, ◌∙◌, subst, ⊎_elim, arith}
use Rattle.std.proofs.lemmas.Bool.{cond-true, cond-false, eq-eqb, ne_eqb, eqb-true, cases_eq}
use Rattle.drawing.specs.declared.Mark.{Mark}
use Rattle.drawing.specs.declared.Point.{Point}
use Rattle.drawing.specs.declared.Run.{Run}
use Rattle.drawing.specs.Counts.{Within, sum_to, only, count_to, nth}
use Rattle.drawing.specs.Drawings.{Network, point_count, point, no_point, is_rack, is_bar}
use Rattle.drawing.proofs.Sums.{sum_same, sum_plus, sum_at}
use Rattle.rig_drawing.specs.Changes.{put, laid}
use Rattle.rig_drawing.proofs.Places.{length_put, nth_put_same, nth_put_other}
use Rattle.rig_lines.specs.declared.Role.{Role}
use Rattle.rig_lines.specs.declared.Role.TheVariants as role
use Rattle.rig_lines.specs.Codes.{role_mark}
use Rattle.reading.specs.Given.{also, last_or}
use Rattle.reading.specs.Reading.{is_marked, role_count}

cond_same : {A : Type 0} (b : Bool) (x y : A) → (b ≡ true → x ≡ y) → cond b x y ≡ y
cond_same true x y h = h refl
cond_same false x y h = refl

-- one value more for a point that had none
module _ {A : Type 0} (b : Bool) (a q : A) (rest : List A) where
  count_given : (has : A → Bool) → has a ≡ true → (b ≡ true → has q ≡ false) → only (has q) 1 + length (also (cond b (Some a) None) rest) ≡ only (has (cond b a q)) 1 + length rest
  count_given has ya nq = elim b as (λ c. (c ≡ true → has q ≡ false) → only (has q) 1 + length (also (cond c (Some a) None) rest) ≡ only (has (cond c a q)) 1 + length rest) [
    | true ↦ λ n. rw (ya, n refl) (omega arith)
    | false ↦ λ n. refl
  ] nq

  last_given : last_or q (also (cond b (Some a) None) rest) ≡ last_or (cond b a q) rest
  unfolding last_or
  last_given = elim b as (λ c. last_or q (also (cond c (Some a) None) rest) ≡ last_or (cond c a q) rest) [ true ↦ refl | false ↦ refl ]

-- point v becomes q: a field of the points, whether they have one, and what lines make of it
module _ {A : Type 0} (φ : Point → A) (d : Network) (v : ℕ) (q : Point) (w : Within (point_count d) v) where
  -- the point u then
  abbrev new : ℕ → Point
  new u = nth (put d.points v q) u no_point

  field_put : (u : ℕ) → φ (new u) ≡ cond (eqb v u) (φ q) (φ (point d u))
  field_put u =
      ⊎_elim
      (λ (e : v ≡ u). ap (λ x. φ (new x)) (sym e) ∙ ap φ (nth_put_same d.points v q no_point w) ∙ sym (cond-true (eqb v u) (φ q) _ (eq-eqb v u e)))
      (λ (ne : v ≡ u → ⊥). ap φ (nth_put_other d.points v u q no_point (λ e. ne (sym e))) ∙ sym (cond-false (eqb v u) (φ q) _ (ne_eqb v u ne)))
      (cases_eq v u)

  field_kept : φ q ≡ φ (point d v) → (u : ℕ) → φ (new u) ≡ φ (point d u)
  field_kept e u = field_put u ∙ cond_same (eqb v u) _ _ (λ t. e ∙ ap (λ x. φ (point d x)) (eqb-true v u t))

  pub put_counted : (has : A → Bool) → has (φ q) ≡ true → has (φ (point d v)) ≡ false → (u : ℕ) (rest : List A)
      → only (has (φ (point d u))) 1 + length (also (cond (eqb v u) (Some (φ q)) None) rest) ≡ only (has (φ (new u))) 1 + length rest
  put_counted has ya nq u rest =
      count_given (eqb v u) (φ q) (φ (point d u)) rest has ya (λ t. subst (λ x. has (φ (point d x)) ≡ false) (eqb-true v u t) nq)
      ∙ ap (λ x. only (has x) 1 + length rest) (sym (field_put u))

  pub put_last : (u : ℕ) (rest : List A) → last_or (φ (point d u)) (also (cond (eqb v u) (Some (φ q)) None) rest) ≡ last_or (φ (new u)) rest
  put_last u rest = last_given (eqb v u) (φ q) (φ (point d u)) rest ∙ ap (λ x. last_or x rest) (sym (field_put u))

  pub kept_counted : (has : A → Bool) → φ q ≡ φ (point d v) → (u : ℕ) (rest : List A) → only (has (φ (point d u))) 1 + length rest ≡ only (has (φ (new u))) 1 + length rest
  kept_counted has e u rest = ap (λ x. only (has x) 1 + length rest) (sym (field_kept e u))

  pub kept_last : φ q ≡ φ (point d v) → (u : ℕ) (rest : List A) → last_or (φ (point d u)) rest ≡ last_or (φ (new u)) rest
  kept_last e u rest = ap (λ x. last_or x rest) (sym (field_kept e u))

-- how many points pass a test of their marks, once point v, which did not, is q
module _ (t : Mark → Bool) (d : Network) (v : ℕ) (q : Point) (w : Within (point_count d) v) where
  abbrev written : Network
  written = record { points = put d.points v q; runs = d.runs }

  abbrev passing : Network → ℕ
  passing e = count_to (point_count e) (λ u. t (point e u).mark)

  same_count : (g : ℕ → ℕ) → ((u : ℕ) → only (t (point written u).mark) 1 ≡ g u) → passing written ≡ sum_to (point_count d) g
  same_count g h = ap (λ k. count_to k (λ u. t (point written u).mark)) (length_put d.points v q) ∙ sum_same (point_count d) _ g (λ u i. h u)

  one_more : (u : ℕ) → (v ≡ u → t (point d u).mark ≡ false)
      → only (t (cond (eqb v u) q.mark (point d u).mark)) 1 ≡ only (t (point d u).mark) 1 + only (eqb u v) (only (t q.mark) 1)
  one_more u free =
      ⊎_elim
      (λ (e : v ≡ u). rw (eq-eqb v u e, eq-eqb u v (sym e), free e) (omega arith))
      (λ (ne : v ≡ u → ⊥). rw (ne_eqb v u ne, ne_eqb u v (λ x. ne (sym x))) (omega arith))
      (cases_eq v u)

  count_put : t (point d v).mark ≡ false → passing written ≡ passing d + only (t q.mark) 1
  count_put free =
      same_count (λ u. only (t (point d u).mark) 1 + only (eqb u v) (only (t q.mark) 1))
      (λ u. ap (λ x. only (t x) 1) (field_put (λ x. x.mark) d v q w u) ∙ one_more u (λ e. subst (λ x. t (point d x).mark ≡ false) e free))
      ∙ sum_plus (point_count d) (λ u. only (t (point d u).mark) 1) (λ u. only (eqb u v) (only (t q.mark) 1))
      ∙ ap (λ k. passing d + k) (sum_at (point_count d) v (λ u. only (t q.mark) 1) w)

  count_kept : q.mark ≡ (point d v).mark → passing written ≡ passing d
  count_kept e = same_count (λ u. only (t (point d u).mark) 1) (λ u. ap (λ x. only (t x) 1) (field_kept (λ x. x.mark) d v q w e u))

-- whether a mark is that of the role
abbrev pub is_role : Role → Mark → Bool
is_role role.Rack m = is_rack m
is_role role.Bar m = is_bar m

role_none : (r : Role) (m : Mark) → is_marked m ≡ false → is_role r m ≡ false
role_none r m e = grind arith

pub role_put : (r : Role) (d : Network) (v : ℕ) (q : Point) → Within (point_count d) v → is_marked (point d v).mark ≡ false
    → role_count r (record { points = put d.points v q; runs = d.runs }) ≡ role_count r d + only (is_role r q.mark) 1
role_put role.Rack d v q w free = count_put is_rack d v q w (role_none role.Rack _ free)
role_put role.Bar d v q w free = count_put is_bar d v q w (role_none role.Bar _ free)

pub role_kept : (r : Role) (d : Network) (v : ℕ) (q : Point) → Within (point_count d) v → q.mark ≡ (point d v).mark
    → role_count r (record { points = put d.points v q; runs = d.runs }) ≡ role_count r d
role_kept role.Rack d v q w e = count_kept is_rack d v q w e
role_kept role.Bar d v q w e = count_kept is_bar d v q w e

pub role_laid : (r : Role) (d : Network) (x : Run) → role_count r d ≡ role_count r (laid d x)
role_laid role.Rack d x = refl
role_laid role.Bar d x = refl

pub role_marked : (r : Role) → is_marked (role_mark r) ≡ true
role_marked role.Rack = refl
role_marked role.Bar = refl
