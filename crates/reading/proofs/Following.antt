-- Lines after the head are accepted one after another just where all of them together keep the rules, and leave what they say.
use Rattle.std.proofs.Common.{◌≡◌, ℕ, suc, ◌+◌, ◌≤◌, Bool, true, false, cond, not, ◌&&◌, ◌||◌, eqb, List, [], ◌∷◌, ◌++◌, length, is_some, Some, None, sym, refl, ap, ◌∙◌, subst, arith}
use Rattle.std.specs.List.{AllByRecursion}
use Rattle.std.proofs.lemmas.List.{append-nil, length-append, ext_get_or}
use Rattle.std.proofs.lemmas.Bool.{and_parts, and_from, eqb-true, eq-eqb, true≢false}
use Rattle.drawing.specs.declared.Point.{Point}
use Rattle.drawing.specs.declared.Run.{Run}
use Rattle.drawing.specs.Counts.{Within, only}
use Rattle.drawing.specs.Drawings.{Network, point_count, point, no_point, rack_count, bar_count}
use Rattle.drawing.proofs.Sums.{only_le}
use Rattle.rig_drawing.proofs.Places.{length_put}
use Rattle.rig_lines.specs.declared.Form.{Form}
use Rattle.rig_lines.specs.declared.Form.TheVariants.{Rig, Max}
use Rattle.rig_lines.specs.declared.Role.{Role}
use Rattle.rig_lines.specs.declared.Role.TheVariants as role
use Rattle.rig_lines.specs.declared.Item.{Item}
use Rattle.rig_lines.specs.declared.Item.TheVariants as item
use Rattle.rig_lines.specs.Codes.{role_letter}
use Rattle.reading.specs.Given.{also, at, gathered, last_or}
use Rattle.reading.specs.Reading.{is_max, is_marked, role_count, line_refusal, rig_after, complete}
use Rattle.reading.specs.Describing.{Knows, InBounds, RigRun}
use Rattle.reading.proofs.Accepting.{Allowed, Layable, accepted, accepts, rig_not_max}
use Rattle.reading.proofs.Loads.{Load, load, next_load}

-- the lines are accepted one after another, and the rig d is complete at their end
unfoldable pub Leaves : Form → ℕ → Network → List Item → Network → Type 0
Leaves f m e [] d = (complete f m e ≡ true) × (e ≡ d)
Leaves f m e (x ∷ xs) d = (line_refusal f m e x ≡ None) × Leaves f m (rig_after e x) xs d

-- a load of n points keeps the rules, and the rig d is what comes out of it
pub record Fits (f : Form) (m n : ℕ) (l : Load) (d : Network) : Type 0 where
  pub marked_once : (v : ℕ) → l.marked v ≤ 1
  pub limited_once : (v : ℕ) → l.limited v ≤ 1
  pub announced : length l.runs ≡ m
  pub terminals : f ≡ Max → (r : Role) → l.roles r ≡ 1
  pub points : point_count d ≡ n
  pub marks : (v : ℕ) → Within n v → (point d v).mark ≡ l.mark v
  pub limits : (v : ℕ) → Within n v → (point d v).limit ≡ l.limit v
  pub runs : d.runs ≡ l.runs

pub record Follows (f : Form) (m : ℕ) (e : Network) (xs : List Item) (d : Network) : Type 0 where
  pub known : AllByRecursion (Knows f) xs
  pub bounded : AllByRecursion (InBounds (point_count e)) xs
  pub fits : Fits f m (point_count e) (load e xs) d

-- the end
both_roles : (r : Role) (d : Network) → rack_count d ≡ 1 → bar_count d ≡ 1 → role_count r d ≡ 1
both_roles role.Rack d a b = a
both_roles role.Bar d a b = b

complete_roles : (f : Form) (d : Network) → (not (is_max f) || (eqb (rack_count d) 1 && eqb (bar_count d) 1)) ≡ true → f ≡ Max → (r : Role) → role_count r d ≡ 1
complete_roles Rig d h e r = rig_not_max e
complete_roles Max d h e r = let (a, b) = and_parts _ _ h in both_roles r d (eqb-true _ _ a) (eqb-true _ _ b)

roles_complete : (f : Form) (d : Network) → (f ≡ Max → (r : Role) → role_count r d ≡ 1) → (not (is_max f) || (eqb (rack_count d) 1 && eqb (bar_count d) 1)) ≡ true
roles_complete Rig d h = refl
roles_complete Max d h = and_from _ _ (eq-eqb _ _ (h refl role.Rack)) (eq-eqb _ _ (h refl role.Bar))

end_fits : (f : Form) (m : ℕ) (d : Network) → complete f m d ≡ true → Fits f m (point_count d) (load d []) d
unfolding gathered last_or
end_fits f m d h =
    let (count, roles) = and_parts _ _ h in
    record {
      marked_once = λ v. omega (arith, only_le (is_marked (point d v).mark) 1);
      limited_once = λ v. omega (arith, only_le (is_some (point d v).limit) 1);
      announced = ap length (append-nil d.runs) ∙ eqb-true _ _ count;
      terminals = λ e r. omega (arith, complete_roles f d roles e r);
      points = refl;
      marks = λ v w. refl;
      limits = λ v w. refl;
      runs = sym (append-nil d.runs);
    }

same_point : (p q : Point) → p.mark ≡ q.mark → p.limit ≡ q.limit → p ≡ q
same_point p q a b = λ i. record { mark = a i; limit = b i }

same_network : (d e : Network) → point_count d ≡ point_count e → ((v : ℕ) → Within (point_count e) v → point d v ≡ point e v) → d.runs ≡ e.runs → d ≡ e
same_network d e n p r =
    let points : d.points ≡ e.points = ext_get_or no_point d.points e.points n (λ i h. p (suc i) (omega arith)) in
    λ i. record { points = points i; runs = r i }

fits_end : (f : Form) (m : ℕ) (e d : Network) → Fits f m (point_count e) (load e []) d → (complete f m e ≡ true) × (e ≡ d)
unfolding gathered last_or
fits_end f m e d h = (
  and_from _ _ (eq-eqb _ _ (ap length (sym (append-nil e.runs)) ∙ h.announced)) (roles_complete f e (λ q r. omega (arith, h.terminals q r))),
  sym (same_network d e h.points (λ v w. same_point _ _ (h.marks v w) (h.limits v w)) (h.runs ∙ append-nil e.runs)),
)

-- one line more
allowed_known : (f : Form) (m : ℕ) (e : Network) (x : Item) → Allowed f m e x → Knows f x × InBounds (point_count e) x
allowed_known f m e item.Comment h = (tt, tt)
allowed_known f m e (item.Head g n k) h = absurd h
allowed_known f m e (item.Role v r) h = (tt, h.inside)
allowed_known f m e (item.Limit v c) h = (h.0, (h.1.inside, h.1.small))
allowed_known f m e (item.Lead t hd lo up) h = (h.0, h.1.keeps)
allowed_known f m e (item.PlainLead t hd up) h = (h.0, h.1.keeps)
allowed_known f m e (item.Link t hd up) h = (h.0, h.1.keeps)

pub points_after : (e : Network) (x : Item) → point_count (rig_after e x) ≡ point_count e
points_after e item.Comment = refl
points_after e (item.Head g n k) = refl
points_after e (item.Role v r) = length_put e.points v _
points_after e (item.Limit v c) = length_put e.points v _
points_after e (item.Lead t hd lo up) = refl
points_after e (item.PlainLead t hd up) = refl
points_after e (item.Link t hd up) = refl

-- the rules ask of a line what its checks ask
fresh : {A : Type 0} (b t : Bool) (a : A) (rest : List A) → t ≡ true → only b 1 + length (also (cond t (Some a) None) rest) ≤ 1 → b ≡ false
fresh true true a rest e h = let no_such : ⊥ = omega arith in absurd no_such
fresh false true a rest e h = refl
fresh b false a rest e h = absurd (true≢false (sym e))

free : (r : Role) (v k : ℕ) (rest : List ℕ) → k + length (also (at (role_letter r) (role_letter r) v) rest) ≡ 1 → k ≡ 0
free role.Rack v k rest h = omega arith
free role.Bar v k rest h = omega arith

layable : (f : Form) (m : ℕ) (e : Network) (r : Run) (rest : List Run) → m ≤ 160 → RigRun (point_count e) r → length (e.runs ++ (r ∷ rest)) ≡ m → Layable m e r
layable f m e r rest few keeps count =
    let total = length-append e.runs (r ∷ rest) in
    record { announced = omega (arith, total); room = omega (arith, total); keeps = keeps }

fits_allowed : (f : Form) (m : ℕ) (e : Network) (x : Item) (xs : List Item) (d : Network) → m ≤ 160
    → Knows f x → InBounds (point_count e) x → Fits f m (point_count e) (load e (x ∷ xs)) d → Allowed f m e x
unfolding gathered
fits_allowed f m e item.Comment xs d few k b h = tt
fits_allowed f m e (item.Head g n j) xs d few k b h = k
fits_allowed f m e (item.Role v r) xs d few k b h =
    record { plain = fresh _ (eqb v v) _ _ (eq-eqb v v refl) (h.marked_once v); free = λ q. free r v _ _ (h.terminals q r); inside = b }
fits_allowed f m e (item.Limit v c) xs d few k b h =
    (k, record { unlimited = fresh _ (eqb v v) _ _ (eq-eqb v v refl) (h.limited_once v); inside = b.0; small = b.1 })
fits_allowed f m e (item.Lead t hd lo up) xs d few k b h = (k, layable f m e _ _ few b h.announced)
fits_allowed f m e (item.PlainLead t hd up) xs d few k b h = (k, layable f m e _ _ few b h.announced)
fits_allowed f m e (item.Link t hd up) xs d few k b h = (k, layable f m e _ _ few b h.announced)

-- both ways
pub leaves_follows : (f : Form) (m : ℕ) (e : Network) (xs : List Item) (d : Network) → Leaves f m e xs d → Follows f m e xs d
unfolding Leaves
leaves_follows f m e [] d h = subst (Follows f m e []) h.1 (record { known = tt; bounded = tt; fits = end_fits f m e h.0 })
leaves_follows f m e (x ∷ xs) d h =
    let a = accepted f m e x h.0 in
    let rest = leaves_follows f m (rig_after e x) xs d h.1 in
    let here = allowed_known f m e x a in
    let n = points_after e x in
    record {
      known = (here.0, rest.known);
      bounded = (here.1, subst (λ k. AllByRecursion (InBounds k) xs) n rest.bounded);
      fits = subst (λ l. Fits f m (point_count e) l d) (sym (next_load f m e x xs a)) (subst (λ k. Fits f m k (load (rig_after e x) xs) d) n rest.fits);
    }

pub follows_leaves : (f : Form) (m : ℕ) (e : Network) (xs : List Item) (d : Network) → m ≤ 160 → Follows f m e xs d → Leaves f m e xs d
unfolding Leaves
follows_leaves f m e [] d few h = fits_end f m e d h.fits
follows_leaves f m e (x ∷ xs) d few h =
    let a = fits_allowed f m e x xs d few h.known.0 h.bounded.0 h.fits in
    let n = sym (points_after e x) in
    let rest : Follows f m (rig_after e x) xs d = record {
      known = h.known.1;
      bounded = subst (λ k. AllByRecursion (InBounds k) xs) n h.bounded.1;
      fits = subst (λ k. Fits f m k (load (rig_after e x) xs) d) n (subst (λ l. Fits f m (point_count e) l d) (next_load f m e x xs a) h.fits);
    } in
    (accepts f m e x a, follows_leaves f m (rig_after e x) xs d few rest)
