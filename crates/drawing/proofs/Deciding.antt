-- Each test decides what it tests.
use Rattle.std.proofs.Common.{◌≡◌, ℕ, zero, suc, ◌+◌, Bool, true, false, not, ◌||◌, eqb, List, ℤ, pos, ◌<ℤ◌, is_some, Some, None, Decides, Option, refl, ap, ◌∙◌, ⊎_elim, arith}
use mathlib.Core.Bool.{false≢true}
use lib.Signed.{lt_z}
use Rattle.std.proofs.lemmas.Int.{ints}
use Rattle.std.proofs.lemmas.Bool.{and_parts, and_from, leb-true, le-leb, eqb-true, eq-eqb, ne_eqb, cases_eq, not-true, not_from_false, true≢false}
use Rattle.std.proofs.lemmas.Bool.Decides.{nat_tests}
use Rattle.drawing.specs.declared.Kind.{Kind}
use Rattle.drawing.specs.declared.Kind.TheVariants.{Lead, Link}
use Rattle.drawing.specs.declared.Run.{Run}
use Rattle.drawing.specs.declared.Label.{Label}
use Rattle.drawing.specs.Counts.{Within, every_to}
use Rattle.drawing.specs.Drawings.{Network, Lawful, LawfulRun, Admissible, point_count, run_count, point, run, is_rack, is_bar, is_lawful_run, is_lawful, is_admissible}
use Rattle.drawing.specs.Plans.{Plan, Feasible, InRange, Under, flow, supply, delivery, entering, leaving}
use Rattle.drawing.specs.Labels.{is_tight, label, Labelling, worth, Cut, Shortage}
use Rattle.drawing.specs.Answers.{Answer, Planned, Short, Right}
use Rattle.drawing.specs.Tests.{same_z, is_in_range, is_under, is_kept, is_feasible, is_labelling, is_cut, is_shortage, is_right}
use Rattle.drawing.proofs.Sums.{earlier, last}

-- a test that holds at each of 1 .. n
pub every : (n : ℕ) (t : ℕ → Bool) → every_to n t ≡ true → (k : ℕ) → Within n k → t k ≡ true
every zero t e k w = let no_such : ⊥ = omega arith in absurd no_such
every (suc n) t e k w =
    let (below, here) = and_parts (every_to n t) (t (suc n)) e in
    ⊎_elim (λ (q : k ≡ suc n). ap t q ∙ here) (λ (q : k ≡ suc n → ⊥). every n t below k (omega arith)) (cases_eq k (suc n))

pub every_from : (n : ℕ) (t : ℕ → Bool) → ((k : ℕ) → Within n k → t k ≡ true) → every_to n t ≡ true
every_from zero t h = refl
every_from (suc n) t h = and_from _ _ (every_from n t (λ k w. h k (earlier w))) (h (suc n) (last n))

pub decides_every : (n : ℕ) (t : ℕ → Bool) (P : ℕ → Type 0) → ((k : ℕ) → Decides (t k) (P k)) → Decides (every_to n t) ((k : ℕ) → Within n k → P k)
decides_every n t P each = (λ e k w. (each k).0 (every n t e k w), λ h. every_from n t (λ k w. (each k).1 (h k w)))

link_lower_from : (b : Bool) (lo : ℕ) → (b ≡ true → lo ≡ 0) → (not b || eqb lo 0) ≡ true
link_lower_from true lo h = eq-eqb lo 0 (h refl)
link_lower_from false lo h = refl

decides_lawful_run : (n : ℕ) (r : Run) → Decides (is_lawful_run n r) (LawfulRun n r)
decides_lawful_run n r = (
  λ e. record { tail_in = grind (arith, nat_tests); head_in = grind (arith, nat_tests); apart = grind (arith, nat_tests); ordered = grind (arith, nat_tests); link_lower = grind (arith, nat_tests) },
  λ h. and_from _ _
      (and_from _ _
      (and_from _ _
      (and_from _ _ (and_from _ _ (and_from _ _ (le-leb _ _ h.tail_in.0) (le-leb _ _ h.tail_in.1)) (le-leb _ _ h.head_in.0)) (le-leb _ _ h.head_in.1))
      (not_from_false _ (ne_eqb _ _ h.apart)))
      (le-leb _ _ h.ordered))
      (link_lower_from _ _ h.link_lower),
)

pub decides_lawful : (d : Network) → Decides (is_lawful d) (Lawful d)
decides_lawful d =
    let each = decides_every (run_count d) (λ k. is_lawful_run (point_count d) (run d k)) (λ k. LawfulRun (point_count d) (run d k)) (λ k. decides_lawful_run _ _) in (
      λ e. let (some, rest) = and_parts _ _ e in record { some_point = leb-true _ _ some; each_run = each.0 rest },
      λ h. and_from _ _ (le-leb _ _ h.some_point) (each.1 h.each_run),
    )

pub decides_admissible : (d : Network) → Decides (is_admissible d) (Admissible d)
decides_admissible d = (
  λ e.
      let (e1, runs?) = and_parts _ _ e in
      let (lawful?, points?) = and_parts _ _ e1 in
      record { lawful = (decides_lawful d).0 lawful?; few_points = leb-true _ _ points?; few_runs = leb-true _ _ runs? },
  λ h. and_from _ _ (and_from _ _ ((decides_lawful d).1 h.lawful) (le-leb _ _ h.few_points)) (le-leb _ _ h.few_runs),
)

decides_in_range : (k : Kind) (lo up : ℕ) (f : ℤ) → Decides (is_in_range k lo up f) (InRange k lo up f)
decides_in_range Lead lo up f = (λ e. grind (arith, ints), λ h. grind (arith, ints))
decides_in_range Link lo up f = (leb-true _ _, le-leb _ _)

decides_under : (o : Option ℕ) (x : ℕ) → Decides (is_under o x) (Under o x)
decides_under None x = (λ e. tt, λ h. refl)
decides_under (Some l) x = (leb-true x l, le-leb x l)

-- `a` or else x is 0
decides_unless : (a : Bool) (x : ℕ) → Decides (a || eqb x 0) (a ≡ false → x ≡ 0)
decides_unless true x = (λ e h. absurd (true≢false h), λ h. refl)
decides_unless false x = (λ e h. eqb-true x 0 e, λ h. eq-eqb x 0 (h refl))

-- tight points are limited
decides_tight : (a b : Bool) → Decides (not a || b) (a ≡ true → b ≡ true)
decides_tight true b = (λ e h. e, λ h. h refl)
decides_tight false b = (λ e h. absurd (false≢true h), λ h. refl)

abbrev Kept : Network → Plan → ℕ → Type 0
Kept d p v =
    (is_rack (point d v).mark ≡ false → supply p v ≡ 0) × (is_bar (point d v).mark ≡ false → delivery p v ≡ 0)
    × (entering d p v + supply p v ≡ leaving d p v + delivery p v) × Under (point d v).limit (entering d p v + supply p v)

decides_kept : (d : Network) (p : Plan) (v : ℕ) → Decides (is_kept d p v) (Kept d p v)
decides_kept d p v =
    let supplied = decides_unless (is_rack (point d v).mark) (supply p v) in
    let delivered = decides_unless (is_bar (point d v).mark) (delivery p v) in
    let limited = decides_under (point d v).limit (entering d p v + supply p v) in (
      λ e.
          let (e2, limit?) = and_parts _ _ e in
          let (e1, balance?) = and_parts _ _ e2 in
          let (rack?, bar?) = and_parts _ _ e1 in
          (supplied.0 rack?, delivered.0 bar?, eqb-true _ _ balance?, limited.0 limit?),
      λ h. and_from _ _ (and_from _ _ (and_from _ _ (supplied.1 h.0) (delivered.1 h.1)) (eq-eqb _ _ h.2)) (limited.1 h.3),
    )

pub decides_feasible : (d : Network) (p : Plan) → Decides (is_feasible d p) (Feasible d p)
decides_feasible d p =
    let ranges = decides_every (run_count d) (λ k. is_in_range (run d k).kind (run d k).lower (run d k).upper (flow p k))
    (λ k. InRange (run d k).kind (run d k).lower (run d k).upper (flow p k)) (λ k. decides_in_range _ _ _ _) in
    let points = decides_every (point_count d) (is_kept d p) (Kept d p) (decides_kept d p) in (
      λ e.
          let (e1, points?) = and_parts _ _ e in
          let (shape, ranges?) = and_parts _ _ e1 in
          let (s1, deliveries?) = and_parts _ _ shape in
          let (flows?, supplies?) = and_parts _ _ s1 in
          record {
            flow_count = eqb-true _ _ flows?;
            supply_count = eqb-true _ _ supplies?;
            delivery_count = eqb-true _ _ deliveries?;
            racks_supply = λ v w. (points.0 points? v w).0;
            bars_deliver = λ v w. (points.0 points? v w).1;
            in_range = ranges.0 ranges?;
            balanced = λ v w. (points.0 points? v w).2;
            limited = λ v w. (points.0 points? v w).3;
          },
      λ h. and_from _ _
          (and_from _ _
          (and_from _ _ (and_from _ _ (eq-eqb _ _ h.flow_count) (eq-eqb _ _ h.supply_count)) (eq-eqb _ _ h.delivery_count))
          (ranges.1 h.in_range))
          (points.1 (λ v w. (h.racks_supply v w, h.bars_deliver v w, h.balanced v w, h.limited v w))),
    )

pub decides_labelling : (d : Network) (ls : List Label) → Decides (is_labelling d ls) (Labelling d ls)
decides_labelling d ls =
    let tight = decides_every (point_count d) (λ v. not (is_tight (label ls v)) || is_some (point d v).limit)
    (λ v. is_tight (label ls v) ≡ true → is_some (point d v).limit ≡ true) (λ v. decides_tight _ _) in (
      λ e. let (count, each) = and_parts _ _ e in record { label_count = eqb-true _ _ count; tight_limited = tight.0 each },
      λ h. and_from _ _ (eq-eqb _ _ h.label_count) (tight.1 h.tight_limited),
    )

pub decides_cut : (d : Network) (ls : List Label) → Decides (is_cut d ls) (Cut d ls)
decides_cut d ls = (
  λ e.
      let (e1, bar) = and_parts _ _ e in
      let (marked, rack) = and_parts _ _ e1 in
      record { labelled = (decides_labelling d ls).0 marked; no_far_rack = not-true _ rack; no_near_bar = not-true _ bar },
  λ h. and_from _ _ (and_from _ _ ((decides_labelling d ls).1 h.labelled) (not_from_false _ h.no_far_rack)) (not_from_false _ h.no_near_bar),
)

-- a test of order on integers
decides_lt_z : (a b : ℤ) → Decides (lt_z a b) (a <ℤ b)
decides_lt_z a b = (λ e. grind (arith, ints), λ h. grind (arith, ints))

pub decides_same_z : (a b : ℤ) → Decides (same_z a b) (a ≡ b)
decides_same_z a b = (λ e. grind (arith, ints), λ h. grind (arith, ints))

pub decides_shortage : (d : Network) (ls : List Label) → Decides (is_shortage d ls) (Shortage d ls)
decides_shortage d ls = (
  λ e.
      let (e1, both) = and_parts _ _ e in
      let (marked, below) = and_parts _ _ e1 in
      record { labelled = (decides_labelling d ls).0 marked; negative = (decides_lt_z (worth d ls) (pos 0)).0 below; not_both = not-true _ both },
  λ h. and_from _ _ (and_from _ _ ((decides_labelling d ls).1 h.labelled) ((decides_lt_z (worth d ls) (pos 0)).1 h.negative)) (not_from_false _ h.not_both),
)

pub decides_right : (d : Network) (a : Answer) → Decides (is_right d a) (Right d a)
decides_right d (Planned p t ls) = (
  λ e.
      let (e2, equal) = and_parts _ _ e in
      let (e1, cut) = and_parts _ _ e2 in
      let (feasible, sum) = and_parts _ _ e1 in
      ((decides_feasible d p).0 feasible, eqb-true _ _ sum, (decides_cut d ls).0 cut, (decides_same_z _ _).0 equal),
  λ h. and_from _ _ (and_from _ _ (and_from _ _ ((decides_feasible d p).1 h.0) (eq-eqb _ _ h.1)) ((decides_cut d ls).1 h.2)) ((decides_same_z _ _).1 h.3),
)
decides_right d (Short ls) = decides_shortage d ls
