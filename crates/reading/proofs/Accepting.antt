-- When a line after the head is accepted: its checks as facts.
use Rattle.std.proofs.Common.{◌≡◌, ℕ, ◌<◌, ◌≤◌, Bool, true, false, not, ◌&&◌, ◌||◌, eqb, ltb, is_some, Some, None, Option, sym, refl, ap, arith}
use Rattle.std.proofs.lemmas.Bool.{and_parts, and_from, or_parts, leb-true, le-leb, lt-ltb, ltb-true, ltb-false, le-ltb, not-true, not_from_false, eqb-false, ne_eqb, true≢false}
use Rattle.std.proofs.lemmas.Bool.Decides.{nat_tests}
use Rattle.drawing.specs.declared.Run.{Run}
use Rattle.drawing.specs.declared.Refusal.{Refusal}
use Rattle.drawing.specs.Counts.{Within}
use Rattle.drawing.specs.Drawings.{Network, point_count, run_count, point, LawfulRun}
use Rattle.rig_drawing.specs.Changes.{check, is_point}
use Rattle.rig_lines.specs.declared.Form.{Form}
use Rattle.rig_lines.specs.declared.Form.TheVariants.{Rig, Max}
use Rattle.rig_lines.specs.declared.Role.{Role}
use Rattle.rig_lines.specs.declared.Item.{Item}
use Rattle.rig_lines.specs.declared.Item.TheVariants as item
use Rattle.reading.specs.Given.{lead_of, link_of}
use Rattle.reading.specs.Reading.{is_max, is_marked, role_count, run_refusal, line_refusal, head_refusal}
use Rattle.reading.specs.Describing.{RigRun}

some_not_none : {A P : Type 0} (a : A) → Some a ≡ None → P
some_not_none a e = let z : ◌≡◌ {A = ℕ} 0 1 = cc in let no_such : ⊥ = omega arith in absurd no_such

pub rig_not_max : {P : Type 0} → Rig ≡ Max → P
rig_not_max e = let z : ◌≡◌ {A = ℕ} 0 1 = cc in let no_such : ⊥ = omega arith in absurd no_such

-- a check passes, and those after it
check_parts : (b : Bool) (e : Refusal) (rest : Option Refusal) → check b e rest ≡ None → (b ≡ true) × (rest ≡ None)
check_parts true e rest h = (refl, h)
check_parts false e rest h = some_not_none e h

check_from : (b : Bool) (e : Refusal) (rest : Option Refusal) → b ≡ true → rest ≡ None → check b e rest ≡ None
check_from b e rest p q = rw (p, q)

-- the forms as tests
max_from : (f : Form) → is_max f ≡ true → f ≡ Max
max_from Rig e = absurd (true≢false (sym e))
max_from Max e = refl

rig_from : (f : Form) → not (is_max f) ≡ true → f ≡ Rig
rig_from Rig e = refl
rig_from Max e = absurd (true≢false (sym e))

point_within : (d : Network) (v : ℕ) → is_point d v ≡ true → Within (point_count d) v
point_within d v e = let (low, high) = and_parts _ _ e in (leb-true _ _ low, leb-true _ _ high)

within_point : (d : Network) (v : ℕ) → Within (point_count d) v → is_point d v ≡ true
within_point d v w = and_from _ _ (le-leb _ _ w.0) (le-leb _ _ w.1)

-- a head
pub head_accepted : (n m : ℕ) → head_refusal n m ≡ None → (m ≤ 160) × Within 60 n
head_accepted n m h =
    let (few, count) = check_parts _ _ _ h in
    let (range, _) = check_parts _ _ _ count in
    let (low, high) = and_parts _ _ range in
    (leb-true _ _ few, (leb-true _ _ low, leb-true _ _ high))

pub head_accepts : (n m : ℕ) → m ≤ 160 → Within 60 n → head_refusal n m ≡ None
head_accepts n m few w = check_from _ _ _ (le-leb _ _ few) (check_from _ _ _ (and_from _ _ (le-leb _ _ w.0) (le-leb _ _ w.1)) refl)

-- a run can be laid
pub record Layable (m : ℕ) (d : Network) (r : Run) : Type 0 where
  pub announced : run_count d < m
  pub room : run_count d < 160
  pub keeps : RigRun (point_count d) r

link_lower : (link : Bool) (lo : ℕ) → (not link || eqb lo 0) ≡ true → link ≡ true → lo ≡ 0
link_lower link lo e l = grind (arith, nat_tests)

link_lower_from : (link : Bool) (lo : ℕ) → (link ≡ true → lo ≡ 0) → (not link || eqb lo 0) ≡ true
link_lower_from link lo h = grind (arith, nat_tests)

run_accepted : (m : ℕ) (d : Network) (r : Run) → run_refusal m d r ≡ None → Layable m d r
run_accepted m d r h =
    let (few, h1) = check_parts _ _ _ h in
    let (ends, h2) = check_parts _ _ _ h1 in
    let (range, h3) = check_parts _ _ _ h2 in
    let (apart, h4) = check_parts _ _ _ h3 in
    let (space, _) = check_parts _ _ _ h4 in
    let (tail, head) = and_parts _ _ ends in
    let (sizes, link) = and_parts _ _ range in
    let (ordered, small) = and_parts _ _ sizes in
    let law : LawfulRun (point_count d) r = record {
      tail_in = point_within d _ tail;
      head_in = point_within d _ head;
      apart = eqb-false _ _ (not-true _ apart);
      ordered = leb-true _ _ ordered;
      link_lower = link_lower _ _ link;
    } in
    record { announced = ltb-true _ _ few; room = ltb-true _ _ space; keeps = (law, leb-true _ _ small) }

run_accepts : (m : ℕ) (d : Network) (r : Run) → Layable m d r → run_refusal m d r ≡ None
run_accepts m d r h =
    let law = h.keeps.0 in
    check_from _ _ _ (lt-ltb _ _ h.announced)
    (check_from _ _ _ (and_from _ _ (within_point d _ law.tail_in) (within_point d _ law.head_in))
    (check_from _ _ _ (and_from _ _ (and_from _ _ (le-leb _ _ law.ordered) (le-leb _ _ h.keeps.1)) (link_lower_from _ _ law.link_lower))
    (check_from _ _ _ (not_from_false _ (ne_eqb _ _ law.apart))
    (check_from _ _ _ (lt-ltb _ _ h.room) refl))))

-- an n line is no repetition
pub record Markable (f : Form) (d : Network) (v : ℕ) (r : Role) : Type 0 where
  pub plain : is_marked (point d v).mark ≡ false
  pub free : f ≡ Max → role_count r d ≡ 0
  pub inside : Within (point_count d) v

free_role : (f : Form) (n : ℕ) → (is_max f && ltb 0 n) ≡ false → f ≡ Max → n ≡ 0
free_role Rig n e q = rig_not_max q
free_role Max n e q = omega (arith, ltb-false 0 n e)

free_role_from : (f : Form) (n : ℕ) → (f ≡ Max → n ≡ 0) → (is_max f && ltb 0 n) ≡ false
free_role_from Rig n h = refl
free_role_from Max n h = le-ltb 0 n (omega (arith, h refl))

mark_accepted : (f : Form) (m : ℕ) (d : Network) (v : ℕ) (r : Role) → line_refusal f m d (item.Role v r) ≡ None → Markable f d v r
mark_accepted f m d v r h =
    let (fresh, rest) = check_parts _ _ _ h in
    let (inside, _) = check_parts _ _ _ rest in
    let (plain, free) = or_parts _ _ (not-true _ fresh) in
    record { plain = plain; free = free_role f _ free; inside = point_within d v inside }

mark_accepts : (f : Form) (m : ℕ) (d : Network) (v : ℕ) (r : Role) → Markable f d v r → line_refusal f m d (item.Role v r) ≡ None
mark_accepts f m d v r h =
    let free = free_role_from f _ h.free in
    check_from _ _ _ (rw (h.plain, free)) (check_from _ _ _ (within_point d v h.inside) refl)

-- an l line is no repetition
pub record Limitable (d : Network) (v c : ℕ) : Type 0 where
  pub unlimited : is_some (point d v).limit ≡ false
  pub inside : Within (point_count d) v
  pub small : c ≤ 9999

limit_accepted : (f : Form) (m : ℕ) (d : Network) (v c : ℕ) → line_refusal f m d (item.Limit v c) ≡ None → (f ≡ Rig) × Limitable d v c
limit_accepted f m d v c h =
    let (form, h1) = check_parts _ _ _ h in
    let (fresh, h2) = check_parts _ _ _ h1 in
    let (inside, h3) = check_parts _ _ _ h2 in
    let (small, _) = check_parts _ _ _ h3 in
    (rig_from f form, record { unlimited = not-true _ fresh; inside = point_within d v inside; small = leb-true _ _ small })

limit_accepts : (f : Form) (m : ℕ) (d : Network) (v c : ℕ) → f ≡ Rig → Limitable d v c → line_refusal f m d (item.Limit v c) ≡ None
limit_accepts f m d v c form h =
    check_from _ _ _ (ap (λ g. not (is_max g)) form)
    (check_from _ _ _ (not_from_false _ h.unlimited) (check_from _ _ _ (within_point d v h.inside) (check_from _ _ _ (le-leb _ _ h.small) refl)))

-- all that the checks of a line ask
abbrev pub Allowed : Form → ℕ → Network → Item → Type 0
Allowed f m d item.Comment = Unit {0}
Allowed f m d (item.Head g n k) = ⊥
Allowed f m d (item.Role v r) = Markable f d v r
Allowed f m d (item.Limit v c) = (f ≡ Rig) × Limitable d v c
Allowed f m d (item.Lead t h lo up) = (f ≡ Rig) × Layable m d (lead_of t h lo up)
Allowed f m d (item.PlainLead t h up) = (f ≡ Max) × Layable m d (lead_of t h 0 up)
Allowed f m d (item.Link t h up) = (f ≡ Rig) × Layable m d (link_of t h up)

pub accepted : (f : Form) (m : ℕ) (d : Network) (x : Item) → line_refusal f m d x ≡ None → Allowed f m d x
accepted f m d item.Comment h = tt
accepted f m d (item.Head g n k) h = some_not_none _ h
accepted f m d (item.Role v r) h = mark_accepted f m d v r h
accepted f m d (item.Limit v c) h = limit_accepted f m d v c h
accepted f m d (item.Lead t hd lo up) h = let (form, rest) = check_parts _ _ _ h in (rig_from f form, run_accepted m d _ rest)
accepted f m d (item.PlainLead t hd up) h = let (form, rest) = check_parts _ _ _ h in (max_from f form, run_accepted m d _ rest)
accepted f m d (item.Link t hd up) h = let (form, rest) = check_parts _ _ _ h in (rig_from f form, run_accepted m d _ rest)

pub accepts : (f : Form) (m : ℕ) (d : Network) (x : Item) → Allowed f m d x → line_refusal f m d x ≡ None
accepts f m d item.Comment h = refl
accepts f m d (item.Head g n k) h = absurd h
accepts f m d (item.Role v r) h = mark_accepts f m d v r h
accepts f m d (item.Limit v c) h = limit_accepts f m d v c h.0 h.1
accepts f m d (item.Lead t hd lo up) h = check_from _ _ _ (ap (λ g. not (is_max g)) h.0) (run_accepts m d _ h.1)
accepts f m d (item.PlainLead t hd up) h = check_from _ _ _ (ap is_max h.0) (run_accepts m d _ h.1)
accepts f m d (item.Link t hd up) h = check_from _ _ _ (ap (λ g. not (is_max g)) h.0) (run_accepts m d _ h.1)
