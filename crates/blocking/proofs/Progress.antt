-- A push from the source moves something where the sink has a level.
use Rattle.std.proofs.Common.{◌≡◌, ℕ, zero, suc, ◌+◌, ◌-◌, ◌<◌, ◌≤◌, min, true, ◌&&◌, eqb, ltb, ◌≢◌, ◌⊎◌, List, length, get_or, set, sym, refl, ap, ◌∙◌, subst, inl, inr, ⊎_elim, arith, length-set, get_or-set_other, get_or-set_same}
use Rattle.std.proofs.lemmas.Bool.{eqb-true, eqb-false, lt-ltb, cases_eq, cases_lt, cond_both, eq-eqb, and_from, and_parts, ltb-true, true≢false}
use Rattle.std.proofs.lemmas.List.{get_or_past, set-get_or}
use Rattle.residual.specs.Net.{mate_of, head_of, tail_of, before, Started, moved}
use Rattle.blocking.specs.Push.{Out, apt, taken, scans, pushes}
use Rattle.residual.specs.Layers.{Layered}

module _ (hs ls : List ℕ) (P : ℕ → ℕ → List ℕ → List ℕ → Out) (v lv : ℕ) where
  taken_under : (k left amount : ℕ) (o : Out) (more : ℕ → List ℕ → List ℕ → Out) → ((l : ℕ) (r c : List ℕ) → (more l r c).2 ≤ l) → (taken v k left amount o more).2 ≤ left
  unfolding taken
  taken_under k left amount o more h =
      let got : ℕ = amount - o.2 in
      cond_both (eqb (left - got) 0) (moved o.0 k got, set o.1 v (suc k), 0) (more (left - got) (moved o.0 k got) o.1) (λ (x : Out). x.2 ≤ left)
      (λ t. omega arith) (λ t. let q = h (left - got) (moved o.0 k got) o.1 in omega arith)

  scans_under : (k left : ℕ) (rs cs : List ℕ) → (scans hs ls P v lv k left rs cs).2 ≤ left
  unfolding scans
  scans_under zero left rs cs = omega arith
  scans_under (suc k) left rs cs =
      cond_both (apt hs ls v lv k rs) _ _ (λ (x : Out). x.2 ≤ left)
      (λ t. taken_under k left _ _ _ (λ l r c. scans_under k l r c))
      (λ t. scans_under k left rs cs)

pub pushes_under : (hs ls : List ℕ) (sink top d v lim : ℕ) (rs cs : List ℕ) → (pushes hs ls sink top d v lim rs cs).2 ≤ lim
unfolding pushes
pushes_under hs ls sink top zero v lim rs cs = cond_both (eqb v sink) 0 lim (λ (x : ℕ). x ≤ lim) (λ t. omega arith) (λ t. omega arith)
pushes_under hs ls sink top (suc d) v lim rs cs = scans_under hs ls (pushes hs ls sink top d) v (top - d) (get_or cs v 0) lim rs cs

apt_true : (hs ls : List ℕ) (v lv k : ℕ) (rs : List ℕ) → tail_of hs k ≡ v → 0 < get_or rs k 0 → get_or ls (head_of hs k) 0 ≡ lv → apt hs ls v lv k rs ≡ true
unfolding apt
apt_true hs ls v lv k rs t w l = and_from _ _ (eq-eqb (tail_of hs k) v t) (and_from _ _ (lt-ltb 0 (get_or rs k 0) w) (eq-eqb (get_or ls (head_of hs k) 0) lv l))

apt_wide : (hs ls : List ℕ) (v lv k : ℕ) (rs : List ℕ) → apt hs ls v lv k rs ≡ true → (0 < get_or rs k 0) × (get_or ls (head_of hs k) 0 ≡ lv)
unfolding apt
apt_wide hs ls v lv k rs t =
    let parts = and_parts (eqb (tail_of hs k) v) (ltb 0 (get_or rs k 0) && eqb (get_or ls (head_of hs k) 0) lv) t in
    let wide = and_parts (ltb 0 (get_or rs k 0)) (eqb (get_or ls (head_of hs k) 0) lv) parts.1 in
    (ltb-true 0 (get_or rs k 0) wide.0, eqb-true (get_or ls (head_of hs k) 0) lv wide.1)

-- an arc that leaves v lies before where v's chain starts
before_past : (hs : List ℕ) (v a : ℕ) → tail_of hs a ≡ v → (k : ℕ) → a < k → a < before hs v k
unfolding before
before_past hs v a tv zero h = absurd (let q : ⊥ = omega arith in q)
before_past hs v a tv (suc k) h =
    cond_both (eqb (tail_of hs k) v) (suc k) (before hs v k) (λ (x : ℕ). a < x)
    (λ t. h)
    (λ t.
    elim (cases_eq a k) [
      | inl e ↦ absurd (eqb-false (tail_of hs k) v t (subst (λ (x : ℕ). tail_of hs x ≡ v) e tv))
      | inr ne ↦ before_past hs v a tv k (omega arith)
    ])

moved_none : (rs : List ℕ) (k : ℕ) → moved rs k 0 ≡ rs
unfolding moved
moved_none rs k =
    let a : set rs k (get_or rs k 0 - 0) ≡ rs = (let z : get_or rs k 0 - 0 ≡ get_or rs k 0 = omega arith in ap (set rs k) z) ∙ set-get_or rs k 0 in
    let one : List ℕ = set rs k (get_or rs k 0 - 0) in
    let b : set one (mate_of k) (get_or one (mate_of k) 0 + 0) ≡ one = (let z : get_or one (mate_of k) 0 + 0 ≡ get_or one (mate_of k) 0 = omega arith in ap (set one (mate_of k)) z) ∙ set-get_or one (mate_of k) 0 in
    b ∙ a

get_or_zeroed : (cs : List ℕ) (v : ℕ) → get_or (set cs v 0) v 0 ≡ 0
get_or_zeroed cs v =
    ⊎_elim (λ h. get_or-set_same cs v 0 0 h) (λ h. let l = length-set cs v 0 in get_or_past (set cs v 0) v 0 (omega (arith, l))) (cases_lt v (length cs))

zeroed_keeps : (cs : List ℕ) (v u : ℕ) → get_or cs u 0 ≡ 0 → get_or (set cs v 0) u 0 ≡ 0
zeroed_keeps cs v u h = ⊎_elim (λ e. rw e (get_or_zeroed cs v)) (λ ne. get_or-set_other cs v u 0 0 ne ∙ h) (cases_eq u v)

module _ (hs ls : List ℕ) (sink top : ℕ) (at_top : get_or ls sink 0 ≡ top) where
  -- no push from u has a way on
  record Blocked (cs : List ℕ) (u : ℕ) : Type 0 where
    not_sink : u ≢ sink
    spent : (get_or ls u 0 ≡ top) ⊎ (get_or cs u 0 ≡ 0)

  -- each open arc one level on that the current arcs have passed goes to a blocked point
  abbrev Closed : (rs cs : List ℕ) → Type 0
  Closed rs cs = (a : ℕ) → a < length hs → get_or ls (tail_of hs a) 0 < top → get_or cs (tail_of hs a) 0 ≤ a → 0 < get_or rs a 0 → get_or ls (head_of hs a) 0 ≡ get_or ls (tail_of hs a) 0 + 1 → Blocked cs (head_of hs a)

  record Idle (v : ℕ) (rs cs : List ℕ) (o : Out) : Type 0 where
    same : o.0 ≡ rs
    closed : Closed rs o.1
    mono : (u : ℕ) → get_or cs u 0 ≡ 0 → get_or o.1 u 0 ≡ 0
    blocked : Blocked o.1 v

  blocked_mono : (cs ds : List ℕ) → ((u : ℕ) → get_or cs u 0 ≡ 0 → get_or ds u 0 ≡ 0) → (u : ℕ) → Blocked cs u → Blocked ds u
  blocked_mono cs ds m u b = record { not_sink = b.not_sink; spent = ⊎_elim (λ x. inl x) (λ x. inr (m u x)) b.spent }

  -- the arcs from k on that leave v
  abbrev Passed : (v k : ℕ) (rs cs : List ℕ) → Type 0
  Passed v k rs cs = (a : ℕ) → a < length hs → tail_of hs a ≡ v → k ≤ a → 0 < get_or rs a 0 → get_or ls (head_of hs a) 0 ≡ get_or ls v 0 + 1 → Blocked cs (head_of hs a)

  taken_idle : (v k left amount : ℕ) (rs cs : List ℕ) (o : Out) (more : ℕ → List ℕ → List ℕ → Out) → 0 < left → amount ≤ left → o.2 ≤ amount → (o.2 ≡ amount → Idle (head_of hs k) rs cs o) → ((l : ℕ) (r c : List ℕ) → (more l r c).2 ≤ l) → ((ds : List ℕ) → ((u : ℕ) → get_or cs u 0 ≡ 0 → get_or ds u 0 ≡ 0) → Closed rs ds → Blocked ds (head_of hs k) → (more left rs ds).2 ≡ left → Idle v rs ds (more left rs ds)) → (taken v k left amount o more).2 ≡ left → Idle v rs cs (taken v k left amount o more)
  unfolding taken
  taken_idle v k left amount rs cs o more pos al ol io under im =
      let got : ℕ = amount - o.2 in
      let on : List ℕ = moved o.0 k got in
      cond_both (eqb (left - got) 0) (on, set o.1 v (suc k), 0) (more (left - got) on o.1) (λ (x : Out). x.2 ≡ left → Idle v rs cs x)
      (λ t e. absurd (let q : ⊥ = omega arith in q))
      (λ t e.
      let u = under (left - got) on o.1 in
      let none : got ≡ 0 = omega arith in
      let i = io (omega arith) in
      let rest : left - got ≡ left = omega arith in
      let on-rs : on ≡ rs = ap (λ (g : ℕ). moved o.0 k g) none ∙ moved_none o.0 k ∙ i.same in
      let m : more (left - got) on o.1 ≡ more left rs o.1 = ap (λ (l : ℕ). more l on o.1) rest ∙ ap (λ (r : List ℕ). more left r o.1) on-rs in
      let j = im o.1 i.mono i.closed i.blocked (sym (ap (λ (x : Out). x.2) m) ∙ e) in
      let k : Idle v rs cs (more left rs o.1) = record { same = j.same; closed = j.closed; mono = λ w h. j.mono w (i.mono w h); blocked = j.blocked } in
      subst (Idle v rs cs) (sym m) k)

  scans_idle : (P : ℕ → ℕ → List ℕ → List ℕ → Out) (v : ℕ) → get_or ls v 0 < top → ((w lim : ℕ) (rs cs : List ℕ) → (P w lim rs cs).2 ≤ lim) → ((w lim : ℕ) (rs cs : List ℕ) → 0 < lim → get_or ls w 0 ≡ suc (get_or ls v 0) → Closed rs cs → (P w lim rs cs).2 ≡ lim → Idle w rs cs (P w lim rs cs)) → (k left : ℕ) (rs cs : List ℕ) → 0 < left → Closed rs cs → Passed v k rs cs → (scans hs ls P v (suc (get_or ls v 0)) k left rs cs).2 ≡ left → Idle v rs cs (scans hs ls P v (suc (get_or ls v 0)) k left rs cs)
  unfolding scans
  scans_idle P v below under idle zero left rs cs pos cl pa = λ e. record {
    same = refl;
    closed = λ a ain low past wide up.
        blocked_mono cs (set cs v 0) (zeroed_keeps cs v) (head_of hs a)
        (elim (cases_eq (tail_of hs a) v) [
          | inl q ↦ pa a ain q (omega arith) wide (subst (λ (x : ℕ). get_or ls (head_of hs a) 0 ≡ get_or ls x 0 + 1) q up)
          | inr ne ↦ cl a ain low (let g = get_or-set_other cs v (tail_of hs a) 0 0 ne in omega arith) wide up
        ]);
    mono = zeroed_keeps cs v;
    blocked = record { not_sink = λ q. let z = ap (λ (x : ℕ). get_or ls x 0) q in omega arith; spent = inr (get_or_zeroed cs v) };
  }
  scans_idle P v below under idle (suc k) left rs cs pos cl pa =
      cond_both (apt hs ls v (suc (get_or ls v 0)) k rs) _ _ (λ (x : Out). x.2 ≡ left → Idle v rs cs x)
      (λ t e.
      let w = apt_wide hs ls v (suc (get_or ls v 0)) k rs t in
      let amount : ℕ = min left (get_or rs k 0) in
      let wide = w.0 in
      taken_idle v k left amount rs cs (P (head_of hs k) amount rs cs) (λ l r c. scans hs ls P v (suc (get_or ls v 0)) k l r c) pos (omega arith)
      (under (head_of hs k) amount rs cs)
      (λ q. idle (head_of hs k) amount rs cs (omega arith) w.1 cl q)
      (λ l r c. scans_under hs ls P v (suc (get_or ls v 0)) k l r c)
      (λ ds mono cl' bl q.
      scans_idle P v below under idle k left rs ds pos cl'
      (λ a ain tv ka wa up.
      elim (cases_eq a k) [
        | inl s ↦ subst (λ (x : ℕ). Blocked ds (head_of hs x)) (sym s) bl
        | inr ne ↦ blocked_mono cs ds mono (head_of hs a) (pa a ain tv (omega arith) wa up)
      ])
      q)
      e)
      (λ t e.
      scans_idle P v below under idle k left rs cs pos cl
      (λ a ain tv ka wa up.
      elim (cases_eq a k) [
        | inl s ↦
            absurd (true≢false (sym (apt_true hs ls v (suc (get_or ls v 0)) k rs (subst (λ (x : ℕ). tail_of hs x ≡ v) s tv) (subst (λ (x : ℕ). 0 < get_or rs x 0) s wa) (let z = subst (λ (x : ℕ). get_or ls (head_of hs x) 0 ≡ get_or ls v 0 + 1) s up in omega arith)) ∙ t))
        | inr ne ↦ pa a ain tv (omega arith) wa up
      ])
      e)

  pushes_idle : (d v lim : ℕ) (rs cs : List ℕ) → get_or ls v 0 + d ≡ top → 0 < lim → Closed rs cs → (pushes hs ls sink top d v lim rs cs).2 ≡ lim → Idle v rs cs (pushes hs ls sink top d v lim rs cs)
  unfolding pushes
  pushes_idle zero v lim rs cs t pos cl =
      cond_both (eqb v sink) 0 lim (λ (x : ℕ). x ≡ lim → Idle v rs cs (rs, cs, x))
      (λ q e. absurd (let b : ⊥ = omega arith in b))
      (λ q e. record { same = refl; closed = cl; mono = λ u h. h; blocked = record { not_sink = eqb-false v sink q; spent = inl (omega arith) } })
  pushes_idle (suc d) v lim rs cs t pos cl =
      let up : top - d ≡ suc (get_or ls v 0) = omega arith in
      let below : get_or ls v 0 < top = omega arith in
      rw up
      (scans_idle (pushes hs ls sink top d) v below (pushes_under hs ls sink top d)
      (λ w lim' rs' cs' pos' lw cl' e'. pushes_idle d w lim' rs' cs' (omega arith) pos' cl' e')
      (get_or cs v 0) lim rs cs pos cl
      (λ a ain tv ka wa u.
      cl a ain (subst (λ (x : ℕ). get_or ls x 0 < top) (sym tv) below) (subst (λ (x : ℕ). get_or cs x 0 ≤ a) (sym tv) ka) wa (subst (λ (x : ℕ). get_or ls (head_of hs a) 0 ≡ get_or ls x 0 + 1) (sym tv) u)))

  -- some point of level l is not blocked
  record Free (cs : List ℕ) (l : ℕ) : Type 0 where
    point : ℕ
    level : get_or ls point 0 ≡ l
    free : Blocked cs point → ⊥

  free_down : (source : ℕ) (rs cs : List ℕ) → Layered hs rs source sink ls → Closed rs cs → (l : ℕ) → suc (suc l) ≤ top → Free cs (suc (suc l)) → Free cs (suc l)
  free_down source rs cs la cl l h f =
      let e = f.level in
      let i = la.reached f.point (omega arith) in
      let fr = i.from in
      record {
        point = tail_of hs i.arc;
        level = omega arith;
        free = λ b.
            let z : get_or cs (tail_of hs i.arc) 0 ≡ 0 = ⊎_elim (λ q. absurd (let n : ⊥ = omega arith in n)) (λ q. q) b.spent in
            f.free (subst (Blocked cs) i.to (cl i.arc i.within (omega arith) (omega arith) i.wide (let t = ap (λ (x : ℕ). get_or ls x 0) i.to in omega arith)));
      }

  free_first : (source : ℕ) (rs cs : List ℕ) → Layered hs rs source sink ls → Closed rs cs → (l : ℕ) → suc l ≤ top → Free cs (suc l) → Free cs 1
  free_first source rs cs la cl zero h f = f
  free_first source rs cs la cl (suc l) h f = free_first source rs cs la cl l (omega arith) (free_down source rs cs la cl l h f)

  -- no arc is passed where each point's chain starts
  started_closed : (fs rs : List ℕ) → Started hs fs → ((a : ℕ) → a < length hs → tail_of hs a < length fs) → Closed rs fs
  started_closed fs rs st tails a ain low past wide up =
      let e = st.start (tail_of hs a) (tails a ain) in
      let b = before_past hs (tail_of hs a) a refl (length hs) ain in
      absurd (let n : ⊥ = omega arith in n)

  pub pushes_some : (source lim : ℕ) (rs fs : List ℕ) → Started hs fs → ((a : ℕ) → a < length hs → tail_of hs a < length fs) → Layered hs rs source sink ls → 0 < top → 0 < lim → (pushes hs ls sink top (top - 1) source lim rs fs).2 < lim
  pushes_some source lim rs fs st tails la pos lpos =
      let o : Out = pushes hs ls sink top (top - 1) source lim rs fs in
      let u : o.2 ≤ lim = pushes_under hs ls sink top (top - 1) source lim rs fs in
      elim (cases_eq o.2 lim) [
        | inl e ↦
            let one = la.first in
            let i = pushes_idle (top - 1) source lim rs fs (omega arith) lpos (started_closed fs rs st tails) e in
            let back : suc (top - 1) ≡ top = omega arith in
            let f : Free o.1 (suc (top - 1)) = record { point = sink; level = at_top ∙ sym back; free = λ b. b.not_sink refl } in
            let g = free_first source rs o.1 la i.closed (top - 1) (omega arith) f in
            absurd (g.free (subst (Blocked o.1) (sym (la.least g.point g.level)) i.blocked))
        | inr ne ↦ omega arith
      ]
