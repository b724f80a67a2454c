-- A push moves what it says from v to the sink, and keeps the pairs.
use Rattle.std.proofs.Common.{◌≡◌, ℕ, zero, suc, ◌+◌, ◌-◌, ◌%◌, ◌<◌, ◌≤◌, min, Bool, true, false, cond, ◌&&◌, eqb, ltb, ◌≢◌, List, length, get_or, set, sym, refl, ap, ◌∙◌, subst, inl, inr, arith, length-set, get_or-set_other, get_or-set_same}
use Rattle.std.proofs.lemmas.Bool.{eqb-true, ltb-true, cases_eq, cases_lt, cond_both, and_parts}
use Rattle.std.proofs.lemmas.List.{get_or_past}
use Rattle.residual.specs.Net.{mate_of, head_of, tail_of, Place, Placed, outs, moved}
use Rattle.blocking.specs.Push.{Out, apt, taken, scans, pushes}
use Rattle.blocking.specs.Flows.{Flows, Good}
use Rattle.residual.proofs.Moves.{mate_mate, mate_within, moved_length, moved_other, moved_pairs, cond_add, moved_outs}

pub cond_zero : (b : Bool) → ◌≡◌ {A = ℕ} (cond b 0 0) 0
cond_zero true = refl
cond_zero false = refl

pub flows_none : (hs ls : List ℕ) (sink v lv : ℕ) (rs : List ℕ) → Flows hs ls sink v lv 0 rs rs
flows_none hs ls sink v lv rs = record {
  same = refl;
  pairs = λ a. refl;
  frame = λ a h. refl;
  flow = λ p. ap (λ (z : ℕ). outs p hs rs (length hs) + z) (cond_zero (p v) ∙ sym (cond_zero (p sink)));
}

pub flows_then : {hs ls : List ℕ} {sink v lv x y : ℕ} {rs ss ts : List ℕ} → Flows hs ls sink v lv x rs ss → Flows hs ls sink v lv y ss ts → Flows hs ls sink v lv (x + y) rs ts
flows_then {hs} {ls} {sink} {v} {lv} {x} {y} {rs} {ss} {ts} f g = record {
  same = g.same ∙ f.same;
  pairs = λ a. g.pairs a ∙ f.pairs a;
  frame = λ a h. g.frame a h ∙ f.frame a h;
  flow = λ p. let a = f.flow p in let b = g.flow p in let c = cond_add (p v) x y in let d = cond_add (p sink) x y in omega arith;
}

-- what came through from the head of arc k goes along it
pub flows_along : {hs ls : List ℕ} {sink v lv g : ℕ} {rs ss : List ℕ} (k : ℕ) → length rs ≡ length hs → length hs % 2 ≡ 0 → k < length hs → tail_of hs k ≡ v → get_or ls v 0 ≡ lv → g ≤ get_or rs k 0 → get_or ls (head_of hs k) 0 ≡ suc lv → Flows hs ls sink (head_of hs k) (suc lv) g rs ss → Flows hs ls sink v lv g rs (moved ss k g)
flows_along {hs} {ls} {sink} {v} {lv} {g} {rs} {ss} k e ev h tv lvv le up f =
    let low : get_or ls (tail_of hs k) 0 < suc lv = rw tv (omega arith) in
    let here : get_or ss k 0 ≡ get_or rs k 0 = f.frame k low in
    let es : length ss ≡ length hs = f.same ∙ e in
    let kin : k < length ss = omega arith in
    let min : mate_of k < length ss = let w = mate_within k (length hs) ev h in omega arith in
    let fits : g ≤ get_or ss k 0 = omega arith in
    record {
      same = moved_length ss k g ∙ f.same;
      pairs = λ a. moved_pairs ss k g kin min fits a ∙ f.pairs a;
      frame = λ a b.
          let n1 : a ≢ k = λ q. let z : get_or ls (tail_of hs k) 0 < lv = subst (λ (i : ℕ). get_or ls (tail_of hs i) 0 < lv) q b in let y : get_or ls v 0 < lv = subst (λ (i : ℕ). get_or ls i 0 < lv) tv z in omega arith in
          let n2 : a ≢ mate_of k = λ q. let z : get_or ls (tail_of hs (mate_of k)) 0 < lv = subst (λ (i : ℕ). get_or ls (tail_of hs i) 0 < lv) q b in let y : get_or ls (head_of hs k) 0 < lv = subst (λ (i : ℕ). get_or ls (get_or hs i 0) 0 < lv) (mate_mate k) z in omega arith in
          moved_other ss k g a n1 n2 ∙ f.frame a (omega arith);
      flow = λ p.
          let a = moved_outs p hs ss k g es ev h fits in
          let b = f.flow p in
          let t : cond (p (tail_of hs k)) g 0 ≡ cond (p v) g 0 = ap (λ (z : ℕ). cond (p z) g 0) tv in
          omega arith;
    }

pub placed_set : (hs cs : List ℕ) (v at : ℕ) → Placed hs cs → Place hs v at → Placed hs (set cs v at)
placed_set hs cs v at c p = record {
  place = λ u h.
      let within : u < length cs = rw (length-set cs v at) at h in
      elim (cases_eq u v) [
        | inl e ↦ let vin : v < length cs = omega arith in rw (e, get_or-set_same cs v at 0 vin) p
        | inr n ↦ rw (get_or-set_other cs v u at 0 n) (c.place u within)
      ];
}

pub placed_at : (hs cs : List ℕ) (v : ℕ) → Placed hs cs → Place hs v (get_or cs v 0)
placed_at hs cs v c =
    elim (cases_lt v (length cs)) [
      | inl h ↦ c.place v h
      | inr h ↦ rw (get_or_past cs v 0 h) (record { within = omega arith; leaves = λ l. absurd (let b : ⊥ = omega arith in b) })
    ]

module _ (hs ls : List ℕ) (sink : ℕ) (ev : length hs % 2 ≡ 0) where
  -- what P keeps to, from a point of level lv
  abbrev pub Pushing : (ℕ → ℕ → List ℕ → List ℕ → Out) → ℕ → Type 0
  Pushing P lv = (w lim : ℕ) (rs cs : List ℕ) → length rs ≡ length hs → Placed hs cs → get_or ls w 0 ≡ lv → Good hs ls sink w lv lim rs cs (P w lim rs cs)

  pub taken_good : (v lv k left amount : ℕ) (rs cs : List ℕ) (o : Out) (more : ℕ → List ℕ → List ℕ → Out) → suc k ≤ length hs → length rs ≡ length hs → get_or ls v 0 ≡ lv → tail_of hs k ≡ v → get_or ls (head_of hs k) 0 ≡ suc lv → amount ≤ left → amount ≤ get_or rs k 0 → Good hs ls sink (head_of hs k) (suc lv) amount rs cs o → ((l : ℕ) (r c : List ℕ) → length r ≡ length hs → Placed hs c → Good hs ls sink v lv l r c (more l r c)) → Good hs ls sink v lv left rs cs (taken v k left amount o more)
  unfolding taken
  taken_good v lv k left amount rs cs o more kin e lvv tv up al ar g hm =
      let got : ℕ = amount - o.2 in
      let on : List ℕ = moved o.0 k got in
      let kh : k < length hs = omega arith in
      let le : got ≤ get_or rs k 0 = omega arith in
      let f = flows_along k e ev kh tv lvv le up g.flows in
      cond_both (eqb (left - got) 0) (on, set o.1 v (suc k), 0) (more (left - got) on o.1) (Good hs ls sink v lv left rs cs)
      (λ z.
      let all : left - 0 ≡ got = let q = eqb-true (left - got) 0 z in omega arith in
      record {
        flows = rw all f;
        same = length-set o.1 v (suc k) ∙ g.same;
        under = omega arith;
        placed = placed_set hs o.1 v (suc k) g.placed (record { within = omega arith; leaves = λ h. let one : suc k - 1 ≡ k = omega arith in rw one tv });
      })
      (λ z.
      let r = hm (left - got) on o.1 (f.same ∙ e) g.placed in
      let u = r.under in
      let sum : left - (more (left - got) on o.1).2 ≡ got + ((left - got) - (more (left - got) on o.1).2) = omega arith in
      record {
        flows = rw sum (flows_then f r.flows);
        same = r.same ∙ g.same;
        under = omega arith;
        placed = r.placed;
      })

  pub apt_parts : (v lv k : ℕ) (rs : List ℕ) → apt hs ls v lv k rs ≡ true → (tail_of hs k ≡ v) × (0 < get_or rs k 0) × (get_or ls (head_of hs k) 0 ≡ lv)
  unfolding apt
  apt_parts v lv k rs t =
      let parts = and_parts (eqb (tail_of hs k) v) (ltb 0 (get_or rs k 0) && eqb (get_or ls (head_of hs k) 0) lv) t in
      let wide = and_parts (ltb 0 (get_or rs k 0)) (eqb (get_or ls (head_of hs k) 0) lv) parts.1 in
      (eqb-true (tail_of hs k) v parts.0, ltb-true 0 (get_or rs k 0) wide.0, eqb-true (get_or ls (head_of hs k) 0) lv wide.1)

  pub scans_good : (P : ℕ → ℕ → List ℕ → List ℕ → Out) (v lv : ℕ) → Pushing P (suc lv) → get_or ls v 0 ≡ lv → (k left : ℕ) (rs cs : List ℕ) → k ≤ length hs → length rs ≡ length hs → Placed hs cs → Good hs ls sink v lv left rs cs (scans hs ls P v (suc lv) k left rs cs)
  unfolding scans
  scans_good P v lv hyp lvv zero left rs cs kin e pl =
      let z : left - left ≡ 0 = omega arith in
      record {
        flows = rw z (flows_none hs ls sink v lv rs);
        same = length-set cs v 0;
        under = omega arith;
        placed = placed_set hs cs v 0 pl (record { within = omega arith; leaves = λ h. absurd (let b : ⊥ = omega arith in b) });
      }
  scans_good P v lv hyp lvv (suc k) left rs cs kin e pl =
      let less : k ≤ length hs = omega arith in
      cond_both (apt hs ls v (suc lv) k rs) _ _ (Good hs ls sink v lv left rs cs)
      (λ t.
      let q = apt_parts v (suc lv) k rs t in
      taken_good v lv k left (min left (get_or rs k 0)) rs cs (P (head_of hs k) (min left (get_or rs k 0)) rs cs)
      (λ l r c. scans hs ls P v (suc lv) k l r c) kin e lvv q.0 q.2 (omega arith) (omega arith)
      (hyp (head_of hs k) (min left (get_or rs k 0)) rs cs e pl q.2)
      (λ l r c e' pl'. scans_good P v lv hyp lvv k l r c less e' pl'))
      (λ t. scans_good P v lv hyp lvv k left rs cs less e pl)

  pub pushes_good : (top d v lv lim : ℕ) (rs cs : List ℕ) → get_or ls v 0 ≡ lv → lv + d ≡ top → length rs ≡ length hs → Placed hs cs → Good hs ls sink v lv lim rs cs (pushes hs ls sink top d v lim rs cs)
  unfolding pushes
  pushes_good top zero v lv lim rs cs lvv t e pl =
      cond_both (eqb v sink) 0 lim (λ (x : ℕ). Good hs ls sink v lv lim rs cs (rs, cs, x))
      (λ q.
      let vs = eqb-true v sink q in
      record {
        flows = record {
          same = refl;
          pairs = λ a. refl;
          frame = λ a h. refl;
          flow = λ p. ap (λ (z : ℕ). outs p hs rs (length hs) + cond (p z) (lim - 0) 0) vs;
        };
        same = refl;
        under = omega arith;
        placed = pl;
      })
      (λ q. let z : lim - lim ≡ 0 = omega arith in record { flows = rw z (flows_none hs ls sink v lv rs); same = refl; under = omega arith; placed = pl })
  pushes_good top (suc d) v lv lim rs cs lvv t e pl =
      let up : top - d ≡ suc lv = omega arith in
      let hyp : Pushing (pushes hs ls sink top d) (suc lv) = λ w lim' rs' cs' e' pl' lw. pushes_good top d w (suc lv) lim' rs' cs' lw (omega arith) e' pl' in
      let at = placed_at hs cs v pl in
      rw up (scans_good (pushes hs ls sink top d) v lv hyp lvv (get_or cs v 0) lim rs cs at.within e pl)
