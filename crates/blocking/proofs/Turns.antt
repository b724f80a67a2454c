-- The phases end in a largest flow and a least cut.
use Rattle.std.proofs.Common.{◌≡◌, ℕ, zero, suc, ◌+◌, ◌-◌, ◌%◌, ◌<◌, ◌≤◌, cond, eqb, List, length, get_or, sym, refl, ap, ◌∙◌, subst, arith}
use Rattle.std.proofs.lemmas.Bool.{eqb-true, eqb-false, cond-true, cond-false, cond_both, eq-eqb, ne_eqb}
use Rattle.residual.specs.Net.{mate_of, head_of, tail_of, outs, Placed, Bounded, Started, Chained, Sent}
use Rattle.residual.specs.Search.{levels}
use Rattle.blocking.specs.Push.{Out, pushes}
use Rattle.blocking.specs.Flows.{Flows, Good}
use Rattle.residual.specs.Layers.{Layered}
use Rattle.blocking.specs.Phases.{phases, Ended}
use Rattle.residual.proofs.Chains.{before_place}
use Rattle.residual.proofs.Moves.{mate_within, cond_add}
use Rattle.blocking.proofs.Flows.{pushes_good, cond_zero}
use Rattle.residual.proofs.Layers.{levels_layered}
use Rattle.blocking.proofs.Progress.{pushes_some}

pub started_placed : (hs fs : List ℕ) → Started hs fs → Placed hs fs
started_placed hs fs st = record { place = λ v h. rw (st.start v h) (before_place hs v (length hs) (omega arith)) }

pub sent_more : (hs ls : List ℕ) (source sink lv x y : ℕ) (rs₀ rs ss : List ℕ) → Sent hs source sink rs₀ rs x → Flows hs ls sink source lv y rs ss → Sent hs source sink rs₀ ss (x + y)
sent_more hs ls source sink lv x y rs₀ rs ss s f = record {
  same = f.same ∙ s.same;
  pairs = λ a. f.pairs a ∙ s.pairs a;
  flow = λ p. let a = s.flow p in let b = f.flow p in let c = cond_add (p source) x y in let d = cond_add (p sink) x y in omega arith;
}

-- no more than can leave the source
pub sent_most : (hs : List ℕ) (source sink total : ℕ) (rs₀ rs : List ℕ) → (source ≡ sink → ⊥) → Sent hs source sink rs₀ rs total → total ≤ outs (λ u. eqb u source) hs rs₀ (length hs)
sent_most hs source sink total rs₀ rs ne s =
    let e = s.flow (λ u. eqb u source) in
    let a : cond (eqb source source) total 0 ≡ total = cond-true (eqb source source) total 0 (eq-eqb source source refl) in
    let b : cond (eqb sink source) total 0 ≡ 0 = cond-false (eqb sink source) total 0 (ne_eqb sink source (λ q. ne (sym q))) in
    omega (arith, e, a, b)

module _ (hs fs : List ℕ) (source sink : ℕ) (ne : source ≡ sink → ⊥) (even : length hs % 2 ≡ 0)
    (heads : (a : ℕ) → a < length hs → head_of hs a < length fs) (st : Started hs fs) (small : length fs ≤ 129) (sin : source < length fs) where
  tails : (a : ℕ) → a < length hs → tail_of hs a < length fs
  tails a h = heads (mate_of a) (mate_within a (length hs) even h)

  -- one phase
  pub phase_sent : (rs₀ rs : List ℕ) (total : ℕ) → length rs ≡ length hs → Sent hs source sink rs₀ rs total → (l : List ℕ) → Layered hs rs source sink l → 0 < get_or l sink 0 → (o : Out) → pushes hs l sink (get_or l sink 0) (get_or l sink 0 - 1) source 1800000000 rs fs ≡ o → Sent hs source sink rs₀ o.0 (total + (1800000000 - o.2)) × (0 < 1800000000 - o.2) × (length o.0 ≡ length hs)
  phase_sent rs₀ rs total len s l la up o e =
      let first = la.first in
      let g0 = pushes_good hs l sink even (get_or l sink 0) (get_or l sink 0 - 1) source 1 1800000000 rs fs first (omega arith) len (started_placed hs fs st) in
      let g : Good hs l sink source 1 1800000000 rs fs o = subst (Good hs l sink source 1 1800000000 rs fs) e g0 in
      let p0 = pushes_some hs l sink (get_or l sink 0) refl source 1800000000 rs fs st tails la up (omega arith) in
      let p : o.2 < 1800000000 = subst (λ (x : Out). x.2 < 1800000000) e p0 in
      (sent_more hs l source sink 1 total (1800000000 - o.2) rs₀ rs o.0 s g.flows, omega arith, g.flows.same ∙ len)

  pub phases_ended : (rs₀ : List ℕ) (f : ℕ) (rs ls : List ℕ) (total : ℕ) → length rs ≡ length hs → Sent hs source sink rs₀ rs total → outs (λ u. eqb u source) hs rs₀ (length hs) < total + f → Ended hs source sink rs₀ (phases hs fs source sink f rs ls total)
  unfolding phases
  phases_ended rs₀ zero rs ls total len s most = let q = sent_most hs source sink total rs₀ rs ne s in absurd (let b : ⊥ = omega arith in b)
  phases_ended rs₀ (suc f) rs ls total len s most =
      let l : List ℕ = levels hs rs (length fs) source sink in
      let la = levels_layered hs rs (length fs) heads tails source sink small sin in
      let o : Out = pushes hs l sink (get_or l sink 0) (get_or l sink 0 - 1) source 1800000000 rs fs in
      cond_both (eqb (get_or l sink 0) 0) (rs, l, total) (phases hs fs source sink f o.0 l (total + (1800000000 - o.2))) (Ended hs source sink rs₀)
      (λ t. record { sent = s; layered = la; apart = eqb-true (get_or l sink 0) 0 t })
      (λ t.
      let n0 = eqb-false (get_or l sink 0) 0 t in
      let q = phase_sent rs₀ rs total len s l la (omega arith) o refl in
      let more = q.1 in
      phases_ended rs₀ f o.0 l (total + (1800000000 - o.2)) q.2 q.0 (omega arith))

module _ (hs fs : List ℕ) (source sink f : ℕ) (rs ls : List ℕ) (total : ℕ) (l : List ℕ) (is : l ≡ levels hs rs (length fs) source sink) where
  pub phases_stop : get_or l sink 0 ≡ 0 → phases hs fs source sink (suc f) rs ls total ≡ (rs, l, total)
  unfolding phases
  phases_stop z =
      let m : List ℕ = levels hs rs (length fs) source sink in
      let e : get_or m sink 0 ≡ 0 = ap (λ (x : List ℕ). get_or x sink 0) (sym is) ∙ z in
      cond-true _ _ _ (eq-eqb (get_or m sink 0) 0 e) ∙ ap (λ (x : List ℕ). (rs, x, total)) (sym is)

  pub phases_on : (rs' cs' : List ℕ) (r : ℕ) → (get_or l sink 0 ≡ 0 → ⊥) → r ≤ 1800000000 → pushes hs l sink (get_or l sink 0) (get_or l sink 0 - 1) source 1800000000 rs fs ≡ (rs', cs', 1800000000 - r) → phases hs fs source sink (suc f) rs ls total ≡ phases hs fs source sink f rs' l (total + r)
  unfolding phases
  phases_on rs' cs' r z le e =
      let F : List ℕ → Out = λ m. cond (eqb (get_or m sink 0) 0) (rs, m, total) (phases hs fs source sink f (pushes hs m sink (get_or m sink 0) (get_or m sink 0 - 1) source 1800000000 rs fs).0 m (total + (1800000000 - (pushes hs m sink (get_or m sink 0) (get_or m sink 0 - 1) source 1800000000 rs fs).2))) in
      let back : total + (1800000000 - (1800000000 - r)) ≡ total + r = omega arith in
      ap F (sym is) ∙ cond-false _ _ _ (ne_eqb (get_or l sink 0) 0 z)
      ∙ ap (λ (o : Out). phases hs fs source sink f o.0 l (total + (1800000000 - o.2))) e
      ∙ ap (λ (x : ℕ). phases hs fs source sink f rs' l x) back

pub phases_end : (hs fs : List ℕ) (source sink f : ℕ) (rs ls : List ℕ) (total : ℕ) → f ≡ 0 → phases hs fs source sink f rs ls total ≡ (rs, ls, total)
unfolding phases
phases_end hs fs source sink zero rs ls total = λ e. refl
phases_end hs fs source sink (suc f) rs ls total = λ e. absurd (let z : ⊥ = omega arith in z)

pub sent_none : (hs : List ℕ) (source sink : ℕ) (rs : List ℕ) → Sent hs source sink rs rs 0
sent_none hs source sink rs = record {
  same = refl;
  pairs = λ a. refl;
  flow = λ p. ap (λ (z : ℕ). outs p hs rs (length hs) + z) (cond_zero (p source) ∙ sym (cond_zero (p sink)));
}

pub sent_bounded : (hs : List ℕ) (source sink total : ℕ) (rs₀ rs : List ℕ) → Sent hs source sink rs₀ rs total → Bounded rs₀ → Bounded rs
sent_bounded hs source sink total rs₀ rs s b = record { bound = λ a h. let e = s.pairs a in let l = s.same in let q = b.bound a (omega arith) in omega arith }

-- what a turn of the loop has, by the code's names
module _ {hs ns fs : List ℕ} (source sink : ℕ) (c : Chained hs ns (length fs)) (st : Started hs fs) (small : length fs ≤ 129) (sin : source < length fs) where
  pub run_layered : (rs l : List ℕ) (n : ℕ) → n ≡ length fs → l ≡ levels hs rs n source sink → (l ≡ levels hs rs (length fs) source sink) × Layered hs rs source sink l
  run_layered rs l n len e =
      let is : l ≡ levels hs rs (length fs) source sink = e ∙ ap (λ (m : ℕ). levels hs rs m source sink) len in
      (is, subst (Layered hs rs source sink) (sym is) (levels_layered hs rs (length fs) c.heads (λ a h. c.heads (mate_of a) (mate_within a (length hs) c.even h)) source sink small sin))

  pub run_ended : (source ≡ sink → ⊥) → (rs ls : List ℕ) (f : ℕ) → length rs ≡ length hs → outs (λ u. eqb u source) hs rs (length hs) < f → (o : Out) → phases hs fs source sink f rs ls 0 ≡ o → Ended hs source sink rs o
  run_ended ne rs ls f lr most o e =
      subst (Ended hs source sink rs) e (phases_ended hs fs source sink ne c.even c.heads st small sin rs f rs ls 0 lr (sent_none hs source sink rs) (omega arith))

  pub run_sent : (source ≡ sink → ⊥) → (rs₀ rs rs' cs' l : List ℕ) (total r : ℕ) → length rs ≡ length hs → Sent hs source sink rs₀ rs total → Layered hs rs source sink l → (get_or l sink 0 ≡ 0 → ⊥) → r ≤ 1800000000 → pushes hs l sink (get_or l sink 0) (get_or l sink 0 - 1) source 1800000000 rs fs ≡ (rs', cs', 1800000000 - r) → Sent hs source sink rs₀ rs' (total + r)
  run_sent ne rs₀ rs rs' cs' l total r lr s la z le e =
      let o : Out = (rs', cs', 1800000000 - r) in
      let q = phase_sent hs fs source sink ne c.even c.heads st small sin rs₀ rs total lr s l la (omega arith) o e in
      let back : total + (1800000000 - (1800000000 - r)) ≡ total + r = omega arith in
      subst (Sent hs source sink rs₀ rs') back q.0
