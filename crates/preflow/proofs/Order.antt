-- First in, first out: what a turn does to the queue.
use Rattle.std.proofs.Common.{◌≡◌, ℕ, zero, suc, ◌+◌, ◌<◌, ◌≤◌, min, Bool, true, false, cond, not, ◌&&◌, eqb, ltb, ◌≢◌, List, [], ◌∷◌, ◌++◌, length, get_or, set, sym, refl, ap, ◌∙◌, subst, append_assoc, append-nil, arith, length-set, get_or-set_same}
use Rattle.std.proofs.lemmas.Bool.{cond_both, ne_eqb, eqb-false}
use Rattle.std.proofs.lemmas.Bool.Decides.{nat_tests}
use Rattle.drawing.specs.Counts.{Within}
use Rattle.residual.specs.Net.{head_of, moved, outs}
use Rattle.preflow.specs.Push.{Out, shifted, active, joined, apt, scans, lows, serves}
use Rattle.preflow.specs.Turns.{State, refreshed, turned, opening, after, states, turns_for, first_heights, first_excess}
use Rattle.preflow.specs.Fifo.{pushed, wakened, Served, Fifo}
use Rattle.preflow.specs.Rising.{Rising}
use Rattle.preflow.specs.Opening.{Opened}
use Rattle.preflow.specs.Preflow.{Arcs, Ends}
use Rattle.preflow.proofs.Sums.{shifted_to}
use Rattle.preflow.proofs.Kept.{apt_parts, apt_one}
use Rattle.preflow.proofs.Gap.{active_low}
use Rattle.preflow.proofs.Lines.{active_parts}
use Rattle.preflow.proofs.Progress.{Sound, states_sound, front_within, states_front, states_idle, turned_sound, final_idle, first_length, first_source, first_other, opening_height}

-- a point that had nothing joins by a push of something, just where it becomes active
joined_is : (source sink v w x : ℕ) (es qs : List ℕ) → v ≢ w → w < length es → 0 < x
    → joined source sink (get_or es w 0) w qs ≡ qs ++ cond (not (active source sink es w) && active source sink (shifted es v w x) w) (w ∷ []) []
unfolding joined active
joined_is source sink v w x es qs ne win some =
    let to = shifted_to es v w x ne win in
    ap (λ (b : Bool). cond b (qs ++ w ∷ []) qs) (same (get_or es w 0) (get_or (shifted es v w x) w 0) (not (eqb w source) && not (eqb w sink)) (omega arith) (omega arith))
    ∙ out (not (ltb 0 (get_or es w 0) && (not (eqb w source) && not (eqb w sink))) && (ltb 0 (get_or (shifted es v w x) w 0) && (not (eqb w source) && not (eqb w sink))))
  where
    same : (e f : ℕ) (i : Bool) → 0 < f → e ≤ f → (eqb e 0 && i) ≡ (not (ltb 0 e && i) && (ltb 0 f && i))
    same e f i p q = grind (arith, nat_tests)

    out : (b : Bool) → cond b (qs ++ w ∷ []) qs ≡ qs ++ cond b (w ∷ []) []
    out true = refl
    out false = sym (append-nil qs)

-- the pushes of a scan
record Pushes (source sink v : ℕ) (es qs es' qs' : List ℕ) : Type 0 where
  pub pushes : List (ℕ × ℕ)
  pub excess : es' ≡ pushed v es pushes
  pub queue : qs' ≡ qs ++ wakened source sink v es pushes

no_pushes : (source sink v : ℕ) (es qs : List ℕ) → Pushes source sink v es qs es qs
no_pushes source sink v es qs = record { pushes = []; excess = refl; queue = sym (append-nil qs) }

more_pushes : (source sink v w x : ℕ) (es qs es' qs' : List ℕ) → v ≢ w → w < length es → 0 < x → Pushes source sink v (shifted es v w x) (joined source sink (get_or es w 0) w qs) es' qs' → Pushes source sink v es qs es' qs'
more_pushes source sink v w x es qs es' qs' ne win some p = record {
  pushes = (w, x) ∷ p.pushes;
  excess = p.excess;
  queue = p.queue
      ∙ ap (λ (ys : List ℕ). ys ++ wakened source sink v (shifted es v w x) p.pushes) (joined_is source sink v w x es qs ne win some)
      ∙ append_assoc qs (cond (not (active source sink es w) && active source sink (shifted es v w x) w) (w ∷ []) []) (wakened source sink v (shifted es v w x) p.pushes);
}

module _ (hs ds : List ℕ) (n v low source sink : ℕ) (ar : Arcs hs n) (vin : Within n v) (nv : get_or ds v 0 ≢ low) where
  scans_pushes : (k : ℕ) (rs es qs : List ℕ) → length rs ≡ length hs → length es ≡ n + 1 → k ≤ length hs → 0 < get_or es v 0 → Pushes source sink v es qs (scans hs ds source sink v low k rs es qs).1 (scans hs ds source sink v low k rs es qs).2
  unfolding scans
  scans_pushes zero rs es qs lr le kin act = no_pushes source sink v es qs
  scans_pushes (suc k) rs es qs lr le kin act =
      let x : ℕ = min (get_or es v 0) (get_or rs k 0) in
      let w : ℕ = head_of hs k in
      let rs' : List ℕ = moved rs k x in
      let es' : List ℕ = shifted es v w x in
      let j : List ℕ = joined source sink (get_or es w 0) w qs in
      let P : Out → Type 0 = λ o. Pushes source sink v es qs o.1 o.2 in
      cond_both (apt hs ds v low k rs)
      (cond (eqb (get_or es' v 0) 0) (rs', es', j) (scans hs ds source sink v low k rs' es' j))
      (scans hs ds source sink v low k rs es qs) P
      (λ t.
      let one = apt_one hs ds n v low source sink ar vin nv k rs es lr le (omega arith) t in
      let q = apt_parts hs ds n v low source sink ar vin nv k rs t in
      let wide = q.1 in
      let most = ar.most k (omega arith) in
      let ne : v ≢ w = λ e. nv (ap (λ (y : ℕ). get_or ds y 0) e ∙ q.2) in
      let win : w < length es = omega (arith, most, le) in
      let some : 0 < x = omega (arith, wide, act) in
      cond_both (eqb (get_or es' v 0) 0) (rs', es', j) (scans hs ds source sink v low k rs' es' j) P
      (λ z. more_pushes source sink v w x es qs es' j ne win some (no_pushes source sink v es' j))
      (λ z. let nz = eqb-false (get_or es' v 0) 0 z in more_pushes source sink v w x es qs _ _ ne win some (scans_pushes k rs' es' j (one.same ∙ lr) (one.points ∙ le) (omega arith) (omega (arith, nz)))))
      (λ t. scans_pushes k rs es qs lr le (omega arith) act)

-- v is an inner point, so it is active where it has excess
again_is : (source sink v : ℕ) (es qs : List ℕ) → v ≢ source → v ≢ sink → cond (ltb 0 (get_or es v 0)) (qs ++ v ∷ []) qs ≡ qs ++ cond (active source sink es v) (v ∷ []) []
unfolding active
again_is source sink v es qs ns nt =
    out (ltb 0 (get_or es v 0)) ∙ ap (λ (b : Bool). qs ++ cond b (v ∷ []) []) (inner (ltb 0 (get_or es v 0)) (eqb v source) (eqb v sink) (ne_eqb v source ns) (ne_eqb v sink nt))
  where
    inner : (a b c : Bool) → b ≡ false → c ≡ false → a ≡ (a && (not b && not c))
    inner a b c p q = grind arith

    out : (b : Bool) → cond b (qs ++ v ∷ []) qs ≡ qs ++ cond b (v ∷ []) []
    out true = refl
    out false = sym (append-nil qs)

module _ (hs rs₀ : List ℕ) (n source sink : ℕ) (ar : Arcs hs n) (en : Ends n source sink) (len₀ : length rs₀ ≡ length hs) (small : n ≤ 128) (room : outs (λ u. eqb u source) hs rs₀ (length hs) ≤ 1800000000) where
  abbrev at : ℕ → State
  at k = states hs n source sink rs₀ k

  turned_served : (s : State) → Sound hs rs₀ n source sink ar en len₀ small s → (k v : ℕ) (rest : List ℕ) → s.queue ≡ v ∷ rest → Served source sink v rest s (turned hs n source sink k v s.left s.excess s.height rest)
  unfolding turned serves
  turned_served s f k v rest e =
      let w = front_within hs rs₀ n source sink ar en len₀ small s f v rest e in
      let ap3 = active_parts source sink s.excess v w.1 in
      let t = turned_sound hs rs₀ n source sink ar en len₀ small s f k v rest e in
      let up : List ℕ = refreshed hs n source sink k s.left s.height in
      let low : ℕ = lows hs s.left up v (length hs) 1000 in
      let ds : List ℕ = set up v (low + 1) in
      let lds = t.sound.pre.heights in
      let lup : length up ≡ n + 1 = up_length up v (low + 1) (n + 1) lds in
      let here : get_or ds v 0 ≡ low + 1 = get_or-set_same up v (low + 1) 0 (let m = w.0.1 in omega (arith, lup, m)) in
      let nv : get_or ds v 0 ≢ low = λ q. omega (arith, q, here) in
      let p = scans_pushes hs ds n v low source sink ar w.0 nv (length hs) s.left s.excess rest (f.pre.same ∙ len₀) f.pre.points (omega arith) ap3.0 in
      let o : Out = scans hs ds source sink v low (length hs) s.left s.excess rest in
      record {
        pushes = p.pushes;
        excess = p.excess;
        queue = again_is source sink v o.1 o.2 ap3.1 ap3.2 ∙ ap (λ (ys : List ℕ). ys ++ cond (active source sink o.1 v) (v ∷ []) []) p.queue;
      }
    where
      up_length : (xs : List ℕ) (i x m : ℕ) → length (set xs i x) ≡ m → length xs ≡ m
      up_length xs i x m h = sym (length-set xs i x) ∙ h

  pub fifo : Fifo source sink at
  fifo = record {
    held = λ k. (states_sound hs rs₀ n source sink ar en len₀ small room k).held;
    front = λ k v rest e. subst (Served source sink v rest (at k)) (sym (states_front hs rs₀ n source sink ar en len₀ small room k v rest e)) (turned_served (at k) (states_sound hs rs₀ n source sink ar en len₀ small room k) k v rest e);
  }

  pub opened : Opened n source sink (at 0)
  unfolding after opening
  opened =
      let s = en.source_some in
      let m = en.source_most in
      let high = first_source n source sink en n in
      let most = first_source n source sink en 1800000001 in
      let nv : get_or (first_heights n source) source 0 ≢ 0 = λ q. omega (arith, q, high, s, m) in
      let act : 0 < get_or (first_excess n source) source 0 = omega (arith, most) in
      let p = scans_pushes hs (first_heights n source) n source 0 source sink ar (s, m) nv (length hs) rs₀ (first_excess n source) [] len₀ (first_length n source sink en 1800000001) (omega arith) act in
      record { pushes = p.pushes; excess = p.excess; queue = p.queue }

  -- no turn lowers a point
  rises_by : (k u : ℕ) (qs : List ℕ) → (at k).queue ≡ qs → Within n u → get_or (at k).height u 0 ≤ get_or (at (suc k)).height u 0
  rises_by k u [] e w = let q = ap (λ (s : State). get_or s.height u 0) (states_idle hs rs₀ n source sink ar en len₀ small room k e) in omega (arith, q)
  rises_by k u (v ∷ rest) e w =
      let t = (turned_sound hs rs₀ n source sink ar en len₀ small (at k) (states_sound hs rs₀ n source sink ar en len₀ small room k) k v rest e).rises u w.1 in
      let q = ap (λ (s : State). get_or s.height u 0) (states_front hs rs₀ n source sink ar en len₀ small room k v rest e) in
      omega (arith, t, q)

  pub rising : Rising n source sink (turns_for n) at
  rising = record {
    high = ap (λ (ds : List ℕ). get_or ds source 0) (opening_height hs n source sink rs₀) ∙ first_source n source sink en n;
    ground = λ u q. ap (λ (ds : List ℕ). get_or ds u 0) (opening_height hs n source sink rs₀) ∙ first_other n source sink en n u q;
    rises = λ k u w. rises_by k u (at k).queue refl w;
    low = λ k u w a.
        let f = (states_sound hs rs₀ n source sink ar en len₀ small room k).pre in
        active_low hs rs₀ (at k).left (at k).excess (at k).height n source 1800000001 ar f.pairs f.flow f.valid.steep (en.source_some, en.source_most) f.high u w (active_parts source sink (at k).excess u a).0;
    ends = final_idle hs rs₀ n source sink ar en len₀ small room;
  }
