-- The steps of a scan, as the code takes them.
use Rattle.std.proofs.Common.{◌≡◌, ℕ, zero, suc, ◌+◌, ◌-◌, ◌<◌, ◌≤◌, min, Bool, cond, ◌&&◌, eqb, ltb, List, [], ◌∷◌, length, get_or, set, refl, ap, ◌∙◌, subst, inl, inr, arith}
use Rattle.std.proofs.lemmas.Bool.{cases_Bool, cond-true, cond-false, eq-eqb, ne_eqb, lt-ltb, le-ltb, and_from, and_left, and_right}
use Rattle.residual.specs.Net.{mate_of, head_of, tail_of, leavers, Chained, Placed, Bounded, moved}
use Rattle.blocking.specs.Push.{Out, apt, taken, scans, pushes}
use Rattle.blocking.specs.Flows.{Good}
use Rattle.residual.proofs.Moves.{mate_within, moved_length, moved_pairs}
use Rattle.blocking.proofs.Flows.{pushes_good}

-- arc k goes somewhere: it is open and leads to a point of level lv
abbrev onward : (hs ls : List ℕ) (lv k : ℕ) (rs : List ℕ) → Bool
onward hs ls lv k rs = ltb 0 (get_or rs k 0) && eqb (get_or ls (head_of hs k) 0) lv

module _ (hs ls : List ℕ) (P : ℕ → ℕ → List ℕ → List ℕ → Out) (v lv : ℕ) where
  -- a scan of the listed arcs, which leave v
  unfoldable pub along : (ks : List ℕ) (left : ℕ) (rs cs : List ℕ) → Out
  along [] left rs cs = (rs, set cs v 0, left)
  along (k ∷ ks) left rs cs =
      cond (onward hs ls lv k rs)
      (taken v k left (min left (get_or rs k 0)) (P (head_of hs k) (min left (get_or rs k 0)) rs cs) (λ l r c. along ks l r c))
      (along ks left rs cs)

  taken_same : (k left amount : ℕ) (o : Out) (f g : ℕ → List ℕ → List ℕ → Out) → ((l : ℕ) (r c : List ℕ) → f l r c ≡ g l r c) → taken v k left amount o f ≡ taken v k left amount o g
  unfolding taken
  taken_same k left amount o f g h = ap (λ (x : Out). cond (eqb (left - (amount - o.2)) 0) (moved o.0 k (amount - o.2), set o.1 v (suc k), 0) x) (h (left - (amount - o.2)) (moved o.0 k (amount - o.2)) o.1)

  pub scans_along : (k left : ℕ) (rs cs : List ℕ) → scans hs ls P v lv k left rs cs ≡ along (leavers hs v k) left rs cs
  unfolding leavers scans apt along
  scans_along zero left rs cs = refl
  scans_along (suc k) left rs cs =
      elim (cases_Bool (eqb (tail_of hs k) v)) [
        | inl e ↦
            rw (cond-true (eqb (tail_of hs k) v) (k ∷ leavers hs v k) (leavers hs v k) e, e)
            (ap (λ (x : Out). cond (onward hs ls lv k rs) x (scans hs ls P v lv k left rs cs))
            (taken_same k left (min left (get_or rs k 0)) (P (head_of hs k) (min left (get_or rs k 0)) rs cs) (λ l r c. scans hs ls P v lv k l r c) (λ l r c. along (leavers hs v k) l r c) (scans_along k))
            ∙ ap (cond (onward hs ls lv k rs) (taken v k left (min left (get_or rs k 0)) (P (head_of hs k) (min left (get_or rs k 0)) rs cs) (λ l r c. along (leavers hs v k) l r c))) (scans_along k left rs cs))
        | inr e ↦
            rw (cond-false (eqb (tail_of hs k) v) (k ∷ leavers hs v k) (leavers hs v k) e)
            (cond-false (eqb (tail_of hs k) v && onward hs ls lv k rs) _ _ (and_left _ _ e) ∙ scans_along k left rs cs)
      ]

  module _ (k : ℕ) (ks : List ℕ) (left : ℕ) (rs cs : List ℕ) where
    pub along_shut : get_or rs k 0 ≤ 0 → along (k ∷ ks) left rs cs ≡ along ks left rs cs
    unfolding along
    along_shut z = cond-false _ _ _ (and_left (ltb 0 (get_or rs k 0)) _ (le-ltb 0 (get_or rs k 0) z))

    pub along_off : (get_or ls (head_of hs k) 0 ≡ lv → ⊥) → along (k ∷ ks) left rs cs ≡ along ks left rs cs
    unfolding along
    along_off z = cond-false _ _ _ (and_right (ltb 0 (get_or rs k 0)) _ (ne_eqb (get_or ls (head_of hs k) 0) lv z))

    module _ (rs' cs' : List ℕ) (got : ℕ) (wide : 0 < get_or rs k 0) (up : get_or ls (head_of hs k) 0 ≡ lv)
        (less : got ≤ min left (get_or rs k 0)) (e : P (head_of hs k) (min left (get_or rs k 0)) rs cs ≡ (rs', cs', min left (get_or rs k 0) - got)) where
      goes : along (k ∷ ks) left rs cs ≡ cond (eqb (left - got) 0) (moved rs' k got, set cs' v (suc k), 0) (along ks (left - got) (moved rs' k got) cs')
      unfolding along taken
      goes =
          let amount : ℕ = min left (get_or rs k 0) in
          let back : amount - (amount - got) ≡ got = omega arith in
          cond-true _ _ _ (and_from _ _ (lt-ltb _ _ wide) (eq-eqb _ _ up))
          ∙ ap (λ (o : Out). taken v k left amount o (λ l r s. along ks l r s)) e
          ∙ ap (λ (g : ℕ). cond (eqb (left - g) 0) (moved rs' k g, set cs' v (suc k), 0) (along ks (left - g) (moved rs' k g) cs')) back

      pub along_stop : left - got ≡ 0 → along (k ∷ ks) left rs cs ≡ (moved rs' k got, set cs' v (suc k), 0)
      along_stop z = goes ∙ cond-true _ _ _ (eq-eqb _ _ z)

      pub along_more : (left - got ≡ 0 → ⊥) → along (k ∷ ks) left rs cs ≡ along ks (left - got) (moved rs' k got) cs'
      along_more z = goes ∙ cond-false _ _ _ (ne_eqb _ _ z)

-- what holds after the call in a push
pub record After (hs ns ls : List ℕ) (a got : ℕ) (rs' cs' : List ℕ) : Type 0 where
  pub covers : got ≤ get_or rs' a 0
  pub fits : get_or rs' (mate_of a) 0 + got ≤ 1800000000
  pub inside : mate_of a < length hs
  pub placed : Placed hs cs'
  pub bounded : Bounded (moved rs' a got)
  pub size : length rs' ≡ length hs

pub after : {hs ns ls : List ℕ} {n : ℕ} (sink top d v a left got : ℕ) (rs cs rs' cs' : List ℕ) → Chained hs ns n → a < length hs → tail_of hs a ≡ v → get_or ls v 0 + suc d ≡ top → get_or ls (head_of hs a) 0 ≡ top - d → length rs ≡ length hs → Placed hs cs → Bounded rs → got ≤ min left (get_or rs a 0) → pushes hs ls sink top d (head_of hs a) (min left (get_or rs a 0)) rs cs ≡ (rs', cs', min left (get_or rs a 0) - got) → After hs ns ls a got rs' cs'
after {hs} {ns} {ls} sink top d v a left got rs cs rs' cs' c ain tv lvv up len pl bd less e =
    let lv : get_or ls (head_of hs a) 0 ≡ suc (get_or ls v 0) = omega arith in
    let good0 = pushes_good hs ls sink c.even top d (head_of hs a) (suc (get_or ls v 0)) (min left (get_or rs a 0)) rs cs lv (omega arith) len pl in
    let good : Good hs ls sink (head_of hs a) (suc (get_or ls v 0)) (min left (get_or rs a 0)) rs cs (rs', cs', min left (get_or rs a 0) - got) = subst (λ (o : Out). Good hs ls sink (head_of hs a) (suc (get_or ls v 0)) (min left (get_or rs a 0)) rs cs o) e good0 in
    let f = good.flows in
    let low : get_or ls (tail_of hs a) 0 < suc (get_or ls v 0) = rw tv (omega arith) in
    let here = f.frame a low in
    let pair = f.pairs a in
    let cap = bd.bound a (omega arith) in
    let min-in : mate_of a < length hs = mate_within a (length hs) c.even ain in
    let same : length rs' ≡ length hs = f.same ∙ len in
    let covers : got ≤ get_or rs' a 0 = omega arith in
    record {
      covers = covers;
      fits = omega arith;
      inside = min-in;
      placed = good.placed;
      bounded = record {
        bound = λ b h.
            let w : b < length rs = let m = moved_length rs' a got in omega arith in
            let q = moved_pairs rs' a got (omega arith) (omega arith) covers b in
            let r = f.pairs b in
            let cap2 = bd.bound b w in
            omega arith;
      };
      size = same;
    }

-- `after`, by the code's names
pub after_call : {hs ns ls : List ℕ} {n : ℕ} (sink top depth v a left got most : ℕ) (rs cs rs' cs' : List ℕ) → Chained hs ns n → (a < length hs) × (tail_of hs a ≡ v) → (depth ≡ 0 → ⊥) → get_or ls v 0 + depth ≡ top → get_or ls (head_of hs a) 0 ≡ top - (depth - 1) → length rs ≡ length hs → Placed hs cs → Bounded rs → most ≡ min left (get_or rs a 0) → got ≤ most → pushes hs ls sink top (depth - 1) (head_of hs a) most rs cs ≡ (rs', cs', most - got) → After hs ns ls a got rs' cs'
after_call {hs} {ns} {ls} sink top depth v a left got most rs cs rs' cs' c p ne lvv up len pl bd m less e =
    after sink top (depth - 1) v a left got rs cs rs' cs' c p.0 p.1 (omega arith) up len pl bd
    (subst (λ (x : ℕ). got ≤ x) m less)
    (subst (λ (x : ℕ). pushes hs ls sink top (depth - 1) (head_of hs a) x rs cs ≡ (rs', cs', x - got)) m e)

pub pushes_on : (hs ls : List ℕ) (sink top depth v lim : ℕ) (rs cs : List ℕ) → (depth ≡ 0 → ⊥) → scans hs ls (pushes hs ls sink top (depth - 1)) v (top - (depth - 1)) (get_or cs v 0) lim rs cs ≡ pushes hs ls sink top depth v lim rs cs
unfolding pushes
pushes_on hs ls sink top zero v lim rs cs = λ ne. absurd (ne refl)
pushes_on hs ls sink top (suc d) v lim rs cs = let one : suc d - 1 ≡ d = omega arith in rw one (λ ne. refl)

pub pushes_at : (hs ls : List ℕ) (sink top depth v lim : ℕ) (rs cs : List ℕ) → depth ≡ 0 → pushes hs ls sink top depth v lim rs cs ≡ (rs, cs, cond (eqb v sink) 0 lim)
unfolding pushes
pushes_at hs ls sink top zero v lim rs cs = λ e. refl
pushes_at hs ls sink top (suc d) v lim rs cs = λ e. absurd (let z : ⊥ = omega arith in z)

pub along_end : (hs ls : List ℕ) (P : ℕ → ℕ → List ℕ → List ℕ → Out) (v lv : ℕ) (ks : List ℕ) (left : ℕ) (rs cs : List ℕ) → ks ≡ [] → along hs ls P v lv ks left rs cs ≡ (rs, set cs v 0, left)
unfolding along
along_end hs ls P v lv ks left rs cs e = rw e refl
