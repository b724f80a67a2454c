-- What the turns end in: the answer is right, and near are the points from which no residual path leads to the bar.
use Rattle.std.proofs.Common.{◌≡◌, ℕ, zero, suc, ◌+◌, ◌-◌, ◌*◌, ◌<◌, ◌≤◌, Bool, true, false, cond, not, eqb, ltb, ◌⊎◌, List, [], ◌∷◌, map, length, get_or, ℤ, sym, refl, ap, ◌∙◌, subst, ap₂, ⊎_elim, arith}
use Rattle.std.specs.List.{range_with_len}
use Rattle.std.proofs.lemmas.Bool.{cases_Bool, lt-ltb, le-ltb, ltb-true, not-true, not_from_true, not_from_false, true≢false}
use Rattle.drawing.specs.declared.Label.{Label}
use Rattle.drawing.specs.declared.Label.TheVariants.{Near, Far}
use Rattle.drawing.specs.Counts.{Within}
use Rattle.drawing.specs.Drawings.{Network, point_count, run_count, run}
use Rattle.drawing.specs.Labels.{is_near, is_far, label}
use Rattle.drawing.specs.Answers.{Answer, Planned, Right}
use Rattle.drawing.specs.Solvers.{Carried}
use Rattle.residual.specs.Net.{mate_of, head_of, tail_of}
use Rattle.residual.specs.Layers.{Layered}
use Rattle.residual.specs.Laying.{heads_of, room_of}
use Rattle.residual.specs.Plain.{Plain, plain_statements, rack_of, bar_of}
use Rattle.residual.specs.Readings.{flows_in, labels_by, plan_in, Solved}
use Rattle.residual.specs.Paths.{Forward, Backward, Steps, ResidualPath}
use Rattle.residual.proofs.Moves.{mate_within, mate_mate}
use Rattle.residual.proofs.Pairs.{each_arc}
use Rattle.residual.proofs.Arcs.{length_heads, length_room, head_of_lem, tail_of_lem, back_head, back_tail}
use Rattle.residual.proofs.Rooms.{bounded, outs_few}
use Rattle.residual.proofs.Terminals.{plain, rack, bar, apart}
use Rattle.residual.proofs.Rights.{right, nth_made}
use Rattle.residual.proofs.Reaches.{step_along, steps_near, near_label}
use Rattle.preflow.specs.Turns.{State, flipped, aims, turns_for, final}
use Rattle.preflow.specs.Fifo.{Fifo}
use Rattle.preflow.specs.Rising.{Rising}
use Rattle.preflow.specs.Opening.{Opened}
use Rattle.preflow.specs.Preflow.{Arcs, Ends, Ended}
use Rattle.preflow.specs.Unpathed.{NearUnlessPaths}
use Rattle.preflow.specs.Model.{state_of, unreached, read, read_state, relabel_answer}
use Rattle.preflow.proofs.Heights.{flipped_at}
use Rattle.preflow.proofs.Progress.{final_ended, final_layered}
use Rattle.preflow.proofs.Order.{fifo, opened, rising}

module _ (d : Network) (p : Plain d) where
  abbrev hs : List ℕ
  hs = heads_of d.runs

  by_arc : (P : ℕ → ℕ → Type 0) → ((k : ℕ) → k < run_count d → P (run d (suc k)).tail (run d (suc k)).head) → ((k : ℕ) → k < run_count d → P (run d (suc k)).head (run d (suc k)).tail) → (a : ℕ) → a < length hs → P (tail_of hs a) (head_of hs a)
  by_arc P f b a h =
      let long = length_heads d.runs in
      each_arc (λ a. P (tail_of hs a) (head_of hs a)) (run_count d)
      (λ k q. subst (λ (u : ℕ). P u (head_of hs (2 * k))) (sym (tail_of_lem d.runs k q)) (subst (P (run d (suc k)).tail) (sym (head_of_lem d.runs k q)) (f k q)))
      (λ k q. subst (λ (u : ℕ). P u (head_of hs (2 * k + 1))) (sym (back_tail d.runs k q)) (subst (P (run d (suc k)).head) (sym (back_head d.runs k q)) (b k q)))
      a (omega arith)

  pub arcs : Arcs hs (point_count d)
  arcs = record {
    even = let l = length_heads d.runs in omega arith;
    some = by_arc (λ u v. 0 < v) (λ k h. let q = (p.lawful.each_run (suc k) (omega arith)).head_in in omega arith) (λ k h. let q = (p.lawful.each_run (suc k) (omega arith)).tail_in in omega arith);
    most = by_arc (λ u v. v ≤ point_count d) (λ k h. let q = (p.lawful.each_run (suc k) (omega arith)).head_in in omega arith) (λ k h. let q = (p.lawful.each_run (suc k) (omega arith)).tail_in in omega arith);
    loopless = by_arc (λ u v. v ≡ u → ⊥) (λ k h e. (p.lawful.each_run (suc k) (omega arith)).apart (sym e)) (λ k h e. (p.lawful.each_run (suc k) (omega arith)).apart e);
  }

  pub ends : Ends (point_count d) (rack_of d) (bar_of d)
  ends = let r = (rack d p).within in let b = (bar d p).within in record {
    source_some = omega arith;
    source_most = omega arith;
    sink_some = omega arith;
    sink_most = omega arith;
    apart = apart d p;
  }

  same : length (room_of d.runs) ≡ length hs
  same = length_room d.runs ∙ sym (length_heads d.runs)

  abbrev last : State
  last = state_of d (turns_for (point_count d))

  abbrev levels : List ℕ
  levels = aims hs last.left (point_count d) (rack_of d) (bar_of d)

  abbrev total : ℕ
  total = get_or last.excess (bar_of d) 0

  pub ended : Ended hs (rack_of d) (bar_of d) (room_of d.runs) last.left levels total
  ended = final_ended hs (room_of d.runs) (point_count d) (rack_of d) (bar_of d) arcs ends same p.few_points (outs_few d p (λ u. eqb u (rack_of d)))

  layered : Layered hs (flipped last.left) (bar_of d) (rack_of d) levels
  layered = final_layered hs (room_of d.runs) (point_count d) (rack_of d) (bar_of d) arcs ends same p.few_points (outs_few d p (λ u. eqb u (rack_of d)))

  solved : Solved d (rack_of d) (bar_of d) last.left (unreached levels) total
  solved =
      let near = ended.near in
      let far = ended.far in
      record {
        sent = ended.sent;
        near_source = not_from_false _ (le-ltb 0 (get_or levels (rack_of d) 0) (omega (arith, near)));
        far_sink = not_from_true _ (lt-ltb 0 (get_or levels (bar_of d) 0) far);
        shut = λ a h n w.
            ⊎_elim
            (λ (t : ltb 0 (get_or levels (head_of hs a) 0) ≡ true).
            let q = ended.shut a h w (ltb-true 0 (get_or levels (head_of hs a) 0) t) in
            absurd (true≢false (sym (lt-ltb 0 (get_or levels (tail_of hs a) 0) q) ∙ not-true _ n)))
            (λ (f : ltb 0 (get_or levels (head_of hs a) 0) ≡ false). not_from_false _ f)
            (cases_Bool (ltb 0 (get_or levels (head_of hs a) 0)));
      }

  abbrev flows : List ℤ
  flows = flows_in (run_count d) last.left

  -- a step in front of a path
  step_first : (j u w v : ℕ) → Forward d flows u w ⊎ Backward d flows u w → Steps d flows j w v → Steps d flows (suc j) u v
  step_first zero u w v s e = (u, refl, subst (λ (y : ℕ). Forward d flows u y ⊎ Backward d flows u y) e s)
  step_first (suc j) u w v s st = (st.0, step_first j u w st.0 s st.1, st.2)

  -- a point of level j + 1 is j steps from the bar
  level_steps : (j u : ℕ) → get_or levels u 0 ≡ suc j → Steps d flows j u (bar_of d)
  level_steps zero u e = layered.least u e
  level_steps (suc j) u e =
      let i = layered.reached u (omega arith) in
      let from = i.from in
      let a = i.arc in
      let lr : length last.left ≡ length hs = ended.sent.same ∙ same in
      let m = mate_within a (length hs) arcs.even i.within in
      let open-mate : 0 < get_or last.left (mate_of a) 0 = let f = flipped_at last.left a (let q = i.within in omega (arith, q, lr)) in let w = i.wide in omega (arith, f, w) in
      let s = step_along d (rack_of d) (bar_of d) last.left total ended.sent (mate_of a) m open-mate in
      let t : tail_of hs (mate_of a) ≡ u = ap (λ (x : ℕ). get_or hs x 0) (mate_mate a) ∙ i.to in
      let s' : Forward d flows u (tail_of hs a) ⊎ Backward d flows u (tail_of hs a) = subst (λ (y : ℕ). Forward d flows y (tail_of hs a) ⊎ Backward d flows y (tail_of hs a)) t s in
      step_first j u (tail_of hs a) (bar_of d) s' (level_steps j (tail_of hs a) (omega (arith, from, e)))

  far_label : (b : Bool) → is_far (cond b Near Far) ≡ not b
  far_label true = refl
  far_label false = refl

  label_is : (v : ℕ) → Within (point_count d) v → label (labels_by (point_count d) (unreached levels)) v ≡ cond (unreached levels v) Near Far
  label_is v w = nth_made (λ u. cond (unreached levels u) Near Far) (point_count d) v _ w

  path_from : (v : ℕ) → unreached levels v ≡ false → ResidualPath d flows v (bar_of d)
  path_from v n =
      let h = ltb-true 0 (get_or levels v 0) (twice (ltb 0 (get_or levels v 0)) n) in
      record { count = get_or levels v 0 - 1; steps = level_steps (get_or levels v 0 - 1) v (omega arith) }
    where
      twice : (b : Bool) → not b ≡ false → b ≡ true
      twice b h = grind arith

  no_path : (v : ℕ) → unreached levels v ≡ true → ResidualPath d flows v (bar_of d) → ⊥
  no_path v n h =
      true≢false (sym (steps_near d (rack_of d) (bar_of d) last.left total ended.sent (unreached levels) solved.shut h.count v (bar_of d) n h.steps) ∙ solved.far_sink)

  near_unless : (v : ℕ) (l : Label) → l ≡ cond (unreached levels v) Near Far
      → (is_near l ≡ true → ResidualPath d flows v (bar_of d) → ⊥) × ((ResidualPath d flows v (bar_of d) → ⊥) → is_near l ≡ true) × (is_far l ≡ true → ResidualPath d flows v (bar_of d)) × (ResidualPath d flows v (bar_of d) → is_far l ≡ true)
  near_unless v l e =
      let n : is_near l ≡ unreached levels v = ap is_near e ∙ near_label (unreached levels v) in
      let f : is_far l ≡ not (unreached levels v) = ap is_far e ∙ far_label (unreached levels v) in (
        λ h. no_path v (sym n ∙ h),
        λ h. n ∙ ⊎_elim (λ (t : unreached levels v ≡ true). t) (λ (t : unreached levels v ≡ false). absurd (h (path_from v t))) (cases_Bool (unreached levels v)),
        λ h. path_from v (not-true (unreached levels v) (sym f ∙ h)),
        λ h. f ∙ ⊎_elim (λ (t : unreached levels v ≡ true). absurd (no_path v t h)) (λ (t : unreached levels v ≡ false). not_from_false (unreached levels v) t) (cases_Bool (unreached levels v)),
      )

  unpathed : NearUnlessPaths d (read_state d last)
  unpathed b v bin isb vin =
      let e : b ≡ bar_of d = (bar d p).alone b bin isb in
      subst (λ (y : ℕ). (is_near (label (labels_by (point_count d) (unreached levels)) v) ≡ true → ResidualPath d flows v y → ⊥) × ((ResidualPath d flows v y → ⊥) → is_near (label (labels_by (point_count d) (unreached levels)) v) ≡ true) × (is_far (label (labels_by (point_count d) (unreached levels)) v) ≡ true → ResidualPath d flows v y) × (ResidualPath d flows v y → is_far (label (labels_by (point_count d) (unreached levels)) v) ≡ true)) (sym e)
      (near_unless v (label (labels_by (point_count d) (unreached levels)) v) (label_is v vin))

pub relabel_right : (d : Network) → Carried plain_statements d → Right d (relabel_answer d)
unfolding relabel_answer
relabel_right d c = let p = plain d c in right d p (last d p).left (unreached (levels d p)) (total d p) (solved d p)

pub relabel_near : (d : Network) → Carried plain_statements d → NearUnlessPaths d (relabel_answer d)
unfolding relabel_answer
relabel_near d c = unpathed d (plain d c)

pub relabel_fifo : (d : Network) → Carried plain_statements d → Fifo (rack_of d) (bar_of d) (state_of d)
relabel_fifo d c = let p = plain d c in fifo (hs d p) (room_of d.runs) (point_count d) (rack_of d) (bar_of d) (arcs d p) (ends d p) (same d p) p.few_points (outs_few d p (λ u. eqb u (rack_of d)))

pub relabel_opened : (d : Network) → Carried plain_statements d → Opened (point_count d) (rack_of d) (bar_of d) (state_of d 0)
relabel_opened d c = let p = plain d c in opened (hs d p) (room_of d.runs) (point_count d) (rack_of d) (bar_of d) (arcs d p) (ends d p) (same d p) p.few_points (outs_few d p (λ u. eqb u (rack_of d)))

pub relabel_rising : (d : Network) → Carried plain_statements d → Rising (point_count d) (rack_of d) (bar_of d) (turns_for (point_count d)) (state_of d)
relabel_rising d c = let p = plain d c in rising (hs d p) (room_of d.runs) (point_count d) (rack_of d) (bar_of d) (arcs d p) (ends d p) (same d p) p.few_points (outs_few d p (λ u. eqb u (rack_of d)))

-- the labels as the record has them: far where a point has a level
far_first : (b : Bool) → cond b Far Near ≡ cond (not b) Near Far
far_first true = refl
far_first false = refl

map_same : {A B : Type 0} (f g : A → B) → ((x : A) → f x ≡ g x) → (xs : List A) → map f xs ≡ map g xs
map_same f g h [] = refl
map_same f g h (x ∷ xs) = ap₂ ◌∷◌ (h x) (map_same f g h xs)

-- the code's turns are those of the answer
pub relabel_is : (d : Network) (hs rs rs' ls : List ℕ) (n source sink total : ℕ) → hs ≡ heads_of d.runs → rs ≡ room_of d.runs → n ≡ point_count d → source ≡ rack_of d → sink ≡ bar_of d
    → rs' ≡ (final hs n source sink rs).left → ls ≡ aims hs rs' n source sink → total ≡ get_or (final hs n source sink rs).excess sink 0
    → Planned (plan_in d rs' total) total (map (λ v. cond (ltb 0 (get_or ls v 0)) Far Near) (range_with_len 1 (point_count d))) ≡ relabel_answer d
unfolding relabel_answer
relabel_is d hs rs rs' ls n source sink total h r m s t a b c =
    ap (λ (ys : List Label). Planned (plan_in d rs' total) total ys) (map_same (λ v. cond (ltb 0 (get_or ls v 0)) Far Near) (λ v. cond (unreached ls v) Near Far) (λ v. far_first (ltb 0 (get_or ls v 0))) (range_with_len 1 (point_count d)))
    ∙ ap (λ (y : List ℕ). read d rs' y total) b
    ∙ ap (λ (y : List ℕ). read d y (aims hs y n source sink) total) a
    ∙ ap (λ (y : ℕ). read d (final hs n source sink rs).left (aims hs (final hs n source sink rs).left n source sink) y) c
    ∙ ap (λ (y : List ℕ). G y rs n source sink) h
    ∙ ap (λ (y : List ℕ). G (heads_of d.runs) y n source sink) r
    ∙ ap (λ (y : ℕ). G (heads_of d.runs) (room_of d.runs) y source sink) m
    ∙ ap (λ (y : ℕ). G (heads_of d.runs) (room_of d.runs) (point_count d) y sink) s
    ∙ ap (λ (y : ℕ). G (heads_of d.runs) (room_of d.runs) (point_count d) (rack_of d) y) t
  where
    G : (hs rs : List ℕ) (n source sink : ℕ) → Answer
    G hs rs n source sink = read d (final hs n source sink rs).left (aims hs (final hs n source sink rs).left n source sink) (get_or (final hs n source sink rs).excess sink 0)

-- no arc can carry more than all that a network can, in the end
pub final_bounded : (d : Network) → Plain d → (hs rs rs' : List ℕ) (n source sink : ℕ) → hs ≡ heads_of d.runs → rs ≡ room_of d.runs → n ≡ point_count d → source ≡ rack_of d → sink ≡ bar_of d → rs' ≡ (final hs n source sink rs).left → (a : ℕ) → a < length rs' → get_or rs' a 0 ≤ 1800000000
final_bounded d p hs rs rs' n source sink h r m s t e a ain =
    let f : (final hs n source sink rs).left ≡ (last d p).left =
    ap (λ (y : List ℕ). (final y n source sink rs).left) h
    ∙ ap (λ (y : List ℕ). (final (heads_of d.runs) n source sink y).left) r
    ∙ ap (λ (y : ℕ). (final (heads_of d.runs) y source sink (room_of d.runs)).left) m
    ∙ ap (λ (y : ℕ). (final (heads_of d.runs) (point_count d) y sink (room_of d.runs)).left) s
    ∙ ap (λ (y : ℕ). (final (heads_of d.runs) (point_count d) (rack_of d) y (room_of d.runs)).left) t in
    let sent = (ended d p).sent in
    let q = ap (λ (ys : List ℕ). get_or ys a 0) (e ∙ f) in
    let l = ap length (e ∙ f) in
    let pr = sent.pairs a in
    let sm = sent.same in
    let b = (bounded d p).bound a (omega (arith, l, sm, ain)) in
    omega (arith, q, pr, b)
