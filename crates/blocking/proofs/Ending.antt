-- What the phases end in: the answer is right, and near are the points that residual paths lead to.
use Rattle.std.proofs.Common.{◌≡◌, ℕ, zero, suc, ◌+◌, ◌%◌, ◌<◌, eqb, List, [], length, get_or, sym, refl, ap, ◌∙◌, arith}
use Rattle.std.proofs.lemmas.Bool.{lt-ltb, le-ltb, ltb-true}
use Rattle.drawing.specs.Drawings.{Network, point_count}
use Rattle.drawing.specs.Answers.{Right}
use Rattle.drawing.specs.Solvers.{Carried}
use Rattle.residual.specs.Net.{head_of, tail_of, Started}
use Rattle.residual.specs.Laying.{heads_of, room_of, firsts_of}
use Rattle.residual.specs.Plain.{Plain, plain_statements, rack_of, bar_of}
use Rattle.residual.specs.Readings.{Solved}
use Rattle.residual.specs.Paths.{NearByPaths}
use Rattle.residual.proofs.Arcs.{length_heads, length_room, heads_within, length_firsts, firsts_started, firsts_is}
use Rattle.residual.proofs.Rooms.{ends, outs_few}
use Rattle.residual.proofs.Terminals.{plain, rack, apart}
use Rattle.residual.proofs.Rights.{right}
use Rattle.residual.proofs.Reaches.{near_by_paths}
use Rattle.blocking.specs.Push.{Out}
use Rattle.blocking.specs.Phases.{phases, Ended}
use Rattle.blocking.proofs.Turns.{phases_ended, sent_none}
use Rattle.blocking.specs.Model.{ending, reached, read, dinic_answer}

module _ (d : Network) (p : Plain d) where
  pub even : length (heads_of d.runs) % 2 ≡ 0
  even = let l = length_heads d.runs in omega arith

  ended : (f : ℕ) → 1800000000 < f → Ended (heads_of d.runs) (rack_of d) (bar_of d) (room_of d.runs) (ending d f)
  ended f h =
      let hs = heads_of d.runs in
      let rs = room_of d.runs in
      let n = point_count d + 1 in
      let fs = firsts_of hs n in
      let long = length_firsts hs n in
      let few = p.few_points in
      let r = (rack d p).within in
      let same : length rs ≡ length hs = length_room d.runs ∙ sym (length_heads d.runs) in
      let most = outs_few d p (λ u. eqb u (rack_of d)) in
      phases_ended hs fs (rack_of d) (bar_of d) (apart d p) even (λ a w. let q = heads_within d.runs n (ends d p) a w in omega arith) (firsts_started hs n) (omega arith) (omega arith)
      rs f rs [] 0 same (sent_none hs (rack_of d) (bar_of d) rs) (omega arith)

  solved : (o : Out) → Ended (heads_of d.runs) (rack_of d) (bar_of d) (room_of d.runs) o → Solved d (rack_of d) (bar_of d) o.0 (reached o.1) o.2
  solved o e =
      let first = e.layered.first in
      let last = e.apart in
      record {
        sent = e.sent;
        near_source = lt-ltb 0 (get_or o.1 (rack_of d) 0) (omega arith);
        far_sink = le-ltb 0 (get_or o.1 (bar_of d) 0) (omega arith);
        shut = λ a h n w.
            let hs = heads_of d.runs in
            lt-ltb 0 (get_or o.1 (head_of hs a) 0) (e.layered.shut e.apart a h (ltb-true 0 (get_or o.1 (tail_of hs a) 0) n) w).0;
      }

  right_after : (f : ℕ) → 1800000000 < f → Right d (read d (ending d f))
  right_after f h = let o : Out = ending d f in right d p o.0 (reached o.1) o.2 (solved o (ended f h))

  near_after : (f : ℕ) → 1800000000 < f → NearByPaths d (read d (ending d f))
  near_after f h = let o : Out = ending d f in near_by_paths d p o.0 o.1 o.2 (solved o (ended f h)) (ended f h).layered

pub dinic_right : (d : Network) → Carried plain_statements d → Right d (dinic_answer d)
unfolding dinic_answer
dinic_right d c = right_after d (plain d c) 1800000001 (omega arith)

pub dinic_near : (d : Network) → Carried plain_statements d → NearByPaths d (dinic_answer d)
unfolding dinic_answer
dinic_near d c = near_after d (plain d c) 1800000001 (omega arith)

-- the first phase passes over the levels that stood before
phases_any : (hs fs : List ℕ) (source sink f : ℕ) (rs ls ms : List ℕ) (total : ℕ) → 0 < f → phases hs fs source sink f rs ls total ≡ phases hs fs source sink f rs ms total
unfolding phases
phases_any hs fs source sink zero rs ls ms total h = absurd (let z : ⊥ = omega arith in z)
phases_any hs fs source sink (suc f) rs ls ms total h = refl

ending_by : (d : Network) (hs fs rs ls : List ℕ) (source sink f : ℕ) → 0 < f → hs ≡ heads_of d.runs → fs ≡ firsts_of (heads_of d.runs) (point_count d + 1) → rs ≡ room_of d.runs → source ≡ rack_of d → sink ≡ bar_of d
    → ending d f ≡ phases hs fs source sink f rs ls 0
ending_by d hs fs rs ls source sink f pos h g r s t =
    sym (ap (λ x. phases x fs source sink f rs ls 0) h
    ∙ ap (λ x. phases (heads_of d.runs) x source sink f rs ls 0) g
    ∙ ap (λ x. phases (heads_of d.runs) (firsts_of (heads_of d.runs) (point_count d + 1)) source sink f x ls 0) r
    ∙ ap (λ x. phases (heads_of d.runs) (firsts_of (heads_of d.runs) (point_count d + 1)) x sink f (room_of d.runs) ls 0) s
    ∙ ap (λ x. phases (heads_of d.runs) (firsts_of (heads_of d.runs) (point_count d + 1)) (rack_of d) x f (room_of d.runs) ls 0) t
    ∙ phases_any (heads_of d.runs) (firsts_of (heads_of d.runs) (point_count d + 1)) (rack_of d) (bar_of d) f (room_of d.runs) ls [] 0 pos)

-- the code's phases are those of the answer
pub dinic_is : (d : Network) (hs fs rs ls : List ℕ) (source sink : ℕ) (o : Out) → hs ≡ heads_of d.runs → Started hs fs → length fs ≡ point_count d + 1 → rs ≡ room_of d.runs → source ≡ rack_of d → sink ≡ bar_of d
    → phases hs fs source sink 1800000001 rs ls 0 ≡ o → read d o ≡ dinic_answer d
unfolding dinic_answer
dinic_is d hs fs rs ls source sink o h st long r s t e =
    let g : fs ≡ firsts_of (heads_of d.runs) (point_count d + 1) = firsts_is hs fs (point_count d + 1) long st ∙ ap (λ x. firsts_of x (point_count d + 1)) h in
    sym (ap (read d) (ending_by d hs fs rs ls source sink 1800000001 (omega arith) h g r s t ∙ e))
