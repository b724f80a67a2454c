use Rattle.std.proofs.Common.{◌≡◌, ℕ, ◌+◌, ◌≢◌, List, length, get_or, set, deque_items, sym, ap, ◌∙◌, subst, arith, get_or-set_same}
use Rattle.drawing.specs.Counts.{Within}
use Rattle.preflow.specs.Push.{Out, serves}
use Rattle.preflow.specs.Preflow.{Lined}
use Rattle.preflow.proofs.Kept.{scans_kept}
use Rattle.preflow.proofs.Lines.{scans_lined, line_short, line_served}
use Rattle.preflow.proofs.Steps.{serves_again, serves_done}
use Rattle.preflow.proofs.between.Between.serve.Goals as goal

-- after the pushes there is room for v
pub push_back_reserved-requires : goal.push_back_reserved-requires
push_back_reserved-requires c =
    let hs = c.args.self.net.head.now in
    let n = c.args.self.points in
    let v = c.args.v in
    let low = c.lowest-low.result in
    let ds : List ℕ = set c.args.height.now v (low + 1) in
    let here : get_or ds v 0 ≡ low + 1 = get_or-set_same c.args.height.now v (low + 1) 0 (omega arith) in
    let nv : get_or ds v 0 ≢ low = λ q. omega (arith, q, here) in
    let vin : Within n v = (c.requires.here.0, c.requires.here.1.0) in
    let rs = c.args.left.now in
    let es = c.args.excess.now in
    let qs : List ℕ = deque_items c.args.queue.now in
    let lr : length rs ≡ length hs = omega arith in
    let le : length es ≡ n + 1 = omega arith in
    let o : Out = (c.drain.new.left, c.drain.new.excess, deque_items c.drain.new.queue) in
    let l0 = scans_lined hs ds n v low c.args.self.source c.args.self.sink c.args.self.arcs vin nv (length hs) rs es qs lr le (omega arith) c.requires.here.1.1 c.requires.queue.0 in
    let l = subst (λ (y : Out). Lined c.args.self.source c.args.self.sink v y.1 y.2) c.drain.ensures.out l0 in
    let k0 = (scans_kept hs ds n v low c.args.self.source c.args.self.sink c.args.self.arcs vin nv (length hs) rs es qs lr le (omega arith)).points in
    let k : length c.drain.new.excess ≡ length es = subst (λ (y : Out). length y.1 ≡ length es) c.drain.ensures.out k0 in
    let s = line_short c.args.self.source c.args.self.sink v c.drain.new.excess (deque_items c.drain.new.queue) l n (k ∙ le) v vin.1 (line_served c.args.self.source c.args.self.sink v c.drain.new.excess (deque_items c.drain.new.queue) l) in
    let q = c.drain.new.queue.ok.0 in
    let cap = c.drain.ensures.capacity in
    let room = c.requires.queue.1 in
    omega (arith, s, q, cap, room)

pub returns-then-excess-v-gt0 : goal.returns-then-excess-v-gt0
returns-then-excess-v-gt0 c =
    let hs = c.args.self.net.head.now in
    let v = c.args.v in
    let low = c.lowest-low.result in
    let is = c.lowest-low.ensures.out in
    let ds : List ℕ = set c.args.height.now v (low + 1) in
    let again = serves_again hs ds c.args.self.source c.args.self.sink v low c.args.left.now c.args.excess.now (deque_items c.args.queue.now) c.drain.new.left c.drain.new.excess (deque_items c.drain.new.queue) c.drain.ensures.out c.if-excess-v-gt0.true in
    record {
      lifted = ap (λ (x : ℕ). set c.args.height.now v (x + 1)) is;
      out = ap (λ (x : ℕ). serves hs ds c.args.self.source c.args.self.sink v x c.args.left.now c.args.excess.now (deque_items c.args.queue.now)) (sym is)
          ∙ again ∙ ap (λ (y : List ℕ). (c.drain.new.left, c.drain.new.excess, y)) (sym c.push_back_reserved.ensures.items);
      capacity = c.push_back_reserved.ensures.capacity ∙ c.drain.ensures.capacity;
    }

pub returns-else-excess-v-gt0 : goal.returns-else-excess-v-gt0
returns-else-excess-v-gt0 c =
    let hs = c.args.self.net.head.now in
    let v = c.args.v in
    let low = c.lowest-low.result in
    let is = c.lowest-low.ensures.out in
    let ds : List ℕ = set c.args.height.now v (low + 1) in
    let done = serves_done hs ds c.args.self.source c.args.self.sink v low c.args.left.now c.args.excess.now (deque_items c.args.queue.now) c.drain.new.left c.drain.new.excess (deque_items c.drain.new.queue) c.drain.ensures.out c.if-excess-v-gt0.false in
    record {
      lifted = ap (λ (x : ℕ). set c.args.height.now v (x + 1)) is;
      out = ap (λ (x : ℕ). serves hs ds c.args.self.source c.args.self.sink v x c.args.left.now c.args.excess.now (deque_items c.args.queue.now)) (sym is) ∙ done;
      capacity = c.drain.ensures.capacity;
    }
