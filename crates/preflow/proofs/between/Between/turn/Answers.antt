use Rattle.std.proofs.Common.{◌≡◌, deque_items, ◌∙◌}
use Rattle.preflow.specs.Turns.{refreshed}
use Rattle.preflow.proofs.Steps.{refreshed_yes, refreshed_no, turned_is}
use Rattle.preflow.proofs.between.Between.turn.Goals as goal
use Rattle.preflow.proofs.between.Between.turn.Goals.{then-k-eq127, else-k-eq127}

pub returns : goal.returns
returns c =
    let hs = c.args.self.net.head.now in
    let n = c.args.self.points in
    let rs = c.args.left.now in
    let ds = c.args.height.now in
    let up = c.if-k-eq127.height in
    let is : up ≡ refreshed hs n c.args.self.source c.args.self.sink c.args.k rs ds =
    elim c.if-k-eq127.branch [
      | then-k-eq127 w ↦ refreshed_yes hs n c.args.self.source c.args.self.sink c.args.k rs ds w.aim.new.level up w.if-k-eq127.true w.aim.ensures (w.height-is ∙ w.raise.ensures)
      | else-k-eq127 w ↦ refreshed_no hs n c.args.self.source c.args.self.sink c.args.k rs ds up w.if-k-eq127.false w.height-is
    ] in
    record {
      out = turned_is hs n c.args.self.source c.args.self.sink c.args.k c.args.v rs c.args.excess.now ds (deque_items c.args.queue.now) up c.serve.new.height c.serve.new.left c.serve.new.excess (deque_items c.serve.new.queue) is c.serve.ensures.lifted c.serve.ensures.out;
      capacity = c.serve.ensures.capacity;
    }
