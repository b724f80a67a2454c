use Rattle.std.proofs.Common.{◌≡◌, ℕ, ◌+◌, eqb, List, length, sym, ap, ◌∙◌, subst, arith}
use Rattle.drawing.specs.Drawings.{point_count}
use Rattle.drawing.specs.Records.{network, filed}
use Rattle.residual.specs.Laying.{heads_of, room_of}
use Rattle.residual.specs.Plain.{Plain, rack_of, bar_of}
use Rattle.residual.proofs.Arcs.{length_heads, length_room}
use Rattle.residual.proofs.Rooms.{ends_at, bounded_at, outs_at}
use Rattle.preflow.specs.Preflow.{Arcs, Ends as Apart}
use Rattle.preflow.proofs.Ending.{arcs, ends, final_bounded, relabel_is}
use Rattle.filing.proofs.Ends.{rack_some, rack_is, bar_some, bar_is}
use Rattle.preflow.proofs.work.plan.Goals as goal

pub laid-net-requires : goal.laid-net-requires
laid-net-requires c =
    let d = network c.args.drawing.now in
    let p : Plain d = c.requires.plain in
    let few = p.few_points in
    let few_runs = p.few_runs in
    let runs = c.as_slice.ensures.value in
    let same = ap length runs in
    let rv = c.args.drawing.now.runs.ok.0 in
    let pv = c.args.drawing.now.points.ok.0 in
    let long : point_count d + 1 ≡ length c.args.first.now = omega arith in
    record {
      ends = ends_at d p c.as_slice.result.now (length c.args.first.now) runs long;
      sizes = (omega arith, (omega arith, (omega arith, (omega arith, omega arith))));
    }

pub unwrap-requires : goal.unwrap-requires
unwrap-requires c = rack_some (network c.args.drawing.now) c.requires.plain c.as_slice-2.result.now c.as_slice-2.ensures.value c.terminals-rack.result.0 c.terminals-rack.ensures.rack

pub unwrap-requires-2 : goal.unwrap-requires-2
unwrap-requires-2 c = bar_some (network c.args.drawing.now) c.requires.plain c.as_slice-2.result.now c.as_slice-2.ensures.value c.terminals-rack.result.1 c.terminals-rack.ensures.bar

pub invariant_of-between : goal.invariant_of-between
invariant_of-between c =
    let d = network c.args.drawing.now in
    let p : Plain d = c.requires.plain in
    let hs = c.laid-net.result.head.now in
    let few = p.few_points in
    let pv = c.args.drawing.now.points.ok.0 in
    let heads : hs ≡ heads_of d.runs = c.laid-net.ensures.heads ∙ ap heads_of c.as_slice.ensures.value in
    let n : c.len.result ≡ point_count d = c.len.ensures ∙ pv in
    let r : c.unwrap.result ≡ rack_of d = rack_is d p c.as_slice-2.result.now c.as_slice-2.ensures.value c.terminals-rack.result.0 c.terminals-rack.ensures.rack c.unwrap.result c.unwrap.ensures in
    let b : c.unwrap-2.result ≡ bar_of d = bar_is d p c.as_slice-2.result.now c.as_slice-2.ensures.value c.terminals-rack.result.1 c.terminals-rack.ensures.bar c.unwrap-2.result c.unwrap-2.ensures in
    record {
      counted = omega (arith, c.laid-net.ensures.points, c.requires.points.0, n, pv);
      few = omega (arith, n, few);
      arcs = subst (λ (m : ℕ). Arcs hs m) (sym n) (subst (λ (xs : List ℕ). Arcs xs (point_count d)) (sym heads) (arcs d p));
      ends = subst (λ (m : ℕ). Apart m c.unwrap.result c.unwrap-2.result) (sym n) (subst (λ (x : ℕ). Apart (point_count d) x c.unwrap-2.result) (sym r) (subst (Apart (point_count d) (rack_of d)) (sym b) (ends d p)));
    }

pub max_flow-total-requires : goal.max_flow-total-requires
max_flow-total-requires c =
    let d = network c.args.drawing.now in
    let p : Plain d = c.requires.plain in
    let few = p.few_points in
    let runs = c.as_slice.ensures.value in
    let heads : c.laid-net.result.head.now ≡ heads_of d.runs = c.laid-net.ensures.heads ∙ ap heads_of runs in
    let room : c.laid-net.new.left ≡ room_of d.runs = c.laid-net.ensures.room ∙ ap room_of runs in
    let rv = c.args.drawing.now.runs.ok.0 in
    let pv = c.args.drawing.now.points.ok.0 in
    let n : c.len.result ≡ point_count d = c.len.ensures ∙ pv in
    let r : c.unwrap.result ≡ rack_of d = rack_is d p c.as_slice-2.result.now c.as_slice-2.ensures.value c.terminals-rack.result.0 c.terminals-rack.ensures.rack c.unwrap.result c.unwrap.ensures in
    let b : c.unwrap-2.result ≡ bar_of d = bar_is d p c.as_slice-2.result.now c.as_slice-2.ensures.value c.terminals-rack.result.1 c.terminals-rack.ensures.bar c.unwrap-2.result c.unwrap-2.ensures in
    let long : length c.args.first.now ≡ c.len.result + 1 = omega (arith, n, pv, c.requires.points.0) in
    let hl = ap length heads ∙ length_heads d.runs in
    let rl = ap length room ∙ length_room d.runs in
    let back = c.requires.arcs.1.1.1 in
    let level = c.requires.points.1.0 in
    let excess = c.requires.points.1.1.0 in
    let height = c.requires.points.1.1.1 in
    let free = c.requires.room in
    record {
      arcs = (omega (arith, hl, rl), omega (arith, hl, rv, back));
      points = (omega (arith, level, n, pv), (omega (arith, excess, n, pv), omega (arith, height, n, pv)));
      room = omega (arith, free, n, pv);
      sound = (
        bounded_at d p c.laid-net.new.left room,
        outs_at d p (λ u. eqb u c.unwrap.result) c.laid-net.result.head.now c.laid-net.new.left heads room,
      );
    }

pub file-requires : goal.file-requires
file-requires c =
    let d = network c.args.drawing.now in
    let p : Plain d = c.requires.plain in
    let few = p.few_points in
    let few_runs = p.few_runs in
    let rv = c.args.drawing.now.runs.ok.0 in
    let pv = c.args.drawing.now.points.ok.0 in
    let runs = c.as_slice.ensures.value in
    let heads : c.laid-net.result.head.now ≡ heads_of d.runs = c.laid-net.ensures.heads ∙ ap heads_of runs in
    let room : c.laid-net.new.left ≡ room_of d.runs = c.laid-net.ensures.room ∙ ap room_of runs in
    let n : c.len.result ≡ point_count d = c.len.ensures ∙ pv in
    let r : c.unwrap.result ≡ rack_of d = rack_is d p c.as_slice-2.result.now c.as_slice-2.ensures.value c.terminals-rack.result.0 c.terminals-rack.ensures.rack c.unwrap.result c.unwrap.ensures in
    let b : c.unwrap-2.result ≡ bar_of d = bar_is d p c.as_slice-2.result.now c.as_slice-2.ensures.value c.terminals-rack.result.1 c.terminals-rack.ensures.bar c.unwrap-2.result c.unwrap-2.ensures in
    let left = c.max_flow-total.auto.left in
    let laid = c.laid-net.auto.left in
    let given = c.requires.arcs.1.1.0 in
    let level = c.max_flow-total.auto.level in
    let levels = c.requires.points.1.0 in
    record {
      sizes = (omega (arith, few, pv), (omega (arith, few_runs, rv), (omega (arith, left, laid, given), omega (arith, level, levels))));
      most = final_bounded d p c.laid-net.result.head.now c.laid-net.new.left c.max_flow-total.new.left c.len.result c.unwrap.result c.unwrap-2.result heads room n r b c.max_flow-total.ensures.left;
    }

pub returns : goal.returns
returns c =
    let d = network c.args.drawing.now in
    let p : Plain d = c.requires.plain in
    let pv = c.args.drawing.now.points.ok.0 in
    let runs = c.as_slice.ensures.value in
    let heads : c.laid-net.result.head.now ≡ heads_of d.runs = c.laid-net.ensures.heads ∙ ap heads_of runs in
    let room : c.laid-net.new.left ≡ room_of d.runs = c.laid-net.ensures.room ∙ ap room_of runs in
    let n : c.len.result ≡ point_count d = c.len.ensures ∙ pv in
    let r : c.unwrap.result ≡ rack_of d = rack_is d p c.as_slice-2.result.now c.as_slice-2.ensures.value c.terminals-rack.result.0 c.terminals-rack.ensures.rack c.unwrap.result c.unwrap.ensures in
    let b : c.unwrap-2.result ≡ bar_of d = bar_is d p c.as_slice-2.result.now c.as_slice-2.ensures.value c.terminals-rack.result.1 c.terminals-rack.ensures.bar c.unwrap-2.result c.unwrap-2.ensures in
    record {
      answer = c.file.ensures
          ∙ ap filed (relabel_is d c.laid-net.result.head.now c.laid-net.new.left c.max_flow-total.new.left c.max_flow-total.new.level c.len.result c.unwrap.result c.unwrap-2.result c.max_flow-total.result
          heads room n r b c.max_flow-total.ensures.left c.max_flow-total.ensures.level c.max_flow-total.ensures.total);
      capacity = c.max_flow-total.ensures.capacity;
    }
