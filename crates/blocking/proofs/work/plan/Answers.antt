use Rattle.std.proofs.Common.{◌≡◌, ◌+◌, eqb, length, sym, ap, ◌∙◌, arith}
use Rattle.drawing.specs.Drawings.{point_count}
use Rattle.drawing.specs.Records.{network, filed}
use Rattle.residual.specs.Laying.{heads_of, room_of}
use Rattle.residual.specs.Plain.{Plain, rack_of, bar_of}
use Rattle.residual.proofs.Arcs.{length_heads, length_room}
use Rattle.residual.proofs.Rooms.{ends_at, bounded_at, outs_at}
use Rattle.residual.proofs.Terminals.{rack, bar, apart}
use Rattle.filing.proofs.Ends.{rack_some, rack_is, bar_some, bar_is}
use Rattle.blocking.proofs.Turns.{sent_bounded}
use Rattle.blocking.proofs.Ending.{dinic_is}
use Rattle.blocking.proofs.work.plan.Goals as goal

pub laid-net-requires : goal.laid-net-requires
laid-net-requires c =
    let d = network c.args.drawing.now in
    let p : Plain d = c.requires.plain in
    let few = p.few_points in
    let few_runs = p.few_runs in
    let runs = c.as_slice.ensures.value in
    let same = ap length runs in
    let rv = c.args.drawing.now.runs.ok.0 in
    let pv = c.args.drawing.now.points.ok.0 in
    let long : point_count d + 1 ≡ length c.args.first.now = omega arith in
    record {
      ends = ends_at d p c.as_slice.result.now (length c.args.first.now) runs long;
      sizes = (omega arith, (omega arith, (omega arith, (omega arith, omega arith))));
    }

pub unwrap-requires : goal.unwrap-requires
unwrap-requires c = rack_some (network c.args.drawing.now) c.requires.plain c.as_slice-2.result.now c.as_slice-2.ensures.value c.terminals-rack.result.0 c.terminals-rack.ensures.rack

pub unwrap-requires-2 : goal.unwrap-requires-2
unwrap-requires-2 c = bar_some (network c.args.drawing.now) c.requires.plain c.as_slice-2.result.now c.as_slice-2.ensures.value c.terminals-rack.result.1 c.terminals-rack.ensures.bar

pub max_flow-total-requires : goal.max_flow-total-requires
max_flow-total-requires c =
    let d = network c.args.drawing.now in
    let p : Plain d = c.requires.plain in
    let few = p.few_points in
    let runs = c.as_slice.ensures.value in
    let heads : c.laid-net.result.head.now ≡ heads_of d.runs = c.laid-net.ensures.heads ∙ ap heads_of runs in
    let room : c.laid-net.new.left ≡ room_of d.runs = c.laid-net.ensures.room ∙ ap room_of runs in
    let rv = c.args.drawing.now.runs.ok.0 in
    let pv = c.args.drawing.now.points.ok.0 in
    let r : c.unwrap.result ≡ rack_of d = rack_is d p c.as_slice-2.result.now c.as_slice-2.ensures.value c.terminals-rack.result.0 c.terminals-rack.ensures.rack c.unwrap.result c.unwrap.ensures in
    let b : c.unwrap-2.result ≡ bar_of d = bar_is d p c.as_slice-2.result.now c.as_slice-2.ensures.value c.terminals-rack.result.1 c.terminals-rack.ensures.bar c.unwrap-2.result c.unwrap-2.ensures in
    let rin = (rack d p).within in
    let bin = (bar d p).within in
    let points = c.laid-net.ensures.points in
    let long : length c.args.first.now ≡ length c.args.level.now = omega arith in
    let hl = ap length heads ∙ length_heads d.runs in
    let rl = ap length room ∙ length_room d.runs in
    record {
      sizes = (omega (arith, points, long), (omega (arith, points), (omega arith, omega (arith, points, few))));
      ends = (omega arith, (omega arith, λ e. apart d p (sym r ∙ e ∙ b)));
      sound = (
        bounded_at d p c.laid-net.new.left room,
        outs_at d p (λ u. eqb u c.unwrap.result) c.laid-net.result.head.now c.laid-net.new.left heads room,
      );
    }

pub file-requires : goal.file-requires
file-requires c =
    let d = network c.args.drawing.now in
    let p : Plain d = c.requires.plain in
    let few = p.few_points in
    let few_runs = p.few_runs in
    let rv = c.args.drawing.now.runs.ok.0 in
    let pv = c.args.drawing.now.points.ok.0 in
    let runs = c.as_slice.ensures.value in
    let room : c.laid-net.new.left ≡ room_of d.runs = c.laid-net.ensures.room ∙ ap room_of runs in
    let sent = c.max_flow-total.ensures.ended.sent in
    let bd = sent_bounded c.laid-net.result.head.now c.unwrap.result c.unwrap-2.result c.max_flow-total.result c.laid-net.new.left c.max_flow-total.new.left sent (bounded_at d p c.laid-net.new.left room) in
    record {
      sizes = (omega arith, (omega arith, (omega arith, omega arith)));
      most = λ a h. let q = bd.bound a h in omega arith;
    }

pub returns : goal.returns
returns c =
    let d = network c.args.drawing.now in
    let p : Plain d = c.requires.plain in
    let pv = c.args.drawing.now.points.ok.0 in
    let runs = c.as_slice.ensures.value in
    let heads : c.laid-net.result.head.now ≡ heads_of d.runs = c.laid-net.ensures.heads ∙ ap heads_of runs in
    let room : c.laid-net.new.left ≡ room_of d.runs = c.laid-net.ensures.room ∙ ap room_of runs in
    let r : c.unwrap.result ≡ rack_of d = rack_is d p c.as_slice-2.result.now c.as_slice-2.ensures.value c.terminals-rack.result.0 c.terminals-rack.ensures.rack c.unwrap.result c.unwrap.ensures in
    let b : c.unwrap-2.result ≡ bar_of d = bar_is d p c.as_slice-2.result.now c.as_slice-2.ensures.value c.terminals-rack.result.1 c.terminals-rack.ensures.bar c.unwrap-2.result c.unwrap-2.ensures in
    let points = c.laid-net.ensures.points in
    let long : length c.laid-net.result.first.now ≡ point_count d + 1 = omega (arith, points, pv) in
    c.file.ensures
    ∙ ap filed (dinic_is d c.laid-net.result.head.now c.laid-net.result.first.now c.laid-net.new.left c.args.level.now c.unwrap.result c.unwrap-2.result
    (c.max_flow-total.new.left, c.max_flow-total.new.level, c.max_flow-total.result) heads c.laid-net.result.started long room r b c.max_flow-total.ensures.out)
