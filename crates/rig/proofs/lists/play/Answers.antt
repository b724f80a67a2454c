use Rattle.std.proofs.Common.{◌≡◌, [], ◌∷◌, ◌++◌, map, get_or, vec_items, refl, ap, ◌∙◌, arith}
use Rattle.std.proofs.lemmas.List.{map_push}
use Rattle.rig_drawing.proofs.Bounding.{decides_bounded}
use Rattle.ledger.specs.Calls.{request, reply}
use Rattle.ledger.proofs.Going.{going_more, going_all}
use Rattle.ledger.proofs.Meaning.{law_gone}
use Rattle.rig.specs.Rigs.{ledger_of}
use Rattle.rig.proofs.lists.play.Goals as goal

pub loop-call-preserved : goal.loop-call-preserved
loop-call-preserved g c =
    let ask = request g.S.Solver.states g.S.Solver.answer in
    let told : map reply (vec_items c.push_reserved.new.self) ≡ map reply (vec_items c.loop-call.told) ++ (reply c.perform-answer.result ∷ []) = ap (map reply) c.push_reserved.ensures.items ∙ map_push reply (vec_items c.loop-call.told) c.perform-answer.result in (
      omega arith,
      omega arith,
      going_more ask (ledger_of c.args.rig.now) c.args.calls.now c.loop-call.call-index (map reply (vec_items c.loop-call.told)) c.loop-call.calls (ledger_of c.loop-call.rig)
          c.loop-call.invariant.2 c.call-item.result (get_or c.loop-call.calls c.loop-call.call-index c.call-item.result) c.perform-answer.new.call
          (reply c.perform-answer.result) (ledger_of c.perform-answer.new.self) c.loop-call.auto.calls c.loop-call-test.true refl
          c.perform-answer.ensures.told c.perform-answer.ensures.left c.perform-answer.ensures.held
          (map reply (vec_items c.push_reserved.new.self)) told,
    )

pub returns : goal.returns
returns g c =
    law_gone g.S.Solver.states g.S.Solver.answer g.met.S.Solver.right
    (ledger_of c.args.rig.now) (ledger_of c.loop-call.rig) c.args.calls.now c.loop-call.calls (map reply (vec_items c.loop-call.told))
    (going_all (request g.S.Solver.states g.S.Solver.answer) (ledger_of c.args.rig.now) c.args.calls.now c.loop-call.call-index
    (map reply (vec_items c.loop-call.told)) c.loop-call.calls (ledger_of c.loop-call.rig) c.loop-call.invariant.2 c.loop-call.auto.calls (omega arith))
    ((decides_bounded _).0 c.args.rig.now.drawing.bounds)
