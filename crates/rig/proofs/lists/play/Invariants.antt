use Rattle.std.proofs.Common.{◌≡◌, ◌≤◌, map, length, vec_items, vec_len, vec_capacity}
use Rattle.ledger.specs.Calls.{request, reply}
use Rattle.ledger.proofs.Going.{Going}
use Rattle.rig.specs.Rigs.{ledger_of}
use Rattle.rig.proofs.lists.play.Given as goal

abbrev pub invariant-loop-call : goal.invariant-loop-call
invariant-loop-call g l =
    (vec_len l.told ≡ l.call-index) × (length l.initial.calls ≤ vec_capacity l.told)
    × Going (request g.S.Solver.states g.S.Solver.answer) (ledger_of l.initial.rig) l.initial.calls l.call-index (map reply (vec_items l.told)) l.calls (ledger_of l.rig)
