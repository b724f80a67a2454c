use Rattle.std.specs.Prelude.{vec_items}
use Rattle.drawing.specs.Answers.{Planned}
use Rattle.drawing.specs.Records.{network, plan_in}
use Rattle.drawing.proofs.Deciding.{decides_admissible, decides_right}
use Rattle.checkers.proofs.Guards.{guarded}
use Rattle.checkers.proofs.answers.is_right.Goals as goal

pub returns-in-Plan : goal.returns-in-Plan
returns-in-Plan c =
    let d = network c.args.d.now in
    let a = c.args.answer.now in
    rw c.in-Plan.is (guarded _ _ (decides_admissible d) (decides_right d (Planned (plan_in a) a.total (vec_items a.labels))) _ c.is_right_plan.ensures)
