use Rattle.preflow.proofs.Ending.{relabel_rising}
use Rattle.push_relabel.proofs.solver.PushRelabel.new.Goals as goal

pub returns-in_err-net-clause-rising : goal.returns-in_err-net-clause-rising
returns-in_err-net-clause-rising c = relabel_rising

pub returns-in_err-back-clause-rising : goal.returns-in_err-back-clause-rising
returns-in_err-back-clause-rising c = relabel_rising

pub returns-in_err-excess-clause-rising : goal.returns-in_err-excess-clause-rising
returns-in_err-excess-clause-rising c = relabel_rising

pub returns-in_err-height-clause-rising : goal.returns-in_err-height-clause-rising
returns-in_err-height-clause-rising c = relabel_rising

pub returns-in_err-queue-clause-rising : goal.returns-in_err-queue-clause-rising
returns-in_err-queue-clause-rising c = relabel_rising

pub returns-clause-rising : goal.returns-clause-rising
returns-clause-rising c = relabel_rising
