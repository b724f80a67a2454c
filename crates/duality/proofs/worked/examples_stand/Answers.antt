use Rattle.duality.proofs.Examples.{examples_stand}
use Rattle.duality.proofs.worked.examples_stand.Goals as goal

pub returns : goal.returns
returns c = record { count = c.how_many.ensures; stand = examples_stand }
