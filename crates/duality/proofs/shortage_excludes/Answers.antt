use Rattle.duality.proofs.Duality as duality
use Rattle.duality.proofs.shortage_excludes.Goals as goal

pub returns : goal.returns
returns c = duality.shortage_excludes
