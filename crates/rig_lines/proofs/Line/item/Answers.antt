use Rattle.rig_lines.proofs.Complete.{spelled_exactly}
use Rattle.rig_lines.proofs.Saying.{said_anywhere}
use Rattle.rig_lines.proofs.Line.item.Goals as goal

pub returns : goal.returns
returns c = record { said = c.item_of.ensures; spelled = spelled_exactly; anywhere = said_anywhere }
