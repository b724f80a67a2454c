use Rattle.residual.proofs.Leavers.{first_place}
use Rattle.residual.proofs.net.Net.leaving.Goals as goal

pub leaving_from-requires : goal.leaving_from-requires
leaving_from-requires c = first_place c.args.v c.args.self.started c.requires
