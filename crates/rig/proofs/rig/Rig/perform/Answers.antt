use Rattle.std.proofs.Common.{rules}
use Rattle.std.proofs.lemmas.List.{with_items_is}
use Rattle.rig.proofs.rig.Rig.perform.Goals as goal

pub returns-in_default-Sheet : goal.returns-in_default-Sheet
returns-in_default-Sheet g c = record { held = search rules; told = search rules; left = search (rules, with_items_is) }
