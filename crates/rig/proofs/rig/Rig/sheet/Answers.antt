use Rattle.drawing.specs.Records.{network}
use Rattle.ledger.proofs.Asking.{solved_ending, sheet_told, sheet_left}
use Rattle.rig.proofs.rig.Rig.sheet.Goals as goal

pub write_sheet-requires : goal.write_sheet-requires
write_sheet-requires c =
    let was = c.args.self.now in
    record { right = (solved_ending (network was.drawing.drawing) was.answer was.standing c.in-Planned.is was.sound).1 }

pub returns-in-Planned : goal.returns-in-Planned
returns-in-Planned c =
    let was = c.args.self.now in
    let d = network was.drawing.drawing in
    record {
      told = sheet_told d was.answer was.standing c.in-Planned.is was.sound c.args.out.now c.write_sheet.result c.write_sheet.ensures.tells;
      left = sheet_left d was.answer was.standing c.in-Planned.is was.sound c.args.out.now _ c.write_sheet.ensures.leaves;
    }
