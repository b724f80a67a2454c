use Rattle.std.proofs.Common.{arith}
use Rattle.drawing.specs.Drawings.{run_count}
use Rattle.drawing.specs.Records.{network}
use Rattle.rig_drawing.specs.Changes.{lay_refusal, laid}
use Rattle.rig_draft.proofs.Drafting.{late}
use Rattle.rig_draft.proofs.Head.lay.Goals as goal

pub returns-then-len-self : goal.returns-then-len-self
returns-then-len-self c =
    let d = network c.args.rig.now.drawing in
    let out = late (run_count d) c.args.self.runs (lay_refusal d c.args.run) (laid d c.args.run) d (omega arith) in
    record { told = out.told; held = out.held }
