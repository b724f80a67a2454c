use Rattle.std.proofs.Common.{[], ◌∷◌, ◌++◌, ap, ◌∙◌, arith}
use lib.ListN.{replicate-append-replicate}
use Rattle.drawing.specs.Drawings.{no_point}
use Rattle.rig_drawing.proofs.bounded.making.restore.Goals as goal

pub loop-v-preserved : goal.loop-v-preserved
loop-v-preserved c = (
  c.push_reserved.ensures.items ∙ ap (λ xs. xs ++ (no_point ∷ [])) c.loop-v.invariant.0 ∙ replicate-append-replicate c.loop-v._v 1 no_point,
  omega arith,
  omega arith,
)
