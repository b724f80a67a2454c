use Rattle.std.proofs.Common.{◌≡◌, replicate, vec_items, vec_len, vec_capacity}
use Rattle.drawing.specs.Drawings.{no_point}
use Rattle.rig_drawing.proofs.bounded.making.restore.Given as goal

abbrev pub invariant-loop-v : goal.invariant-loop-v
invariant-loop-v l = (vec_items l.points ≡ replicate l._v no_point) × (vec_len l.points ≡ l._v) × (vec_capacity l.points ≡ vec_capacity l.initial.points)
