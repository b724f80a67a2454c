-- Labels by the residual paths to the bar.
use Rattle.std.specs.Prelude.{◌≡◌, ℕ, true}
use Rattle.drawing.specs.Counts.{Within}
use Rattle.drawing.specs.Drawings.{Network, point_count, point, is_bar}
use Rattle.drawing.specs.Labels.{is_near, is_far, label}
use Rattle.drawing.specs.Answers.{Answer, Planned, Short}
use Rattle.residual.specs.Paths.{ResidualPath}

-- a plan whose near points are just those from which no residual path leads to the bar under its own flows, and whose
-- far points are just the others
abbrev pub NearUnlessPaths : Network → Answer → Type 0
NearUnlessPaths d (Planned p t ls) =
    (bar v : ℕ) → Within (point_count d) bar → is_bar (point d bar).mark ≡ true → Within (point_count d) v
    → (is_near (label ls v) ≡ true → ResidualPath d p.flows v bar → ⊥)
    × ((ResidualPath d p.flows v bar → ⊥) → is_near (label ls v) ≡ true)
    × (is_far (label ls v) ≡ true → ResidualPath d p.flows v bar)
    × (ResidualPath d p.flows v bar → is_far (label ls v) ≡ true)
NearUnlessPaths d (Short ls) = ⊥
