-- Residual paths of a drawing whose runs have flows.
use Rattle.std.specs.Prelude.{◌≡◌, ℕ, zero, suc, true, ◌⊎◌, List, ℤ, pos, ◌<ℤ◌}
use Rattle.drawing.specs.Counts.{Within, nth}
use Rattle.drawing.specs.Drawings.{Network, point_count, run_count, point, run, is_rack}
use Rattle.drawing.specs.Labels.{is_near, label}
use Rattle.drawing.specs.Answers.{Answer, Planned, Short}

-- forward along a run whose flow is below its upper
pub record Forward (d : Network) (flows : List ℤ) (u v : ℕ) : Type 0 where
  pub number : ℕ
  pub within : Within (run_count d) number
  pub from : (run d number).tail ≡ u
  pub to : (run d number).head ≡ v
  pub more : nth flows number (pos 0) <ℤ pos (run d number).upper

-- backward along a run whose flow is above 0
pub record Backward (d : Network) (flows : List ℤ) (u v : ℕ) : Type 0 where
  pub number : ℕ
  pub within : Within (run_count d) number
  pub from : (run d number).head ≡ u
  pub to : (run d number).tail ≡ v
  pub more : pos 0 <ℤ nth flows number (pos 0)

-- j steps from u to v, each forward or backward along a run that can still carry more
abbrev pub Steps : Network → List ℤ → ℕ → ℕ → ℕ → Type 0
Steps d flows zero u v = u ≡ v
Steps d flows (suc j) u v = (w : ℕ) × (Steps d flows j u w) × (Forward d flows w v ⊎ Backward d flows w v)

-- a path from u to v; the empty one leads from a point to itself
pub record ResidualPath (d : Network) (flows : List ℤ) (u v : ℕ) : Type 0 where
  pub count : ℕ
  pub steps : Steps d flows count u v

-- a plan whose near points are just those to which a residual path leads from the rack, under its own flows
abbrev pub NearByPaths : Network → Answer → Type 0
NearByPaths d (Planned p t ls) =
    (rack v : ℕ) → Within (point_count d) rack → is_rack (point d rack).mark ≡ true → Within (point_count d) v
    → (is_near (label ls v) ≡ true → ResidualPath d p.flows rack v) × (ResidualPath d p.flows rack v → is_near (label ls v) ≡ true)
NearByPaths d (Short ls) = ⊥
