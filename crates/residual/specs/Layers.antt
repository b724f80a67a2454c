-- What the levels of a search mean.
use Rattle.std.specs.Prelude.{◌≡◌, ℕ, ◌+◌, ◌<◌, ◌≤◌, List, length, slice_index, slice_index_or}
use Rattle.residual.specs.Net.{head_of, tail_of}

-- an open arc goes to u from a point of which P holds
pub record Into (hs rs : List ℕ) (P : ℕ → Type 0) (u : ℕ) : Type 0 where
  pub arc : ℕ
  pub within : arc < length hs
  pub to : head_of hs arc ≡ u
  pub wide : 0 < slice_index rs arc
  pub from : P (tail_of hs arc)

-- level 1 is the source's alone, each other level's points are reached from the level before, and
-- the points with a level are left by no open arc where the sink has none
pub record Layered (hs rs : List ℕ) (source sink : ℕ) (l : List ℕ) : Type 0 where
  pub least : (u : ℕ) → slice_index l u ≡ 1 → u ≡ source
  pub first : slice_index_or l source 0 ≡ 1
  pub reached : (u : ℕ) → 1 < slice_index l u → Into hs rs (λ t. slice_index l t + 1 ≡ slice_index l u) u
  pub low : (u : ℕ) → slice_index l u ≤ 130
  pub shut : slice_index_or l sink 0 ≡ 0 → (a : ℕ) → a < length hs → 0 < slice_index l (tail_of hs a) → 0 < slice_index rs a → (0 < slice_index l (head_of hs a)) × (slice_index l (head_of hs a) ≤ slice_index l (tail_of hs a) + 1)
