-- Labellings, their worth, cuts and shortages.
use Rattle.std.specs.Prelude.{◌≡◌, ℕ, ◌+◌, Bool, true, false, ◌&&◌, ◌||◌, List, length, ℤ, pos, ◌-ℤ◌, ◌<ℤ◌, is_some}
use Rattle.drawing.specs.declared.Kind.{Kind}
use Rattle.drawing.specs.declared.Kind.TheVariants.{Lead, Link}
use Rattle.drawing.specs.declared.Label.{Label}
use Rattle.drawing.specs.declared.Label.TheVariants.{Near, Tight, Far}
use Rattle.drawing.specs.Counts.{Within, sum_to, some_to, only, nth}
use Rattle.drawing.specs.Drawings.{Network, point_count, run_count, point, run, is_rack, is_bar, limit_of}

abbrev pub is_near : Label → Bool
is_near Near = true
is_near Tight = false
is_near Far = false

abbrev pub is_tight : Label → Bool
is_tight Near = false
is_tight Tight = true
is_tight Far = false

abbrev pub is_far : Label → Bool
is_far Near = false
is_far Tight = false
is_far Far = true

-- the label of point v (a stand-in past the end)
abbrev pub label : List Label → ℕ → Label
label ls v = nth ls v Near

-- a label for each point; only a limited point may be tight
pub record Labelling (d : Network) (ls : List Label) : Type 0 where
  pub label_count : length ls ≡ point_count d
  pub tight_limited : (v : ℕ) → Within (point_count d) v → is_tight (label ls v) ≡ true → is_some (point d v).limit ≡ true

-- what a run between two labels adds to the worth: a lead from near to far its upper, a link between near and far its upper
abbrev pub adds : Kind → Label → Label → ℕ → ℕ
adds Lead a b upper = only (is_near a && is_far b) upper
adds Link a b upper = only ((is_near a && is_far b) || (is_far a && is_near b)) upper

-- what it takes away: a lead from tight or far to near or tight its lower
abbrev pub deducts : Kind → Label → Label → ℕ → ℕ
deducts Lead a b lower = only ((is_tight a || is_far a) && (is_near b || is_tight b)) lower
deducts Link a b lower = 0

-- all that the runs add, that the tight points add (each its limit), and that the runs take away
abbrev pub crossing : Network → List Label → ℕ
crossing d ls = sum_to (run_count d) (λ k. adds (run d k).kind (label ls (run d k).tail) (label ls (run d k).head) (run d k).upper)

abbrev pub throttled : Network → List Label → ℕ
throttled d ls = sum_to (point_count d) (λ v. only (is_tight (label ls v)) (limit_of (point d v).limit))

abbrev pub forced : Network → List Label → ℕ
forced d ls = sum_to (run_count d) (λ k. deducts (run d k).kind (label ls (run d k).tail) (label ls (run d k).head) (run d k).lower)

abbrev pub worth : Network → List Label → ℤ
worth d ls = pos (crossing d ls + throttled d ls) -ℤ pos (forced d ls)

abbrev pub far_rack : Network → List Label → Bool
far_rack d ls = some_to (point_count d) (λ v. is_rack (point d v).mark && is_far (label ls v))

abbrev pub near_bar : Network → List Label → Bool
near_bar d ls = some_to (point_count d) (λ v. is_bar (point d v).mark && is_near (label ls v))

-- no far rack (source) and no near bar (sink)
pub record Cut (d : Network) (ls : List Label) : Type 0 where
  pub labelled : Labelling d ls
  pub no_far_rack : far_rack d ls ≡ false
  pub no_near_bar : near_bar d ls ≡ false

-- worth below 0, and not both a far rack and a near bar: a violated cut of Hoffman
pub record Shortage (d : Network) (ls : List Label) : Type 0 where
  pub labelled : Labelling d ls
  pub negative : worth d ls <ℤ pos 0
  pub not_both : (far_rack d ls && near_bar d ls) ≡ false
