-- What the checks tell as a number: none unless the drawing is admissible and the list fits it.
use Rattle.std.specs.Prelude.{ℕ, ◌+◌, Bool, cond, not, ◌&&◌, ◌||◌, List, [], ◌∷◌, length, ℤ, Some, None, Option, ◌==◌}
use Rattle.drawing.specs.declared.Feature.{Feature}
use Rattle.drawing.specs.declared.Feature.TheVariants.{LowerBounds, Links, Limits, Terminals}
use Rattle.drawing.specs.declared.Label.{Label}
use Rattle.drawing.specs.declared.Label.TheVariants.{Near, Tight, Far}
use Rattle.drawing.specs.declared.Mark.{Mark}
use Rattle.drawing.specs.declared.Mark.TheVariants.{Plain, Rack, Bar}
use Rattle.drawing.specs.declared.Point.{Point}
use Rattle.drawing.specs.declared.Run.{Run}
use Rattle.drawing.specs.Counts.{only}
use Rattle.drawing.specs.Drawings.{Network, point_count, is_rack, is_bar, limit_of, is_admissible, units}
use Rattle.drawing.specs.Plans.{sum_of}
use Rattle.drawing.specs.Labels.{is_near, is_tight, is_far, label, adds, deducts, worth}
use Rattle.drawing.specs.Tests.{is_under, is_labelling}

abbrev pub told_units : Network → Option ℕ
told_units d = cond (is_admissible d) (Some (units d)) None

-- of a list with a supply for each point
abbrev pub told_total : Network → List ℕ → Option ℕ
told_total d supplies = cond (is_admissible d && length supplies == point_count d) (Some (sum_of supplies)) None

-- of a labelling
abbrev pub told_worth : Network → List Label → Option ℤ
told_worth d ls = cond (is_admissible d && is_labelling d ls) (Some (worth d ls)) None

-- the drawing of these points and runs
abbrev pub drawn : List Point → List Run → Network
drawn points runs = record { points = points; runs = runs }

-- the features, in their order
abbrev pub features : List Feature
features = LowerBounds ∷ Links ∷ Limits ∷ Terminals ∷ []

-- what a plan owes at a point: with what is supplied and delivered there, what enters and what leaves
abbrev pub kept_at : Point → ℕ → ℕ → ℕ → ℕ → Bool
kept_at p supplied delivered entered left =
    (is_rack p.mark || supplied == 0) && (is_bar p.mark || delivered == 0)
    && entered + supplied == left + delivered && is_under p.limit (entered + supplied)

-- what a run, or a point with a limit, adds to the worth under these labels, and what a run takes away
abbrev pub run_adds : List Label → Run → ℕ
run_adds ls r = adds r.kind (label ls r.tail) (label ls r.head) r.upper

abbrev pub run_deducts : List Label → Run → ℕ
run_deducts ls r = deducts r.kind (label ls r.tail) (label ls r.head) r.lower

abbrev pub point_adds : Label → Option ℕ → ℕ
point_adds l limit = only (is_tight l) (limit_of limit)

-- whether a mark is the first one
abbrev pub has_mark : Mark → Mark → Bool
has_mark Plain m = not (is_rack m) && not (is_bar m)
has_mark Rack m = is_rack m
has_mark Bar m = is_bar m

-- whether a label is the first one
abbrev pub has_label : Label → Label → Bool
has_label Near l = is_near l
has_label Tight l = is_tight l
has_label Far l = is_far l
