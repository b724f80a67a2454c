-- What a draft stands for, and what a line does to it.
use Rattle.std.specs.Prelude.{◌≡◌, Some, None, Ok, Err, Option, Result}
use Rattle.drawing.specs.declared.Refusal.{Refusal}
use Rattle.drawing.specs.Drawings.{Network}
use Rattle.drawing.specs.Records.{network}
use Rattle.rig_drawing.specs.Changes.{answered, held_after}
use Rattle.rig_lines.specs.declared.Item.{Item}
use Rattle.reading.specs.Reading.{Progress, unheaded, headed, line_refusal, rig_after}
use Rattle.rig_draft.specs.declared.Head.{Head}
use Rattle.rig_draft.specs.declared.Draft.{Draft}

-- What a line after the head tells, and what it makes of the rig: a refusal alters nothing.
pub record Followed (h : Head) (was : Network) (x : Item) (r : Result (Unit {0}) Refusal) (is : Network) : Type 0 where
  pub told : r ≡ answered (line_refusal h.form h.runs was x) tt
  pub held : is ≡ held_after (line_refusal h.form h.runs was x) (rig_after was x) was

-- how far the reading is, by the head, if it was read, and the rig
abbrev pub under : Option Head → Network → Progress
under None d = unheaded
under (Some h) d = headed h.form h.runs d

abbrev pub progress : Draft → Progress
progress d = under d.head (network d.rig.drawing)

-- what is told of a step, and where it leaves the reading: a refusal alters nothing
abbrev pub told : Result Progress Refusal → Result (Unit {0}) Refusal
told (Ok q) = Ok tt
told (Err e) = Err e

abbrev pub left : Result Progress Refusal → Progress → Progress
left (Ok q) p = q
left (Err e) p = p
