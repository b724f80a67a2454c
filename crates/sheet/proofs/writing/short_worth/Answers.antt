use Rattle.std.proofs.Common.{◌≡◌, List, ℤ, is_some, Some, sym, ap, ◌∙◌, subst, w64, SFits, to_z, of_z, rules}
use Rattle.std.proofs.lemmas.Int.{to_z-of_z}
use Rattle.drawing.specs.declared.Label.{Label}
use Rattle.drawing.specs.Drawings.{Network}
use Rattle.drawing.specs.Labels.{Shortage, worth}
use Rattle.drawing.specs.Records.{network}
use Rattle.checkers.specs.Told.{told_worth}
use Rattle.duality.proofs.Findings.{worth_told}
use Rattle.rig_drawing.specs.Bounds.{Bounded}
use Rattle.sheet.specs.Columns.{Small}
use Rattle.sheet.proofs.Fitting.{admissible, small_worth}
use Rattle.sheet.proofs.Passing.{passed_on}
use Rattle.sheet.proofs.writing.short_worth.Goals as goal

module _ (d : Network) (ls : List Label) (bounded : Bounded d) (short : Shortage d ls) where
  told : told_worth d ls ≡ Some (worth d ls)
  told = worth_told d ls (admissible d bounded) short.labelled

  -- what is told is the worth
  told_worth_lem : (z : ℤ) → SFits w64 z → told_worth d ls ≡ Some z → to_z w64 (of_z w64 z) ≡ worth d ls
  told_worth_lem z fits e = let is = told in to_z-of_z w64 z fits ∙ cc

pub unwrap-requires : goal.unwrap-requires
unwrap-requires c = ap is_some (c.worth.ensures ∙ told (network c.args.d.now) c.args.labels.now c.requires.bounded c.requires.right)

pub small_number-requires : goal.small_number-requires
small_number-requires c =
    let d = network c.args.d.now in
    let ls = c.args.labels.now in
    let fits : SFits w64 c.unwrap.result = search rules in
    let is = told_worth_lem d ls c.requires.bounded c.requires.right c.unwrap.result fits (sym c.worth.ensures ∙ c.unwrap.ensures) in
    subst (λ (z : ℤ). Small z) (sym is) (small_worth d c.requires.bounded ls)

pub returns : goal.returns
returns c =
    let d = network c.args.d.now in
    let ls = c.args.labels.now in
    let fits : SFits w64 c.unwrap.result = search rules in
    let is = told_worth_lem d ls c.requires.bounded c.requires.right c.unwrap.result fits (sym c.worth.ensures ∙ c.unwrap.ensures) in
    let small = small_worth d c.requires.bounded ls in
    let value = passed_on c.small_number.result (worth d ls) (c.small_number.ensures ∙ is) small in
    record { value = value; small = subst (λ (z : ℤ). Small z) (sym value) small }
