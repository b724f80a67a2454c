-- The examples stand, by one test that computes.
use Rattle.std.proofs.Common.{Bool, true, ◌&&◌, List, [], ◌∷◌, Decides, refl}
use Rattle.std.proofs.lemmas.Bool.{and_parts, and_from}
use Rattle.std.proofs.ByRecursion.{Decides-by_and}
use Rattle.drawing.specs.Drawings.{is_lawful}
use Rattle.drawing.specs.Answers.{figure}
use Rattle.drawing.specs.Tests.{same_z, is_right}
use Rattle.drawing.proofs.Deciding.{decides_lawful, decides_right, decides_same_z}
use Rattle.duality.specs.Examples.{Example, examples, Shown, ExamplesStand}

abbrev is_shown : Example → Bool
is_shown e = is_lawful e.drawing && is_right e.drawing e.answer && same_z (figure e.drawing e.answer) e.told

decides_shown : (e : Example) → Decides (is_shown e) (Shown e)
decides_shown e = (
  λ h.
      let (h1, number) = and_parts _ _ h in
      let (law, answer) = and_parts _ _ h1 in
      ((decides_lawful _).0 law, (decides_right _ _).0 answer, (decides_same_z _ _).0 number),
  λ h. and_from _ _ (and_from _ _ ((decides_lawful _).1 h.0) ((decides_right _ _).1 h.1)) ((decides_same_z _ _).1 h.2),
)

abbrev all_shown : List Example → Bool
all_shown [] = true
all_shown (e ∷ es) = is_shown e && all_shown es

pub examples_stand : ExamplesStand
examples_stand = (Decides-by_and is_shown Shown all_shown decides_shown refl (λ _ _. refl) examples).0 refl
