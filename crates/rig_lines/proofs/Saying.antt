-- A line says just what it spells, wherever it stands.
use Rattle.std.proofs.Common.{◌≡◌, ℕ, Bool, true, false, List, Some, None, Option, refl}
use Rattle.std.specs.Option.{option_map, option_or}
use Rattle.std.specs.Bool.{then_some}
use Rattle.rig_lines.specs.declared.LineKind.{LineKind}
use Rattle.rig_lines.specs.declared.LineKind.TheVariants as kind
use Rattle.rig_lines.specs.Fields.{word_at, ends_at, lone}
use Rattle.rig_lines.specs.Codes.{kind_of}
use Rattle.rig_lines.specs.Shapes.{Shape, and_then, second, third, fourth, two_parts, three_parts, four_parts, of_kind, shape_of}
use Rattle.rig_lines.specs.Items.{item_of, said_by, SaidAnywhere}

-- what the fields say, where there are any
told : (t : Bool) {A : Type 0} (f : A → Shape) (x y : A) → item_of (f x) ≡ item_of (f y) → and_then (option_map f (then_some t x)) item_of ≡ and_then (option_map f (then_some t y)) item_of
told true f x y e = e
told false f x y e = refl

told_either : (t u : Bool) {A B : Type 0} (f : A → Shape) (g : B → Shape) (x y : A) (z w : B) → item_of (f x) ≡ item_of (f y) → item_of (g z) ≡ item_of (g w)
    → and_then (option_or (option_map f (then_some t x)) (option_map g (then_some u z))) item_of ≡ and_then (option_or (option_map f (then_some t y)) (option_map g (then_some u w))) item_of
told_either true u f g x y z w e h = e
told_either false u f g x y z w e h = told u g z w h

kind_anywhere : (k : LineKind) (s : ℕ) (l : List ℕ) → and_then (of_kind k s l) item_of ≡ and_then (of_kind k 0 l) item_of
unfolding two_parts three_parts four_parts
kind_anywhere kind.Comment s l = refl
kind_anywhere kind.Head s l = told (ends_at l (third l)) _ _ _ refl
kind_anywhere kind.Role s l = told (ends_at l (second l)) _ _ _ refl
kind_anywhere kind.Limit s l = told (ends_at l (second l)) _ _ _ refl
kind_anywhere kind.Lead s l = told_either (ends_at l (third l)) (ends_at l (fourth l)) _ _ _ _ _ _ refl refl
kind_anywhere kind.Link s l = told (ends_at l (third l)) _ _ _ refl

pub said_anywhere : SaidAnywhere
unfolding shape_of said_by
said_anywhere s l = by_first (and_then (lone (word_at l 0)) kind_of)
  where
    by_first : (o : Option LineKind) → and_then (and_then o (λ k. of_kind k s l)) item_of ≡ and_then (and_then o (λ k. of_kind k 0 l)) item_of
    by_first None = refl
    by_first (Some k) = kind_anywhere k s l
