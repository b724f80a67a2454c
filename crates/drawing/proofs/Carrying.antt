-- A drawing is refused by a solver exactly when it is not carried.
use Rattle.std.proofs.Common.{◌≡◌, ℕ, Bool, true, false, cond, not, ◌&&◌, Some, None, Option, refl, ap, arith}
use Rattle.std.proofs.lemmas.Bool.{leb-true, le-leb, and_parts, and_from}
use Rattle.drawing.specs.declared.Feature.{Feature}
use Rattle.drawing.specs.declared.Feature.TheVariants.{LowerBounds, Links, Limits, Terminals}
use Rattle.drawing.specs.declared.Refusal.TheVariants.{BrokenDrawing, Unsupported, TooLarge}
use Rattle.drawing.specs.declared.Statements.{Statements}
use Rattle.drawing.specs.Drawings.{Network, is_admissible, uses}
use Rattle.drawing.specs.Solvers.{Carried, says_yes, lacks, is_within, code_of, refusal}
use Rattle.drawing.proofs.Deciding.{decides_admissible}

-- over bare tests: the drawing is admissible, the four features are lacking, the numbers are kept
abbrev decision : Bool → Bool → Bool → Bool → Bool → Bool → Option (ℕ × Option ℕ)
decision l a b c e w = code_of (cond l
    (elim (cond a (Some LowerBounds) (cond b (Some Links) (cond c (Some Limits) (cond e (Some Terminals) None)))) [ Some f ↦ Some (Unsupported f) | None ↦ cond w None (Some TooLarge) ])
    (Some BrokenDrawing))

record Passed (l a b c e w : Bool) : Type 0 where
  pub admissible : l ≡ true
  pub lowers : a ≡ false
  pub links : b ≡ false
  pub limits : c ≡ false
  pub terminals : e ≡ false
  pub within : w ≡ true

passed : (l a b c e w : Bool) → decision l a b c e w ≡ None → Passed l a b c e w
passed l a b c e w h = record { admissible = grind arith; lowers = grind arith; links = grind arith; limits = grind arith; terminals = grind arith; within = grind arith }

not_refused : (l a b c e w : Bool) → Passed l a b c e w → decision l a b c e w ≡ None
not_refused l a b c e w p = rw (p.admissible, p.lowers, p.links, p.limits, p.terminals, p.within)

taken : (x y : Bool) → (x && not y) ≡ false → x ≡ true → y ≡ true
taken x y h e = grind arith

not_lacking : (x y : Bool) → (x ≡ true → y ≡ true) → (x && not y) ≡ false
not_lacking true y h = ap not (h refl)
not_lacking false y h = refl

module _ (s : Statements) (d : Network) where
  pub carried : refusal s d ≡ None → Carried s d
  carried h =
      let p = passed (is_admissible d) (lacks s d LowerBounds) (lacks s d Links) (lacks s d Limits) (lacks s d Terminals) (is_within s d) h in
      let (most, units?) = and_parts _ _ p.within in
      let (points?, runs?) = and_parts _ _ most in
      let each : (f : Feature) → uses d f ≡ true → says_yes s f ≡ true = λ f. elim f as (λ g. uses d g ≡ true → says_yes s g ≡ true) [
        | LowerBounds ↦ taken _ _ p.lowers
        | Links ↦ taken _ _ p.links
        | Limits ↦ taken _ _ p.limits
        | Terminals ↦ taken _ _ p.terminals
      ] in
      record {
        admissible = (decides_admissible d).0 p.admissible;
        says_yes_to = each;
        few_points = leb-true _ _ points?;
        few_runs = leb-true _ _ runs?;
        few_units = leb-true _ _ units?;
      }

  pub accepted : Carried s d → refusal s d ≡ None
  accepted h = not_refused (is_admissible d) (lacks s d LowerBounds) (lacks s d Links) (lacks s d Limits) (lacks s d Terminals) (is_within s d)
      record {
        admissible = (decides_admissible d).1 h.admissible;
        lowers = not_lacking _ _ (h.says_yes_to LowerBounds);
        links = not_lacking _ _ (h.says_yes_to Links);
        limits = not_lacking _ _ (h.says_yes_to Limits);
        terminals = not_lacking _ _ (h.says_yes_to Terminals);
        within = and_from _ _ (and_from _ _ (le-leb _ _ h.few_points) (le-leb _ _ h.few_runs)) (le-leb _ _ h.few_units);
      }
