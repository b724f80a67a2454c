-- Where a value that is made of others is there, so are they.
use Rattle.std.proofs.Common.{◌≡◌, ℕ, Bool, true, false, cond, ◌⊎◌, Some, None, Option, refl, ap, inl, inr, arith}
use Rattle.std.specs.Option.{option_map, option_zip, option_or}
use Rattle.std.specs.Bool.{then_some}
use Rattle.rig_lines.specs.Shapes.{and_then}

pub none_some : {A : Type 0} {a : A} → None ≡ Some a → ⊥
none_some e = let z : ◌≡◌ {A = ℕ} 0 1 = cc in omega arith

pub same_some : {A : Type 0} {a b : A} → Some a ≡ Some b → a ≡ b
same_some e = cc

pub then_parts : {A B : Type 0} (o : Option A) (f : A → Option B) {b : B} → and_then o f ≡ Some b → (a : A) × (o ≡ Some a) × (f a ≡ Some b)
then_parts None f e = absurd (none_some e)
then_parts (Some a) f e = (a, refl, e)

pub mapped_parts : {A B : Type 0} (f : A → B) (o : Option A) {b : B} → option_map f o ≡ Some b → (a : A) × (o ≡ Some a) × (f a ≡ b)
mapped_parts f None e = absurd (none_some e)
mapped_parts f (Some a) e = (a, refl, same_some e)

pub zipped_parts : {A B : Type 0} (o : Option A) (p : Option B) {z : A × B} → option_zip o p ≡ Some z → (o ≡ Some z.0) × (p ≡ Some z.1)
zipped_parts None p e = absurd (none_some e)
zipped_parts (Some a) None e = absurd (none_some e)
zipped_parts (Some a) (Some b) e = (ap (λ z. Some z.0) (same_some e), ap (λ z. Some z.1) (same_some e))

pub when_parts : {A : Type 0} (t : Bool) {x y : A} → then_some t x ≡ Some y → (t ≡ true) × (x ≡ y)
when_parts true e = (refl, same_some e)
when_parts false e = absurd (none_some e)

pub either_part : {A : Type 0} (o p : Option A) {a : A} → option_or o p ≡ Some a → (o ≡ Some a) ⊎ (p ≡ Some a)
either_part None p e = inr e
either_part (Some a) p e = inl e

-- a value that a test gives, or what follows it
pub cond_parts : {A : Type 0} (t : Bool) (o p : Option A) {a : A} → cond t o p ≡ Some a → ((t ≡ true) × (o ≡ Some a)) ⊎ ((t ≡ false) × (p ≡ Some a))
cond_parts true o p e = inl (refl, e)
cond_parts false o p e = inr (refl, e)

pub unless_parts : {A : Type 0} (t : Bool) (p : Option A) {a : A} → cond t None p ≡ Some a → (t ≡ false) × (p ≡ Some a)
unless_parts true p e = absurd (none_some e)
unless_parts false p e = (refl, e)
