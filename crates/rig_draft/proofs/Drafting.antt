-- Steps of a draft: points, counting roles, and what is told of a step and left by it.
use Rattle.std.proofs.Common.{count_by, ◌≡◌, ℕ, ◌<◌, ◌≤◌, ltb, Some, None, Ok, Err, Option, Result, sym, refl, ap, ◌∙◌}
use Rattle.std.proofs.lemmas.Bool.{cond_below, cond_above}
use Rattle.drawing.specs.declared.Refusal.{Refusal}
use Rattle.drawing.specs.declared.Refusal.TheVariants.{LineOrder}
use Rattle.drawing.specs.declared.Mark.{Mark}
use Rattle.drawing.specs.declared.Mark.TheVariants.{Rack as RackMark, Bar as BarMark}
use Rattle.drawing.specs.Drawings.{Network, no_point, is_rack, is_bar}
use Rattle.drawing.proofs.Lists.{count_items}
use Rattle.rig_drawing.specs.Changes.{check, answered, held_after}
use Rattle.rig_lines.specs.Codes.{role_mark}
use Rattle.rig_lines.specs.declared.Role.{Role}
use Rattle.rig_lines.specs.declared.Role.TheVariants.{Rack, Bar}
use Rattle.reading.specs.Reading.{Progress, role_count}
use Rattle.rig_draft.specs.Drafts.{told, left}

-- the points that have a role are those with its mark
pub role_counted : (r : Role) (d : Network) (m : Mark) (n : ℕ) → m ≡ role_mark r → (m ≡ RackMark → n ≡ count_by (λ p. is_rack p.mark) d.points) → (m ≡ BarMark → n ≡ count_by (λ p. is_bar p.mark) d.points) → n ≡ role_count r d
role_counted Rack d m n e racks bars = racks e ∙ sym (count_items no_point d.points (λ p. is_rack p.mark))
role_counted Bar d m n e racks bars = bars e ∙ sym (count_items no_point d.points (λ p. is_bar p.mark))

-- a call's answer without its value
abbrev pub bare : {A : Type 0} → Result A Refusal → Result (Unit {0}) Refusal
bare (Ok a) = Ok tt
bare (Err e) = Err e

bare_answered : {A : Type 0} (o : Option Refusal) (a : A) → bare (answered o a) ≡ answered o tt
bare_answered None a = refl
bare_answered (Some e) a = refl

-- a run is laid where fewer were laid than announced, and is refused elsewhere
module _ (n m : ℕ) (o : Option Refusal) where
  pub record Late (new old : Network) : Type 0 where
    pub told : Err LineOrder ≡ answered {A = Unit {0}} (check (ltb n m) LineOrder o) tt
    pub held : old ≡ held_after (check (ltb n m) LineOrder o) new old

  pub late : (new old : Network) → m ≤ n → Late new old
  late new old h =
      let refused = cond_above n m o (Some LineOrder) (Some LineOrder) h refl in
      record { told = ap (λ x. answered x tt) refused; held = ap (λ x. held_after x new old) refused }

  pub record Timely {A : Type 0} (r : Result A Refusal) (is new old : Network) : Type 0 where
    pub told : bare r ≡ answered (check (ltb n m) LineOrder o) tt
    pub held : is ≡ held_after (check (ltb n m) LineOrder o) new old

  pub timely : {A : Type 0} (r : Result A Refusal) (a : A) (is new old : Network) → n < m → r ≡ answered o a → is ≡ held_after o new old → Timely r is new old
  timely r a is new old h t e =
      let passed = cond_below n m o (Some LineOrder) h in
      record { told = ap bare t ∙ bare_answered o a ∙ ap (λ x. answered x tt) passed; held = e ∙ ap (λ x. held_after x new old) passed }

pub told_answered : (o : Option Refusal) (q : Progress) → answered o tt ≡ told (answered o q)
told_answered None q = refl
told_answered (Some e) q = refl

pub left_answered : (o : Option Refusal) (q p : Progress) → held_after o q p ≡ left (answered o q) p
left_answered None q p = refl
left_answered (Some e) q p = refl
