-- What a word names, and the word that names it.
use Rattle.std.proofs.Common.{◌≡◌, ℕ, cond, eqb, List, [], ◌∷◌, Some, None, Option, refl, ap, ◌∙◌, inl, inr, lit<}
use Rattle.std.specs.Str.{bytes_eq}
use Rattle.std.proofs.lemmas.Slice.Eq.{bytes_eq-Decides}
use Rattle.std.proofs.lemmas.Bool.{eqb-true}
use Rattle.rig_lines.specs.declared.LineKind.{LineKind}
use Rattle.rig_lines.specs.declared.LineKind.TheVariants as kind
use Rattle.rig_lines.specs.declared.Form.{Form}
use Rattle.rig_lines.specs.declared.Form.TheVariants.{Rig, Max}
use Rattle.rig_lines.specs.declared.Role.{Role}
use Rattle.rig_lines.specs.declared.Role.TheVariants.{Rack, Bar}
use Rattle.rig_lines.specs.Codes.{kind_letter, kind_of, role_letter, role_of, form_name, form_of}
use Rattle.rig_lines.specs.Fields.{lone}
use Rattle.rig_lines.specs.Shapes.{and_then}
use Rattle.rig_lines.proofs.Choosing.{none_some, same_some, then_parts, cond_parts}
use Rattle.rig_lines.proofs.Parting.{Clean}

lone_is : (w : List ℕ) {c : ℕ} → lone w ≡ Some c → w ≡ c ∷ []
lone_is [] e = absurd (none_some e)
lone_is (c ∷ []) e = ap (λ x. x ∷ []) (same_some e)
lone_is (c ∷ (d ∷ w)) e = absurd (none_some e)

-- a letter of a table is that of the case that it names, or it stands further down
module _ {A : Type 0} (letter : A → ℕ) (c : ℕ) where
  abbrev Told : Option A → Type 0
  Told o = (a : A) → o ≡ Some a → c ≡ letter a

  told_none : Told None
  told_none a e = absurd (none_some e)

  told_next : (k : A) (o : Option A) → Told o → Told (cond (eqb c (letter k)) (Some k) o)
  told_next k o t a e =
      elim (cond_parts (eqb c (letter k)) (Some k) o e) [
        | inl h ↦ eqb-true c (letter k) h.0 ∙ ap letter (same_some h.1)
        | inr h ↦ t a h.1
      ]

kind_told : (c : ℕ) → Told kind_letter c (kind_of c)
kind_told c =
    told_next kind_letter c kind.Comment _
    (told_next kind_letter c kind.Head _
    (told_next kind_letter c kind.Role _
    (told_next kind_letter c kind.Limit _ (told_next kind_letter c kind.Lead _ (told_next kind_letter c kind.Link _ (told_none kind_letter c))))))

role_told : (c : ℕ) → Told role_letter c (role_of c)
role_told c = told_next role_letter c Rack _ (told_next role_letter c Bar _ (told_none role_letter c))

pub word_of_kind : (w : List ℕ) {k : LineKind} → and_then (lone w) kind_of ≡ Some k → w ≡ kind_letter k ∷ []
word_of_kind w {k} e =
    let p = then_parts (lone w) kind_of e in
    lone_is w p.1 ∙ ap (λ x. x ∷ []) (kind_told p.0 k p.2)

pub word_of_role : (w : List ℕ) {r : Role} → and_then (lone w) role_of ≡ Some r → w ≡ role_letter r ∷ []
word_of_role w {r} e =
    let p = then_parts (lone w) role_of e in
    lone_is w p.1 ∙ ap (λ x. x ∷ []) (role_told p.0 r p.2)

pub kind_of_word : (k : LineKind) → kind_of (kind_letter k) ≡ Some k
kind_of_word kind.Comment = refl
kind_of_word kind.Head = refl
kind_of_word kind.Role = refl
kind_of_word kind.Limit = refl
kind_of_word kind.Lead = refl
kind_of_word kind.Link = refl

pub role_of_word : (r : Role) → role_of (role_letter r) ≡ Some r
role_of_word Rack = refl
role_of_word Bar = refl

pub form_of_word : (f : Form) → form_of (form_name f) ≡ Some f
form_of_word Rig = refl
form_of_word Max = refl

pub word_of_form : (w : List ℕ) {f : Form} → form_of w ≡ Some f → w ≡ form_name f
word_of_form w {f} e =
    elim (cond_parts (bytes_eq w (form_name Rig)) (Some Rig) _ e) [
      | inl h ↦ (bytes_eq-Decides w (form_name Rig)).0 h.0 ∙ ap form_name (same_some h.1)
      | inr h ↦ elim (cond_parts (bytes_eq w (form_name Max)) (Some Max) None h.1) [
        | inl g ↦ (bytes_eq-Decides w (form_name Max)).0 g.0 ∙ ap form_name (same_some g.1)
        | inr g ↦ absurd (none_some g.1)
      ]
    ]

pub clean_form : (f : Form) → Clean (form_name f)
clean_form Rig = (lit< tt, (refl, (refl, (refl, tt))))
clean_form Max = (lit< tt, (refl, (refl, (refl, tt))))

pub clean_role : (r : Role) → Clean (role_letter r ∷ [])
clean_role Rack = (lit< tt, (refl, tt))
clean_role Bar = (lit< tt, (refl, tt))

pub clean_kind : (k : LineKind) → Clean (kind_letter k ∷ [])
clean_kind kind.Comment = (lit< tt, (refl, tt))
clean_kind kind.Head = (lit< tt, (refl, tt))
clean_kind kind.Role = (lit< tt, (refl, tt))
clean_kind kind.Limit = (lit< tt, (refl, tt))
clean_kind kind.Lead = (lit< tt, (refl, tt))
clean_kind kind.Link = (lit< tt, (refl, tt))
