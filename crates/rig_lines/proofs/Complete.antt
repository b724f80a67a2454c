-- What is spelled in a line, the line says.
use Rattle.std.proofs.Common.{◌≡◌, ℕ, ◌^◌, ◌<◌, Bool, true, false, eqb, ltb, List, [], ◌∷◌, length, Some, decimal, Option, ap, ◌∙◌, inl, inr, arith}
use Rattle.std.specs.Option.{option_map, option_zip, option_or}
use Rattle.std.specs.Bool.{then_some}
use Rattle.std.specs.List.{AllByRecursion}
use Rattle.std.proofs.lemmas.Bool.{and_parts, ltb-true, eqb-true, cases_Bool}
use Rattle.rig_lines.specs.declared.Item.{Item}
use Rattle.rig_lines.specs.declared.Item.TheVariants as item
use Rattle.rig_lines.specs.declared.Form.{Form}
use Rattle.rig_lines.specs.declared.Role.{Role}
use Rattle.rig_lines.specs.declared.LineKind.{LineKind}
use Rattle.rig_lines.specs.declared.LineKind.TheVariants as kind
use Rattle.rig_lines.specs.Codes.{kind_letter, kind_of, role_of, form_of}
use Rattle.rig_lines.specs.Fields.{past, next, word_at, ends_at, lone}
use Rattle.rig_lines.specs.Shapes.{Shape, and_then, first, second, third, fourth, two_parts, three_parts, four_parts, of_kind, shape_of}
use Rattle.rig_lines.specs.Items.{item_of, said_by}
use Rattle.rig_lines.specs.Numbers.{number_of}
use Rattle.rig_lines.specs.Spelling.{Parted, CommentLine, Spelled, SpelledExactly}
use Rattle.rig_lines.proofs.Naming.{kind_of_word, role_of_word, form_of_word, clean_kind, clean_role, clean_form}
use Rattle.rig_lines.proofs.Numbering.{number_of_word, clean_decimal}
use Rattle.rig_lines.proofs.Parting.{Clean, Found, found_from_parted}
use Rattle.rig_lines.proofs.Sound.{said_spelled}

comment_said : (l : List ℕ) → CommentLine l → said_by l ≡ Some item.Comment
unfolding said_by shape_of
comment_said l (inl e) = ap said_by e
comment_said l (inr r) = ap said_by r.1

-- the words of a line are found in it
found : (l : List ℕ) (k : LineKind) (ws : List (List ℕ)) → AllByRecursion Clean ws → Parted l ((kind_letter k ∷ []) ∷ ws) → Found l 0 ((kind_letter k ∷ []) ∷ ws)
found l k ws h p = found_from_parted ((kind_letter k ∷ []) ∷ ws) l 0 (clean_kind k, h) p

-- a number's word, read again
number : (w : List ℕ) {n : ℕ} → w ≡ decimal n → n < 10 ^ 7 → number_of w ≡ Some n
number w {n} e h = ap number_of e ∙ number_of_word n h

module _ (l : List ℕ) where
  -- what a line of a kind says
  kind_said : (k : LineKind) → word_at l 0 ≡ kind_letter k ∷ [] → said_by l ≡ and_then (of_kind k 0 l) item_of
  unfolding said_by shape_of
  kind_said k e = ap (λ o. and_then (and_then o (λ k. of_kind k 0 l)) item_of) (ap (λ w. and_then (lone w) kind_of) e ∙ kind_of_word k)

  -- what fields say that end the line
  fields_said : {A : Type 0} (f : A → Shape) (t : Bool) (a : A) → t ≡ true → and_then (option_map f (then_some t a)) item_of ≡ item_of (f a)
  fields_said f t a e = ap (λ t. and_then (option_map f (then_some t a)) item_of) e

  -- and where a line may have one number of fields or else another, what the first say, or else the others
  first_said : {A : Type 0} (f : A → Shape) (t : Bool) (a : A) (o : Option Shape) → t ≡ true → and_then (option_or (option_map f (then_some t a)) o) item_of ≡ item_of (f a)
  first_said f t a o e = ap (λ t. and_then (option_or (option_map f (then_some t a)) o) item_of) e

  second_said : {A : Type 0} (f : A → Shape) (t : Bool) (a : A) (o : Option Shape) → t ≡ false → and_then (option_or (option_map f (then_some t a)) o) item_of ≡ and_then o item_of
  second_said f t a o e = ap (λ t. and_then (option_or (option_map f (then_some t a)) o) item_of) e

  -- a field that ends the line has none after it
  last_only : (i : ℕ) → ends_at l (next l i) ≡ true → ends_at l i ≡ false
  last_only i e =
      let inside : next l i < length l = ltb-true _ _ (and_parts (ltb (next l i) (length l)) _ e).0 in
      elim (cases_Bool (ends_at l i)) [
        | inl h ↦ absurd (omega (arith, eqb-true _ _ (and_parts (ltb i (length l)) (eqb (past l i) (length l)) h).1))
        | inr h ↦ h
      ]

  head_said : (f : Form) (n m : ℕ) → Spelled l (item.Head f n m) → said_by l ≡ Some (item.Head f n m)
  unfolding Spelled Found three_parts
  head_said f n m s =
      let g = found l kind.Head _ (clean_form f, (clean_decimal n s.1.0, (clean_decimal m s.1.1.0, tt))) s.0 in
      let name : form_of (word_at l (first l)) ≡ Some f = ap form_of g.1.0 ∙ form_of_word f in
      let points : number_of (word_at l (second l)) ≡ Some n = number _ g.1.1.0 s.1.0 in
      let runs : number_of (word_at l (third l)) ≡ Some m = number _ g.1.1.1.0 s.1.1.0 in
      kind_said kind.Head g.0 ∙ fields_said _ (ends_at l (third l)) _ g.1.1.1.1
      ∙ (λ j. option_map (λ p. item.Head p.0 p.1.0 p.1.1) (option_zip (name j) (option_zip (points j) (runs j))))

  role_said : (v : ℕ) (r : Role) → Spelled l (item.Role v r) → said_by l ≡ Some (item.Role v r)
  unfolding Spelled Found two_parts
  role_said v r s =
      let g = found l kind.Role _ (clean_decimal v s.1.0, (clean_role r, tt)) s.0 in
      let point : number_of (word_at l (first l)) ≡ Some v = number _ g.1.0 s.1.0 in
      let letter : and_then (lone (word_at l (second l))) role_of ≡ Some r = ap (λ w. and_then (lone w) role_of) g.1.1.0 ∙ role_of_word r in
      kind_said kind.Role g.0 ∙ fields_said _ (ends_at l (second l)) _ g.1.1.1
      ∙ (λ j. option_map (λ p. item.Role p.0 p.1) (option_zip (point j) (letter j)))

  limit_said : (v n : ℕ) → Spelled l (item.Limit v n) → said_by l ≡ Some (item.Limit v n)
  unfolding Spelled Found two_parts
  limit_said v n s =
      let g = found l kind.Limit _ (clean_decimal v s.1.0, (clean_decimal n s.1.1.0, tt)) s.0 in
      let point : number_of (word_at l (first l)) ≡ Some v = number _ g.1.0 s.1.0 in
      let most : number_of (word_at l (second l)) ≡ Some n = number _ g.1.1.0 s.1.1.0 in
      kind_said kind.Limit g.0 ∙ fields_said _ (ends_at l (second l)) _ g.1.1.1
      ∙ (λ j. option_map (λ p. item.Limit p.0 p.1) (option_zip (point j) (most j)))

  -- three numbers after the letter: a lead without a lower, or a link
  module _ (k : LineKind) (make : ℕ → ℕ → ℕ → Item) (t h up : ℕ) (small : AllByRecursion (λ n. n < 10 ^ 7) (t ∷ h ∷ up ∷ [])) where
    abbrev Words : List (List ℕ)
    Words = (kind_letter k ∷ []) ∷ decimal t ∷ decimal h ∷ decimal up ∷ []

    three_found : Parted l Words → Found l 0 Words
    three_found p = found l k _ (clean_decimal t small.0, (clean_decimal h small.1.0, (clean_decimal up small.1.1.0, tt))) p

    three_said : Found l 0 Words
        → option_map (λ p. make p.0.0 p.0.1 p.1) (option_zip (option_zip (number_of (word_at l (first l))) (number_of (word_at l (second l)))) (number_of (word_at l (third l)))) ≡ Some (make t h up)
    unfolding Found
    three_said g =
        let a : number_of (word_at l (first l)) ≡ Some t = number _ g.1.0 small.0 in
        let b : number_of (word_at l (second l)) ≡ Some h = number _ g.1.1.0 small.1.0 in
        let c : number_of (word_at l (third l)) ≡ Some up = number _ g.1.1.1.0 small.1.1.0 in
        λ j. option_map (λ p. make p.0.0 p.0.1 p.1) (option_zip (option_zip (a j) (b j)) (c j))

  link_said : (t h up : ℕ) → Spelled l (item.Link t h up) → said_by l ≡ Some (item.Link t h up)
  unfolding Spelled Found three_parts
  link_said t h up s =
      let g = three_found kind.Link item.Link t h up s.1 s.0 in
      kind_said kind.Link g.0 ∙ fields_said _ (ends_at l (third l)) _ g.1.1.1.1 ∙ three_said kind.Link item.Link t h up s.1 g

  plain_lead_said : (t h up : ℕ) → Spelled l (item.PlainLead t h up) → said_by l ≡ Some (item.PlainLead t h up)
  unfolding Spelled Found three_parts
  plain_lead_said t h up s =
      let g = three_found kind.Lead item.PlainLead t h up s.1 s.0 in
      kind_said kind.Lead g.0 ∙ first_said _ (ends_at l (third l)) _ _ g.1.1.1.1
      ∙ three_said kind.Lead item.PlainLead t h up s.1 g

  lead_said : (t h lo up : ℕ) → Spelled l (item.Lead t h lo up) → said_by l ≡ Some (item.Lead t h lo up)
  unfolding Spelled Found three_parts four_parts
  lead_said t h lo up s =
      let g = found l kind.Lead _ (clean_decimal t s.1.0, (clean_decimal h s.1.1.0, (clean_decimal lo s.1.1.1.0, (clean_decimal up s.1.1.1.1.0, tt)))) s.0 in
      let a : number_of (word_at l (first l)) ≡ Some t = number _ g.1.0 s.1.0 in
      let b : number_of (word_at l (second l)) ≡ Some h = number _ g.1.1.0 s.1.1.0 in
      let c : number_of (word_at l (third l)) ≡ Some lo = number _ g.1.1.1.0 s.1.1.1.0 in
      let d : number_of (word_at l (fourth l)) ≡ Some up = number _ g.1.1.1.1.0 s.1.1.1.1.0 in
      kind_said kind.Lead g.0
      ∙ second_said _ (ends_at l (third l)) _ _ (last_only (third l) g.1.1.1.1.1)
      ∙ fields_said _ (ends_at l (fourth l)) _ g.1.1.1.1.1
      ∙ (λ j. option_map (λ p. item.Lead p.0.0 p.0.1 p.1.0 p.1.1) (option_zip (option_zip (a j) (b j)) (option_zip (c j) (d j))))

spelled_said : (l : List ℕ) (x : Item) → Spelled l x → said_by l ≡ Some x
unfolding Spelled
spelled_said l item.Comment s = comment_said l s
spelled_said l (item.Head f n m) s = head_said l f n m s
spelled_said l (item.Role v r) s = role_said l v r s
spelled_said l (item.Limit v n) s = limit_said l v n s
spelled_said l (item.Lead t h lo up) s = lead_said l t h lo up s
spelled_said l (item.PlainLead t h up) s = plain_lead_said l t h up s
spelled_said l (item.Link t h up) s = link_said l t h up s

pub spelled_exactly : SpelledExactly
spelled_exactly l x = (said_spelled l x, spelled_said l x)
