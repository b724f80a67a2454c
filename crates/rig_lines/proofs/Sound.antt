-- What a line says is spelled in it.
use Rattle.std.proofs.Common.{◌≡◌, ℕ, ◌^◌, ◌<◌, Bool, true, List, [], ◌∷◌, ◌++◌, length, drop, replicate, Some, decimal, ap, ◌∙◌, subst, inl, inr}
use Rattle.std.specs.Option.{option_map, option_zip}
use Rattle.std.specs.Bool.{then_some}
use Rattle.std.specs.List.{AllByRecursion}
use Rattle.std.proofs.lemmas.List.{drop_all}
use Rattle.std.proofs.lemmas.Bool.{cases_lt}
use Rattle.rig_lines.specs.declared.Item.{Item}
use Rattle.rig_lines.specs.declared.Item.TheVariants as item
use Rattle.rig_lines.specs.declared.LineKind.{LineKind}
use Rattle.rig_lines.specs.declared.LineKind.TheVariants as kind
use Rattle.rig_lines.specs.Codes.{kind_letter, kind_of}
use Rattle.rig_lines.specs.Fields.{Part, past, next, word_at, part_at, ends_at, lone}
use Rattle.rig_lines.specs.Shapes.{Shape, header, role, limit, lead, plain_lead, and_then, first, second, third, fourth, two_parts, three_parts, four_parts, of_kind, shape_of}
use Rattle.rig_lines.specs.Items.{item_of, number_in, pair_in, form_in, role_in, said_by}
use Rattle.rig_lines.specs.Spelling.{words, Parted, CommentLine, Spelled}
use Rattle.rig_lines.proofs.Choosing.{same_some, then_parts, mapped_parts, zipped_parts, when_parts, either_part}
use Rattle.rig_lines.proofs.Naming.{word_of_kind, word_of_role, word_of_form}
use Rattle.rig_lines.proofs.Numbering.{word_of_number}
use Rattle.rig_lines.proofs.Parting.{Found, cut, gap, parted_from_found}

-- a first field of one letter is alone, or a space follows
commented : (l : List ℕ) → word_at l 0 ≡ 99 ∷ [] → CommentLine l
commented l e =
    elim (cases_lt (past l 0) (length l)) [
      | inl h ↦ (let g = gap l 0 h in inr (replicate g.0 32 ++ drop (next l 0) l, cut l 0 ∙ (λ j. e j ++ g.1 j)))
      | inr h ↦ inl (cut l 0 ∙ (λ j. e j ++ drop_all (past l 0) l h j))
    ]

-- the item of a shape that is made of fields is what these fields say
made : {A : Type 0} (f : A → Shape) (t : Bool) (a : A) (sh : Shape) (x : Item) → option_map f (then_some t a) ≡ Some sh → item_of sh ≡ Some x → (t ≡ true) × (item_of (f a) ≡ Some x)
made f t a sh x e h =
    let p = mapped_parts f (then_some t a) e in
    let q = when_parts t p.1 in
    (q.0, ap (λ z. item_of (f z)) q.1 ∙ ap item_of p.2 ∙ h)

-- the word is a number as it is written
abbrev Number : List ℕ → ℕ → Type 0
Number w n = (w ≡ decimal n) × (n < 10 ^ 7)

two_numbers : (p q : Part) {z : ℕ × ℕ} → pair_in p q ≡ Some z → Number p.bytes z.0 × Number q.bytes z.1
two_numbers p q e =
    let r = zipped_parts (number_in p) (number_in q) e in
    (word_of_number p.bytes r.0, word_of_number q.bytes r.1)

module _ (l : List ℕ) (x : Item) where
  abbrev P : ℕ → Part
  P i = part_at 0 l i

  head_spelled : word_at l 0 ≡ 112 ∷ [] → ends_at l (third l) ≡ true → item_of (header (P (first l)) (P (second l)) (P (third l))) ≡ Some x → Spelled l x
  unfolding Spelled Found
  head_spelled c t e =
      let p = mapped_parts _ (option_zip (form_in (P (first l))) (pair_in (P (second l)) (P (third l)))) e in
      let q = zipped_parts (form_in (P (first l))) (pair_in (P (second l)) (P (third l))) p.1 in
      let n = two_numbers (P (second l)) (P (third l)) q.1 in
      subst (Spelled l) p.2 (
        parted_from_found (words (item.Head p.0.0 p.0.1.0 p.0.1.1)) l 0
            (c, (word_of_form (word_at l (first l)) q.0, (n.0.0, (n.1.0, t)))),
        (n.0.1, (n.1.1, tt)),
      )

  role_spelled : word_at l 0 ≡ 110 ∷ [] → ends_at l (second l) ≡ true → item_of (role (P (first l)) (P (second l))) ≡ Some x → Spelled l x
  unfolding Spelled Found
  role_spelled c t e =
      let p = mapped_parts _ (option_zip (number_in (P (first l))) (role_in (P (second l)))) e in
      let q = zipped_parts (number_in (P (first l))) (role_in (P (second l))) p.1 in
      let n = word_of_number (word_at l (first l)) q.0 in
      subst (Spelled l) p.2
      (parted_from_found (words (item.Role p.0.0 p.0.1)) l 0 (c, (n.0, (word_of_role (word_at l (second l)) q.1, t))), (n.1, tt))

  limit_spelled : word_at l 0 ≡ 108 ∷ [] → ends_at l (second l) ≡ true → item_of (limit (P (first l)) (P (second l))) ≡ Some x → Spelled l x
  unfolding Spelled Found
  limit_spelled c t e =
      let p = mapped_parts _ (pair_in (P (first l)) (P (second l))) e in
      let n = two_numbers (P (first l)) (P (second l)) p.1 in
      subst (Spelled l) p.2
      (parted_from_found (words (item.Limit p.0.0 p.0.1)) l 0 (c, (n.0.0, (n.1.0, t))), (n.0.1, (n.1.1, tt)))

  -- a lead without a lower, or a link
  three_spelled : (c : ℕ) (make : ℕ → ℕ → ℕ → Item)
      → ((t h up : ℕ) → Parted l ((c ∷ []) ∷ decimal t ∷ decimal h ∷ decimal up ∷ []) × AllByRecursion (λ n. n < 10 ^ 7) (t ∷ h ∷ up ∷ []) → Spelled l (make t h up))
      → word_at l 0 ≡ c ∷ [] → ends_at l (third l) ≡ true
      → option_map (λ p. make p.0.0 p.0.1 p.1) (option_zip (pair_in (P (first l)) (P (second l))) (number_in (P (third l)))) ≡ Some x → Spelled l x
  unfolding Found
  three_spelled c make spelled e0 t e =
      let p = mapped_parts _ (option_zip (pair_in (P (first l)) (P (second l))) (number_in (P (third l)))) e in
      let q = zipped_parts (pair_in (P (first l)) (P (second l))) (number_in (P (third l))) p.1 in
      let n = two_numbers (P (first l)) (P (second l)) q.0 in
      let m = word_of_number (word_at l (third l)) q.1 in
      subst (Spelled l) p.2
      (spelled p.0.0.0 p.0.0.1 p.0.1 (
        parted_from_found ((c ∷ []) ∷ decimal p.0.0.0 ∷ decimal p.0.0.1 ∷ decimal p.0.1 ∷ []) l 0 (e0, (n.0.0, (n.1.0, (m.0, t)))),
        (n.0.1, (n.1.1, (m.1, tt))),
      ))

  lead_spelled : word_at l 0 ≡ 97 ∷ [] → ends_at l (fourth l) ≡ true → item_of (lead (P (first l)) (P (second l)) (P (third l)) (P (fourth l))) ≡ Some x → Spelled l x
  unfolding Spelled Found
  lead_spelled c t e =
      let p = mapped_parts _ (option_zip (pair_in (P (first l)) (P (second l))) (pair_in (P (third l)) (P (fourth l)))) e in
      let q = zipped_parts (pair_in (P (first l)) (P (second l))) (pair_in (P (third l)) (P (fourth l))) p.1 in
      let n = two_numbers (P (first l)) (P (second l)) q.0 in
      let m = two_numbers (P (third l)) (P (fourth l)) q.1 in
      subst (Spelled l) p.2 (
        parted_from_found (words (item.Lead p.0.0.0 p.0.0.1 p.0.1.0 p.0.1.1)) l 0 (c, (n.0.0, (n.1.0, (m.0.0, (m.1.0, t))))),
        (n.0.1, (n.1.1, (m.0.1, (m.1.1, tt)))),
      )

  kind_spelled : (k : LineKind) (sh : Shape) → word_at l 0 ≡ kind_letter k ∷ [] → of_kind k 0 l ≡ Some sh → item_of sh ≡ Some x → Spelled l x
  unfolding Spelled two_parts three_parts four_parts
  kind_spelled kind.Comment sh c e h = subst (Spelled l) (same_some (ap item_of (same_some e) ∙ h)) (commented l c)
  kind_spelled kind.Head sh c e h = let m = made _ (ends_at l (third l)) _ sh x e h in head_spelled c m.0 m.1
  kind_spelled kind.Role sh c e h = let m = made _ (ends_at l (second l)) _ sh x e h in role_spelled c m.0 m.1
  kind_spelled kind.Limit sh c e h = let m = made _ (ends_at l (second l)) _ sh x e h in limit_spelled c m.0 m.1
  kind_spelled kind.Lead sh c e h =
      elim (either_part (option_map (λ p. plain_lead p.0 p.1 p.2) (three_parts 0 l)) (option_map (λ p. lead p.0 p.1 p.2 p.3) (four_parts 0 l)) e) [
        | inl e3 ↦ (let m = made _ (ends_at l (third l)) _ sh x e3 h in three_spelled 97 item.PlainLead (λ _ _ _ p. p) c m.0 m.1)
        | inr e4 ↦ (let m = made _ (ends_at l (fourth l)) _ sh x e4 h in lead_spelled c m.0 m.1)
      ]
  kind_spelled kind.Link sh c e h = let m = made _ (ends_at l (third l)) _ sh x e h in three_spelled 101 item.Link (λ _ _ _ p. p) c m.0 m.1

pub said_spelled : (l : List ℕ) (x : Item) → said_by l ≡ Some x → Spelled l x
unfolding said_by shape_of
said_spelled l x e =
    let p = then_parts (shape_of 0 l) item_of e in
    let q = then_parts (and_then (lone (word_at l 0)) kind_of) (λ k. of_kind k 0 l) p.1 in
    kind_spelled l x q.0 p.0 (word_of_kind (word_at l 0) q.1) q.2 p.2
