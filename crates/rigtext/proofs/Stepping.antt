-- What a line does to a reader.
use Rattle.std.proofs.Common.{◌≡◌, ℕ, ◌+◌, ◌-◌, ◌≤◌, ◌&&◌, leb, List, length, take, drop, Some, None, Ok, Err, Option, Result, sym, refl, ap, ◌∙◌, ap₂, arith}
use Rattle.std.specs.List.{prefix_len}
use Rattle.std.specs.Option.{ok_or}
use Rattle.std.proofs.lemmas.List.{length-drop}
use Rattle.std.proofs.lemmas.List.Sums.{prefix_len-le-length}
use Rattle.std.proofs.lemmas.Bool.{cond-true, and_from, le-leb}
use Rattle.drawing.specs.declared.Refusal.{Refusal}
use Rattle.drawing.specs.declared.Refusal.TheVariants.{UnknownLine}
use Rattle.rig_lines.specs.declared.Item.{Item}
use Rattle.rig_lines.specs.Items.{item_of, said_by}
use Rattle.rig_lines.specs.Shapes.{Shape, and_then, shape_of, line_at}
use Rattle.rig_lines.proofs.Saying.{said_anywhere}
use Rattle.reading.specs.Lines.{in_line}
use Rattle.reading.specs.Reading.{Progress, line_read}
use Rattle.rig_draft.specs.Drafts.{told, left}
use Rattle.rigtext.specs.States.{State, line_from, line_taken, line_shown, shown_by, moved}

-- what a line says, by its shape
pub said : (start : ℕ) (l : List ℕ) (o : Option Shape) → o ≡ shape_of start l → said_by l ≡ and_then o item_of
said start l o e = sym (said_anywhere start l) ∙ ap (λ x. and_then x item_of) (sym e)

-- what stands in the line that begins at a place, and what it says
module _ (t : List ℕ) (start end : ℕ) (inside : start ≤ length t) (ends : end ≡ start + prefix_len in_line (drop start t)) where
  line_there : line_at t start end ≡ shape_of start (line_from t start)
  line_there =
      let short : prefix_len in_line (drop start t) ≤ length (drop start t) = prefix_len-le-length in_line (drop start t) in
      let within : end ≤ length t = omega (arith, length-drop start t) in
      let size : end - start ≡ prefix_len in_line (drop start t) = omega arith in
      cond-true (leb start end && leb end (length t)) _ _ (and_from _ _ (le-leb start end (omega arith)) (le-leb end (length t) within))
      ∙ ap (λ n. shape_of start (take n (drop start t))) size

  pub shape_there : (o : Option Shape) → o ≡ line_at t start end → o ≡ shape_of start (line_from t start)
  shape_there o e = e ∙ line_there

  pub says_nothing : None ≡ line_at t start end → said_by (line_from t start) ≡ None
  says_nothing e = said start (line_from t start) None (shape_there None e)

  pub says : (x : Shape) (o : Option Item) → Some x ≡ line_at t start end → o ≡ item_of x → said_by (line_from t start) ≡ o
  says x o e f = said start (line_from t start) (Some x) (shape_there (Some x) e) ∙ sym f

-- a step that is told as done, or as refused
pub done : (r : Result Progress Refusal) (p q : Progress) → Ok tt ≡ told r → q ≡ left r p → r ≡ Ok q
done (Ok x) p q e f = ap Ok (sym f)
done (Err x) p q e f = let z : ◌≡◌ {A = ℕ} 0 1 = cc in let no_such : ⊥ = omega arith in absurd no_such

pub refused : (r : Result Progress Refusal) (e : Refusal) → Err e ≡ told r → r ≡ Err e
refused (Ok x) e h = let z : ◌≡◌ {A = ℕ} 0 1 = cc in let no_such : ⊥ = omega arith in absurd no_such
refused (Err x) e h = let same : x ≡ e = cc in ap Err same

-- a line that is refused, and one that is accepted
module _ (p : Progress) (start : ℕ) (l : List ℕ) where
  pub record Refused (e : Refusal) : Type 0 where
    pub shown : Err e ≡ line_shown p start l
    pub held : p ≡ left (line_taken p l) p

  pub line_refused : (e : Refusal) → line_taken p l ≡ Err e → Refused e
  line_refused e h = record { shown = ap (λ r. shown_by r (shape_of start l)) (sym h); held = ap (λ r. left r p) (sym h) }

  pub line_unknown : said_by l ≡ None → Refused UnknownLine
  line_unknown h = line_refused UnknownLine (ap (line_read p) h)

  pub record Accepted (q : Progress) (x : Shape) : Type 0 where
    pub shown : Ok (Some x) ≡ line_shown p start l
    pub held : q ≡ left (line_taken p l) p

  pub line_accepted : (q : Progress) (x : Shape) → line_taken p l ≡ Ok q → Some x ≡ shape_of start l → Accepted q x
  line_accepted q x h e = record { shown = ap₂ shown_by (sym h) e; held = ap (λ r. left r p) (sym h) }

-- the reader after a line that is refused, and after one that is accepted
abbrev pub stands : State → ℕ → Progress → State
stands s k q = record { text = s.text; line = k; progress = q }

pub stays : (s : State) (r : Result Progress Refusal) (x : Option Shape) (e : Refusal) (q : Progress) → Err e ≡ shown_by r x → q ≡ left r s.progress → stands s s.line q ≡ moved s r
stays s (Ok p) x e q h g = let z : ◌≡◌ {A = ℕ} 0 1 = cc in let no_such : ⊥ = omega arith in absurd no_such
stays s (Err f) x e q h g = ap (stands s s.line) g

pub goes : (s : State) (r : Result Progress Refusal) (x y : Option Shape) (q : Progress) → Ok y ≡ shown_by r x → q ≡ left r s.progress → stands s (s.line + 1) q ≡ moved s r
goes s (Ok p) x y q h g = ap (stands s (s.line + 1)) g
goes s (Err f) x y q h g = let z : ◌≡◌ {A = ℕ} 0 1 = cc in let no_such : ⊥ = omega arith in absurd no_such

-- no answer is both
pub clash : {A E : Type 0} (a : A) (e : E) → Ok a ≡ Err e → ⊥
clash a e h = let z : ◌≡◌ {A = ℕ} 0 1 = cc in omega arith

-- a value that is there, and one that is not
pub known : {A E : Type 0} {x : A} (o : Option A) (e : E) → Ok x ≡ ok_or o e → o ≡ Some x
known (Some y) e h = ap Some (let same : y ≡ _ = cc in same)
known None e h = absurd (clash _ _ h)

pub unknown : {A E : Type 0} {f : E} (o : Option A) (e : E) → Err f ≡ ok_or o e → (o ≡ None) × (f ≡ e)
unknown (Some y) e h = absurd (clash _ _ (sym h))
unknown None e h = (refl, cc)
