-- One call of the reader: what it shows and where it leaves the reader, by the lines that are left.
use Rattle.std.proofs.Common.{◌≡◌, ℕ, ◌≤◌, leb, List, ◌∷◌, length, Some, None, Ok, Err, Option, Result, sym, refl, ap, ◌∙◌, arith}
use Rattle.std.proofs.lemmas.Bool.{cond-true, le-leb}
use Rattle.drawing.specs.declared.Refusal.{Refusal}
use Rattle.drawing.specs.Drawings.{Network}
use Rattle.rig_lines.specs.declared.Line.{Line}
use Rattle.rig_lines.specs.Shapes.{Shape}
use Rattle.reading.specs.declared.Fault.{Fault}
use Rattle.reading.specs.Lines.{start_of}
use Rattle.reading.specs.Reading.{Progress}
use Rattle.rigtext.specs.States.{State, line_taken, line_shown, shown_by, moved, lines_left, faulted, end_shown, shown_of, left_of, next_shown, next_state, shown_next, place_next}

module _ (s : State) (short : length s.text ≤ 16384) (ls : List (List ℕ)) (are : lines_left s ≡ ls) where
  pub shown_of_lem : next_shown s ≡ shown_of s ls
  shown_of_lem = cond-true (leb (length s.text) 16384) _ _ (le-leb _ _ short) ∙ ap (shown_of s) are

  pub left_of_lem : next_state s ≡ left_of s ls
  left_of_lem = cond-true (leb (length s.text) 16384) _ _ (le-leb _ _ short) ∙ ap (left_of s) are

-- at a line, which begins at the place
module _ (s : State) (short : length s.text ≤ 16384) (l : List ℕ) (ls : List (List ℕ)) (are : lines_left s ≡ l ∷ ls) (i : ℕ) (begins : i ≡ start_of s.text s.line) where
  pub line_shown_lem : faulted s.line (line_shown s.progress i l) ≡ next_shown s
  line_shown_lem = ap (λ n. faulted s.line (line_shown s.progress n l)) begins ∙ sym (shown_of_lem s short (l ∷ ls) are)

  pub line_left : moved s (line_taken s.progress l) ≡ next_state s
  line_left = sym (left_of_lem s short (l ∷ ls) are)

-- a refused line leaves the reader
pub unmoved : (s : State) (r : Result Progress Refusal) (x : Option Shape) (e : Refusal) → Err e ≡ shown_by r x → moved s r ≡ s
unmoved s (Ok q) x e h = let z : ◌≡◌ {A = ℕ} 0 1 = cc in let no_such : ⊥ = omega arith in absurd no_such
unmoved s (Err f) x e h = refl

-- the fault at the end is of the line after the last
pub end_place : (s : State) (o : Option Network) (r : Result (Option Line) Fault) → shown_next r ≡ end_shown s.line o → start_of s.text s.line ≡ place_next s r
end_place s o (Ok x) h = refl
end_place s (Some d) (Err f) h = let z : ◌≡◌ {A = ℕ} 0 1 = cc in let no_such : ⊥ = omega arith in absurd no_such
end_place s None (Err f) h = let same : f.line ≡ s.line = cc in ap (start_of s.text) (sym same)
