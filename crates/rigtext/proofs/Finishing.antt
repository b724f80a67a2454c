-- Reading on, call by call: each call leaves what the rest of the text is read as, until the end or a fault tells it.
use Rattle.std.proofs.Common.{◌≡◌, ℕ, ◌+◌, ◌-◌, ◌<◌, ◌≤◌, Bool, true, false, cond, leb, List, [], ◌∷◌, length, drop, Some, None, Ok, Err, Option, Result, sym, refl, ap, ◌∙◌, ⊎_elim, arith}
use Rattle.std.proofs.lemmas.List.{drop-drop}
use Rattle.std.proofs.lemmas.Bool.{cond-true, cases_lt}
use Rattle.drawing.specs.declared.Refusal.{Refusal}
use Rattle.drawing.specs.declared.Refusal.TheVariants.{TextTooLong}
use Rattle.drawing.specs.Drawings.{Network}
use Rattle.rig_lines.specs.Shapes.{Shape, shape_of}
use Rattle.reading.specs.declared.Fault.{Fault}
use Rattle.reading.specs.Lines.{lines_of, start_of}
use Rattle.reading.specs.Reading.{Progress, complete, finished, fault, at_end, line_read, onward, read_lines}
use Rattle.rigtext.specs.States.{State, line_taken, shown_by, moved, lines_left, faulted, end_shown, shown_of, left_of, next_shown, next_state}
use Rattle.rigtext.specs.Reads.{rest_read, Reads, Tells}
use Rattle.rig_drawing.specs.declared.bounded.RigDrawing.{RigDrawing}
use Rattle.rigtext.specs.declared.reader.whole.ReadError.{ReadError}
use Rattle.rigtext.specs.declared.reader.whole.ReadError.TheVariants.{Fault as Faulty, Memory}
use Rattle.reading.proofs.Texts.{reads_exactly}
use Rattle.rig_draft.specs.declared.Head.{Head}
use Rattle.rig_draft.specs.Drafts.{under}
use Rattle.rigtext.proofs.Starting.{lines_left_lem}
use Rattle.rigtext.proofs.Stepping.{said, clash}

-- what is read of a text, it tells
pub tells_by : (t : List ℕ) (r : Result RigDrawing ReadError) → Reads t r → Tells t r
tells_by t (Ok rig) h = (reads_exactly t _).0 h
tells_by t (Err (Faulty f)) h = λ d w. clash d _ (sym ((reads_exactly t d).1 w) ∙ h)
tells_by t (Err Memory) h = tt

-- the rest of the text, by the lines that are left
abbrev rest_of : State → List (List ℕ) → Result Network Fault
rest_of s ls = read_lines s.line s.progress ls

-- at the end
record Ended (s : State) (ls : List (List ℕ)) : Type 0 where
  pub none : ls ≡ []
  pub rig : Network
  pub whole : finished s.progress ≡ Some rig
  pub read : rest_of s ls ≡ Ok rig

end_whole : (k : ℕ) (o : Option Network) → Ok None ≡ end_shown k o → (d : Network) × (o ≡ Some d)
end_whole k (Some d) h = (d, refl)
end_whole k None h = absurd (clash _ _ h)

-- an accepted line has a shape
unshown : (p : Progress) (start : ℕ) (l : List ℕ) (r : Result Progress Refusal) (k : ℕ) → r ≡ line_taken p l → Ok None ≡ faulted k (shown_by r (shape_of start l)) → ⊥
unshown p start l (Ok q) k e h =
    let unknown : None ≡ shape_of start l = cc in
    clash q _ (e ∙ ap (line_read p) (said start l None unknown))
unshown p start l (Err f) k e h = clash _ _ h

ended : (s : State) (ls : List (List ℕ)) → Ok None ≡ shown_of s ls → Ended s ls
unfolding read_lines
ended s [] h =
    let (d, e) = end_whole s.line (finished s.progress) h in
    record { none = refl; rig = d; whole = e; read = ap (at_end s.line) e }
ended s (l ∷ ls) h = absurd (unshown s.progress (start_of s.text s.line) l (line_taken s.progress l) s.line refl h)

-- at a fault
end_fault : (k : ℕ) (o : Option Network) (f : Fault) → Err f ≡ end_shown k o → at_end k o ≡ Err f
end_fault k (Some d) f h = absurd (clash _ _ (sym h))
end_fault k None f h = let same : fault _ k ≡ f = cc in ap Err same

line_fault : (k : ℕ) (r : Result Progress Refusal) (x : Option Shape) (f : Fault) (rest : Progress → Result Network Fault) → Err f ≡ faulted k (shown_by r x) → onward k rest r ≡ Err f
line_fault k (Ok q) x f rest h = absurd (clash _ _ (sym h))
line_fault k (Err e) x f rest h = let same : fault e k ≡ f = cc in ap Err same

stopped : (s : State) (ls : List (List ℕ)) (f : Fault) → Err f ≡ shown_of s ls → rest_of s ls ≡ Err f
unfolding read_lines
stopped s [] f h = end_fault s.line (finished s.progress) f h
stopped s (l ∷ ls) f h = line_fault s.line (line_taken s.progress l) _ f _ h

-- at an accepted line
record Passed (s : State) (ls : List (List ℕ)) : Type 0 where
  pub first : List ℕ
  pub rest : List (List ℕ)
  pub progress : Progress
  pub parts : ls ≡ first ∷ rest
  pub left : left_of s ls ≡ moved s (Ok progress)
  pub read : rest_of s ls ≡ read_lines (s.line + 1) progress rest

taken_shown : (k : ℕ) (r : Result Progress Refusal) (x y : Option Shape) → Ok y ≡ faulted k (shown_by r x) → (q : Progress) × (r ≡ Ok q)
taken_shown k (Ok q) x y h = (q, refl)
taken_shown k (Err e) x y h = absurd (clash _ _ h)

end_unshown : (k : ℕ) (o : Option Network) (x : Shape) → Ok (Some x) ≡ end_shown k o → ⊥
end_unshown k (Some d) x h = let z : ◌≡◌ {A = ℕ} 0 1 = cc in omega arith
end_unshown k None x h = clash _ _ h

passed : (s : State) (ls : List (List ℕ)) (x : Shape) → Ok (Some x) ≡ shown_of s ls → Passed s ls
unfolding read_lines
passed s [] x h = absurd (end_unshown s.line (finished s.progress) x h)
passed s (l ∷ ls) x h =
    let (q, e) = taken_shown s.line (line_taken s.progress l) _ _ h in
    record { first = l; rest = ls; progress = q; parts = refl; left = ap (moved s) e; read = ap (onward s.line (λ p. read_lines (s.line + 1) p ls)) e }

-- a text that is not too long
short_ok : {A : Type 0} (b : Bool) (r : Result A Fault) (f : Fault) (a : A) → Ok a ≡ cond b r (Err f) → (b ≡ true) × (Ok a ≡ r)
short_ok true r f a h = (refl, h)
short_ok false r f a h = absurd (clash a f h)

either_fault : {A B : Type 0} (b : Bool) (r : Result A Fault) (q : Result B Fault) (f g : Fault) → (Err f ≡ r → q ≡ Err f) → Err f ≡ cond b r (Err g) → cond b q (Err g) ≡ Err f
either_fault true r q f g then h = then h
either_fault false r q f g then h = let same : g ≡ f = cc in ap Err same

drop_next : (xs : List (List ℕ)) (k : ℕ) (y : List ℕ) (ys : List (List ℕ)) → 1 ≤ k → drop (k - 1) xs ≡ y ∷ ys → drop (k + 1 - 1) xs ≡ ys
drop_next xs k y ys some h =
    let same : k + 1 - 1 ≡ k - 1 + 1 = omega arith in
    ap (λ n. drop n xs) same ∙ sym (drop-drop 1 (k - 1) xs) ∙ ap (drop 1) h

moved_text : (s : State) (r : Result Progress Refusal) → (moved s r).text ≡ s.text
moved_text s (Ok q) = refl
moved_text s (Err e) = refl

left_text : (s : State) (ls : List (List ℕ)) → (left_of s ls).text ≡ s.text
left_text s [] = refl
left_text s (l ∷ ls) = moved_text s (line_taken s.progress l)

either_text : (s q : State) (b : Bool) → q.text ≡ s.text → (cond b q s).text ≡ s.text
either_text s q true e = e
either_text s q false e = refl

-- A call of the reader. The text stays.
pub text_stays : (s : State) → (next_state s).text ≡ s.text
text_stays s = either_text s (left_of s (lines_left s)) (leb (length s.text) 16384) (left_text s (lines_left s))

-- a fault is that of the rest of the text
pub fault_read : (s : State) (f : Fault) → Err f ≡ next_shown s → rest_read s ≡ Err f
fault_read s f h = either_fault (leb (length s.text) 16384) _ _ f (fault TextTooLong 0) (stopped s (lines_left s) f) h

-- an accepted line leaves what the rest of the text is read as, and fewer lines
pub record Onward (s : State) : Type 0 where
  pub read : rest_read (next_state s) ≡ rest_read s
  pub fewer : length (lines_left (next_state s)) < length (lines_left s)

pub line_read_lem : (s : State) (x : Shape) → 1 ≤ s.line → Ok (Some x) ≡ next_shown s → Onward s
line_read_lem s x some h =
    let (short, shown) = short_ok (leb (length s.text) 16384) (shown_of s (lines_left s)) (fault TextTooLong 0) (Some x) h in
    let p = passed s (lines_left s) x shown in
    let q : State = moved s (Ok p.progress) in
    let next : next_state s ≡ q = cond-true _ _ _ short ∙ p.left in
    let rest : lines_left q ≡ p.rest = drop_next (lines_of s.text) s.line p.first p.rest some p.parts in
    record {
      read = ap rest_read next ∙ ap (λ r. cond (leb (length s.text) 16384) r (Err (fault TextTooLong 0))) (ap (read_lines (s.line + 1) p.progress) rest ∙ sym p.read);
      fewer = omega (arith, ap (λ z. length (lines_left z)) next, ap length rest, ap length p.parts);
    }

-- at the end all is read, and the reader stays
pub record Finished (s : State) : Type 0 where
  pub none : lines_left s ≡ []
  pub rig : Network
  pub whole : finished s.progress ≡ Some rig
  pub read : rest_read s ≡ Ok rig
  pub same : next_state s ≡ s

pub end_read : (s : State) → Ok None ≡ next_shown s → Finished s
end_read s h =
    let (short, shown) = short_ok (leb (length s.text) 16384) (shown_of s (lines_left s)) (fault TextTooLong 0) None h in
    let e = ended s (lines_left s) shown in
    record {
      none = e.none;
      rig = e.rig;
      whole = e.whole;
      read = cond-true _ _ _ short ∙ e.read;
      same = cond-true _ _ _ short ∙ ap (left_of s) e.none;
    }

-- the place is the text's end where no line is left
pub end_reached : (t : List ℕ) (k i : ℕ) → i ≡ start_of t k → drop (k - 1) (lines_of t) ≡ [] → i ≡ length t
end_reached t k i e none = ⊎_elim
    (λ (h : i < length t). let no_such : ⊥ = omega (arith, ap length (sym (lines_left_lem t k i e h) ∙ none)) in absurd no_such)
    (λ (h : length t ≤ i). omega arith)
    (cases_lt i (length t))

-- and the rig is the draft's
kept_rig : (b : Bool) (n d : Network) → cond b (Some n) None ≡ Some d → n ≡ d
kept_rig true n d h = cc
kept_rig false n d h = let z : ◌≡◌ {A = ℕ} 0 1 = cc in let no_such : ⊥ = omega arith in absurd no_such

pub whole_rig : (h : Option Head) (n d : Network) → finished (under h n) ≡ Some d → n ≡ d
whole_rig None n d e = let z : ◌≡◌ {A = ℕ} 0 1 = cc in let no_such : ⊥ = omega arith in absurd no_such
whole_rig (Some h) n d e = kept_rig (complete h.form h.runs n) n d e
