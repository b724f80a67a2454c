-- A text is read line by line just where its lines spell comments, a head, and lines that are accepted one after another.
use Rattle.std.proofs.Common.{◌≡◌, ℕ, ◌+◌, Bool, true, false, cond, List, [], ◌∷◌, ◌++◌, Some, None, Ok, Err, Option, Result, sym, refl, ap, ◌∙◌, subst, arith}
use Rattle.std.specs.List.{AllByRecursion}
use Rattle.drawing.specs.declared.Refusal.{Refusal}
use Rattle.drawing.specs.Drawings.{Network}
use Rattle.rig_drawing.specs.Changes.{answered, plain_rig}
use Rattle.rig_lines.specs.declared.Form.{Form}
use Rattle.rig_lines.specs.declared.Item.{Item}
use Rattle.rig_lines.specs.declared.Item.TheVariants as item
use Rattle.rig_lines.specs.Items.{said_by}
use Rattle.rig_lines.specs.Spelling.{Spelled}
use Rattle.rig_lines.proofs.Complete.{spelled_exactly}
use Rattle.reading.specs.declared.Fault.{Fault}
use Rattle.reading.specs.Reading.{Progress, unheaded, headed, line_refusal, rig_after, head_refusal, begun, step, complete, at_end, line_read, onward, read_lines}
use Rattle.reading.specs.Describing.{IsComment, Spell}
use Rattle.reading.proofs.Following.{Leaves}

-- a refusal is no answer
pub err_not_ok : {A E : Type 0} {P : Type 0} (e : E) (a : A) → ◌≡◌ {A = Result A E} (Err e) (Ok a) → P
err_not_ok e a h = let z : ◌≡◌ {A = ℕ} 0 1 = cc in let no_such : ⊥ = omega arith in absurd no_such

onward_parts : (k : ℕ) (rest : Progress → Result Network Fault) (d : Network) (r : Result Progress Refusal) → onward k rest r ≡ Ok d → (q : Progress) × (r ≡ Ok q) × (rest q ≡ Ok d)
onward_parts k rest d (Ok q) h = (q, refl, h)
onward_parts k rest d (Err e) h = err_not_ok _ d h

said_parts : (p q : Progress) (o : Option Item) → line_read p o ≡ Ok q → (x : Item) × (o ≡ Some x) × (step p x ≡ Ok q)
said_parts p q None h = err_not_ok _ q h
said_parts p q (Some x) h = (x, refl, h)

answered_parts : (o : Option Refusal) (p q : Progress) → answered o p ≡ Ok q → (o ≡ None) × (p ≡ q)
answered_parts None p q h = let same : p ≡ q = cc in (refl, same)
answered_parts (Some e) p q h = err_not_ok e q h

end_parts : (k : ℕ) (b : Bool) (e d : Network) → at_end k (cond b (Some e) None) ≡ Ok d → (b ≡ true) × (e ≡ d)
end_parts k true e d h = let same : e ≡ d = cc in (refl, same)
end_parts k false e d h = err_not_ok _ d h

-- a text whose lines are read from the first
pub record Headed (ls : List (List ℕ)) (d : Network) : Type 0 where
  pub before : List Item
  pub form : Form
  pub n : ℕ
  pub m : ℕ
  pub after : List Item
  pub spell : Spell ls (before ++ (item.Head form n m ∷ after))
  pub comments : AllByRecursion IsComment before
  pub head : head_refusal n m ≡ None
  pub leaves : Leaves form m (plain_rig n) after d

-- a line that is read, and the rest
line_parts : (k : ℕ) (p : Progress) (l : List ℕ) (ls : List (List ℕ)) (d : Network) → read_lines k p (l ∷ ls) ≡ Ok d
    → (x : Item) × (q : Progress) × Spelled l x × (step p x ≡ Ok q) × (read_lines (k + 1) q ls ≡ Ok d)
unfolding read_lines
line_parts k p l ls d h =
    let (q, r, rest) = onward_parts k (λ q. read_lines (k + 1) q ls) d (line_read p (said_by l)) h in
    let (x, said, s) = said_parts p q (said_by l) r in
    (x, q, (spelled_exactly l x).0 said, s, rest)

line_from_lem : (k : ℕ) (p q : Progress) (l : List ℕ) (ls : List (List ℕ)) (x : Item) → Spelled l x → step p x ≡ Ok q → read_lines k p (l ∷ ls) ≡ read_lines (k + 1) q ls
unfolding read_lines
line_from_lem k p q l ls x s h =
    ap (λ o. onward k (λ q. read_lines (k + 1) q ls) (line_read p o)) ((spelled_exactly l x).1 s) ∙ ap (onward k (λ q. read_lines (k + 1) q ls)) h

-- after the head
pub reads_leaves : (f : Form) (m : ℕ) (e : Network) (ls : List (List ℕ)) (k : ℕ) (d : Network) → read_lines k (headed f m e) ls ≡ Ok d
    → (xs : List Item) × Spell ls xs × Leaves f m e xs d
unfolding read_lines Spell Leaves
reads_leaves f m e [] k d h = ([], tt, end_parts k (complete f m e) e d h)
reads_leaves f m e (l ∷ ls) k d h =
    let (x, q, s, st, rest) = line_parts k (headed f m e) l ls d h in
    let (ok, same) = answered_parts (line_refusal f m e x) (headed f m (rig_after e x)) q st in
    let (xs, spell, leaves) = reads_leaves f m (rig_after e x) ls (k + 1) d (subst (λ p. read_lines (k + 1) p ls ≡ Ok d) (sym same) rest) in
    (x ∷ xs, (s, spell), (ok, leaves))

pub leaves_reads : (f : Form) (m : ℕ) (e : Network) (ls : List (List ℕ)) (xs : List Item) (k : ℕ) (d : Network) → Spell ls xs → Leaves f m e xs d → read_lines k (headed f m e) ls ≡ Ok d
unfolding read_lines Spell Leaves
leaves_reads f m e [] [] k d s h = ap (λ b. at_end k (cond b (Some e) None)) h.0 ∙ ap Ok h.1
leaves_reads f m e [] (x ∷ xs) k d s h = absurd s
leaves_reads f m e (l ∷ ls) [] k d s h = absurd s
leaves_reads f m e (l ∷ ls) (x ∷ xs) k d s h =
    line_from_lem k (headed f m e) (headed f m (rig_after e x)) l ls x s.0 (ap (λ o. answered o (headed f m (rig_after e x))) h.0)
    ∙ leaves_reads f m (rig_after e x) ls xs (k + 1) d s.1 h.1

-- before it
begin : (l : List ℕ) (ls : List (List ℕ)) (k : ℕ) (d : Network) (x : Item) (q : Progress) → Spelled l x → begun x ≡ Ok q → read_lines k q ls ≡ Ok d
    → (read_lines k unheaded ls ≡ Ok d → Headed ls d) → Headed (l ∷ ls) d
unfolding Spell
begin l ls k d item.Comment q s h rest again =
    let same : unheaded ≡ q = cc in
    let more = again (subst (λ p. read_lines k p ls ≡ Ok d) (sym same) rest) in
    record {
      before = item.Comment ∷ more.before;
      form = more.form;
      n = more.n;
      m = more.m;
      after = more.after;
      spell = (s, more.spell);
      comments = (tt, more.comments);
      head = more.head;
      leaves = more.leaves;
    }
begin l ls k d (item.Head f n m) q s h rest again =
    let (ok, same) = answered_parts (head_refusal n m) (headed f m (plain_rig n)) q h in
    let (xs, spell, leaves) = reads_leaves f m (plain_rig n) ls k d (subst (λ p. read_lines k p ls ≡ Ok d) (sym same) rest) in
    record { before = []; form = f; n = n; m = m; after = xs; spell = (s, spell); comments = tt; head = ok; leaves = leaves }
begin l ls k d (item.Role v r) q s h rest again = err_not_ok _ q h
begin l ls k d (item.Limit v c) q s h rest again = err_not_ok _ q h
begin l ls k d (item.Lead t hd lo up) q s h rest again = err_not_ok _ q h
begin l ls k d (item.PlainLead t hd up) q s h rest again = err_not_ok _ q h
begin l ls k d (item.Link t hd up) q s h rest again = err_not_ok _ q h

pub reads_headed : (ls : List (List ℕ)) (k : ℕ) (d : Network) → read_lines k unheaded ls ≡ Ok d → Headed ls d
unfolding read_lines
reads_headed [] k d h = err_not_ok _ d h
reads_headed (l ∷ ls) k d h =
    let (x, q, s, st, rest) = line_parts k unheaded l ls d h in
    begin l ls (k + 1) d x q s st rest (reads_headed ls (k + 1) d)

comment_begun : (x : Item) → IsComment x → begun x ≡ Ok unheaded
comment_begun item.Comment c = refl
comment_begun (item.Head f n m) c = absurd c
comment_begun (item.Role v r) c = absurd c
comment_begun (item.Limit v l) c = absurd c
comment_begun (item.Lead t hd lo up) c = absurd c
comment_begun (item.PlainLead t hd up) c = absurd c
comment_begun (item.Link t hd up) c = absurd c

headed_reads : (before : List Item) (f : Form) (n m : ℕ) (after : List Item) (ls : List (List ℕ)) (k : ℕ) (d : Network) → Spell ls (before ++ (item.Head f n m ∷ after))
    → AllByRecursion IsComment before → head_refusal n m ≡ None → Leaves f m (plain_rig n) after d → read_lines k unheaded ls ≡ Ok d
unfolding Spell
headed_reads [] f n m after [] k d s c ok h = absurd s
headed_reads [] f n m after (l ∷ ls) k d s c ok h =
    line_from_lem k unheaded (headed f m (plain_rig n)) l ls (item.Head f n m) s.0 (ap (λ o. answered o (headed f m (plain_rig n))) ok)
    ∙ leaves_reads f m (plain_rig n) ls after (k + 1) d s.1 h
headed_reads (x ∷ xs) f n m after [] k d s c ok h = absurd s
headed_reads (x ∷ xs) f n m after (l ∷ ls) k d s c ok h =
    line_from_lem k unheaded unheaded l ls x s.0 (comment_begun x c.0) ∙ headed_reads xs f n m after ls (k + 1) d s.1 c.1 ok h

pub reads_from : (ls : List (List ℕ)) (k : ℕ) (d : Network) → Headed ls d → read_lines k unheaded ls ≡ Ok d
reads_from ls k d h = headed_reads h.before h.form h.n h.m h.after ls k d h.spell h.comments h.head h.leaves
