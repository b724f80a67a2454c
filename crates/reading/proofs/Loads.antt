-- What a rig holds and what lines still give it, taken together: an accepted line moves from the second to the first.
use Rattle.std.proofs.Common.{◌≡◌, ℕ, ◌+◌, List, [], ◌∷◌, ◌++◌, length, is_some, Some, Option, sym, refl, ap, ◌∙◌, arith}
use Rattle.std.proofs.lemmas.List.{append_assoc}
use Rattle.drawing.specs.declared.Mark.{Mark}
use Rattle.drawing.specs.declared.Point.{Point}
use Rattle.drawing.specs.declared.Run.{Run}
use Rattle.drawing.specs.Counts.{only}
use Rattle.drawing.specs.Drawings.{Network, point}
use Rattle.rig_drawing.specs.Changes.{laid}
use Rattle.rig_lines.specs.declared.Form.{Form}
use Rattle.rig_lines.specs.declared.Role.{Role}
use Rattle.rig_lines.specs.declared.Role.TheVariants as role
use Rattle.rig_lines.specs.declared.Item.{Item}
use Rattle.rig_lines.specs.declared.Item.TheVariants as item
use Rattle.rig_lines.specs.Codes.{role_mark, role_letter}
use Rattle.reading.specs.Given.{lead_of, link_of, also, at, gathered, marks_in, limits_in, runs_in, points_given, last_or}
use Rattle.reading.specs.Reading.{is_marked, role_count, rig_after}
use Rattle.reading.proofs.Accepting.{Allowed, Markable, Limitable}
use Rattle.reading.proofs.Points.{put_counted, put_last, kept_counted, kept_last, is_role, role_put, role_kept, role_laid, role_marked}

pub record Load : Type 0 where
  -- how many marks and limits each point has and is given, and how many points have or are given each role
  pub marked : ℕ → ℕ
  pub limited : ℕ → ℕ
  pub roles : Role → ℕ
  -- what comes out of it
  pub mark : ℕ → Mark
  pub limit : ℕ → Option ℕ
  pub runs : List Run

abbrev pub load : Network → List Item → Load
load d xs = record {
  marked = λ v. only (is_marked (point d v).mark) 1 + length (marks_in xs v);
  limited = λ v. only (is_some (point d v).limit) 1 + length (limits_in xs v);
  roles = λ r. role_count r d + length (points_given xs r);
  mark = λ v. last_or (point d v).mark (marks_in xs v);
  limit = λ v. last_or (point d v).limit (limits_in xs v);
  runs = d.runs ++ runs_in xs;
}

pub same_load : (a b : Load) → ((v : ℕ) → a.marked v ≡ b.marked v) → ((v : ℕ) → a.limited v ≡ b.limited v) → ((r : Role) → a.roles r ≡ b.roles r)
    → ((v : ℕ) → a.mark v ≡ b.mark v) → ((v : ℕ) → a.limit v ≡ b.limit v) → a.runs ≡ b.runs → a ≡ b
same_load a b k l p m c r = λ i. record { marked = λ v. k v i; limited = λ v. l v i; roles = λ s. p s i; mark = λ v. m v i; limit = λ v. c v i; runs = r i }

roles_more : (r s : Role) (v k : ℕ) (rest : List ℕ) → k + length (also (at (role_letter s) (role_letter r) v) rest) ≡ (k + only (is_role r (role_mark s)) 1) + length rest
roles_more role.Rack role.Rack v k rest = omega arith
roles_more role.Rack role.Bar v k rest = omega arith
roles_more role.Bar role.Rack v k rest = omega arith
roles_more role.Bar role.Bar v k rest = omega arith

mark_load : (f : Form) (d : Network) (v : ℕ) (r : Role) (xs : List Item) → Markable f d v r → load d (item.Role v r ∷ xs) ≡ load (rig_after d (item.Role v r)) xs
unfolding gathered
mark_load f d v r xs h =
    let q : Point = record { mark = role_mark r; limit = (point d v).limit } in
    let w = h.inside in
    same_load _ _
    (λ u. put_counted (λ p. p.mark) d v q w is_marked (role_marked r) h.plain u (marks_in xs u))
    (λ u. kept_counted (λ p. p.limit) d v q w is_some refl u (limits_in xs u))
    (λ s. roles_more s r v (role_count s d) (points_given xs s) ∙ ap (λ k. k + length (points_given xs s)) (sym (role_put s d v q w h.plain)))
    (λ u. put_last (λ p. p.mark) d v q w u (marks_in xs u))
    (λ u. kept_last (λ p. p.limit) d v q w refl u (limits_in xs u))
    refl

limit_load : (d : Network) (v c : ℕ) (xs : List Item) → Limitable d v c → load d (item.Limit v c ∷ xs) ≡ load (rig_after d (item.Limit v c)) xs
unfolding gathered
limit_load d v c xs h =
    let q : Point = record { mark = (point d v).mark; limit = Some c } in
    let w = h.inside in
    same_load _ _
    (λ u. kept_counted (λ p. p.mark) d v q w is_marked refl u (marks_in xs u))
    (λ u. put_counted (λ p. p.limit) d v q w is_some refl h.unlimited u (limits_in xs u))
    (λ s. ap (λ k. k + length (points_given xs s)) (sym (role_kept s d v q w refl)))
    (λ u. kept_last (λ p. p.mark) d v q w refl u (marks_in xs u))
    (λ u. put_last (λ p. p.limit) d v q w u (limits_in xs u))
    refl

-- a load with other runs
abbrev with_runs : Load → List Run → Load
with_runs l rs = record { marked = l.marked; limited = l.limited; roles = l.roles; mark = l.mark; limit = l.limit; runs = rs }

run_load : (d : Network) (r : Run) (xs : List Item) → with_runs (load d xs) (d.runs ++ (r ∷ runs_in xs)) ≡ load (laid d r) xs
run_load d r xs =
    same_load _ _
    (λ u. refl)
    (λ u. refl)
    (λ s. ap (λ k. k + length (points_given xs s)) (role_laid s d r))
    (λ u. refl)
    (λ u. refl)
    (sym (append_assoc d.runs (r ∷ []) (runs_in xs)))

-- the load before an accepted line is that after it
pub next_load : (f : Form) (m : ℕ) (d : Network) (x : Item) (xs : List Item) → Allowed f m d x → load d (x ∷ xs) ≡ load (rig_after d x) xs
unfolding gathered
next_load f m d item.Comment xs h = refl
next_load f m d (item.Head g n k) xs h = absurd h
next_load f m d (item.Role v r) xs h = mark_load f d v r xs h
next_load f m d (item.Limit v c) xs h = limit_load d v c xs h.1
next_load f m d (item.Lead t hd lo up) xs h = run_load d (lead_of t hd lo up) xs
next_load f m d (item.PlainLead t hd up) xs h = run_load d (lead_of t hd 0 up) xs
next_load f m d (item.Link t hd up) xs h = run_load d (link_of t hd up) xs
