-- An accepted change keeps the bounds of a rig.
use Rattle.std.proofs.Common.{◌≡◌, ℕ, Bool, true, false, ◌&&◌, leb, Some, None, Option, refl, arith}
use Rattle.std.proofs.lemmas.Bool.{and_parts, leb-true, ltb-true, eqb-false, not-true}
use Rattle.drawing.specs.declared.Mark.{Mark}
use Rattle.drawing.specs.declared.Refusal.{Refusal}
use Rattle.drawing.specs.Counts.{Within}
use Rattle.drawing.specs.Codes.{mark_of}
use Rattle.drawing.specs.Drawings.{Network, run}
use Rattle.rig_drawing.specs.Bounds.{Bounded}
use Rattle.rig_drawing.specs.Changes.{check, is_point, ranged, marked, held_after}
use Rattle.rig_drawing.proofs.Bounding.{point_put_bounded, run_put_bounded, run_more_bounded, small_limit, range_parts}
use Rattle.ledger.specs.Ledgers.{Ledger, start, Change, mark, limit, lay, rerate, Request, change, solve, question, change_refusal, changed, next}

-- a check that was passed, and those after it
pub passed : (b : Bool) (e : Refusal) (rest : Option Refusal) → check b e rest ≡ None → (b ≡ true) × (rest ≡ None)
passed true e rest h = (refl, h)
passed false e rest h = absurd (let z : ◌≡◌ {A = ℕ} 0 1 = cc in omega arith)

within : (n v : ℕ) → (leb 1 v && leb v n) ≡ true → Within n v
within n v e = let (a, b) = and_parts _ _ e in (leb-true _ _ a, leb-true _ _ b)

marked_bounded : (d : Network) (v : ℕ) (m : Option Mark) → Bounded d → is_point d v ≡ true → Bounded (elim m [ Some x ↦ marked d v x | None ↦ d ])
marked_bounded d v None h p = h
marked_bounded d v (Some m) h p = point_put_bounded d v _ h (h.small_limits v (within _ v p))

pub changed_bounded : (d : Network) (c : Change) → Bounded d → change_refusal d c ≡ None → Bounded (changed d c)
changed_bounded d (mark v c) h e = marked_bounded d v (mark_of c) h (passed _ _ _ e).0
changed_bounded d (limit v l) h e =
    let (p, rest) = passed _ _ _ e in
    point_put_bounded d v _ h (small_limit l (passed _ _ _ rest).0)
changed_bounded d (lay r) h e =
    let (p, e1) = passed _ _ _ e in
    let (fits, e2) = passed _ _ _ e1 in
    let (apart, e3) = passed _ _ _ e2 in
    let (t, g) = and_parts _ _ p in
    let (ordered, small, fixed) = range_parts r.kind r.lower r.upper fits in
    run_more_bounded d r h
    (record { tail_in = within _ _ t; head_in = within _ _ g; apart = eqb-false _ _ (not-true _ apart); ordered = ordered; link_lower = fixed })
    small (ltb-true _ _ (passed _ _ _ e3).0)
changed_bounded d (rerate k lower upper) h e =
    let (p, e1) = passed _ _ _ e in
    let (fits, e2) = passed _ _ _ e1 in
    let law = h.lawful.each_run k (within _ k p) in
    let (ordered, small, fixed) = range_parts (run d k).kind lower upper fits in
    run_put_bounded d k (ranged (run d k) lower upper) h
    (record { tail_in = law.tail_in; head_in = law.head_in; apart = law.apart; ordered = ordered; link_lower = fixed }) small

kept : (o : Option Refusal) (new old : Ledger) → (o ≡ None → Bounded new.rig) → Bounded old.rig → Bounded (held_after o new old).rig
kept None new old f g = f refl
kept (Some e) new old f g = g

pub next_bounded : (l : Ledger) (a : Request) → Bounded l.rig → Bounded (next l a).rig
next_bounded l (change c) h = kept (change_refusal l.rig c) (start (changed l.rig c)) l (changed_bounded l.rig c h) h
next_bounded l (solve st answers) h = kept _ (record { rig = l.rig; ending = Some (answers l.rig) }) l (λ _. h) h
next_bounded l (question q) h = h
