-- A rig that is read keeps the bounds of rigs.
use Rattle.std.proofs.Common.{ℕ, List, [], ◌∷◌, subst}
use Rattle.drawing.specs.declared.Run.{Run}
use Rattle.drawing.specs.Drawings.{Network}
use Rattle.rig_drawing.specs.Bounds.{Bounded}
use Rattle.rig_drawing.specs.Changes.{plain_rig, laid}
use Rattle.rig_drawing.proofs.Bounding.{plain_bounded, point_put_bounded, run_more_bounded}
use Rattle.rig_lines.specs.declared.Form.{Form}
use Rattle.rig_lines.specs.declared.Item.{Item}
use Rattle.rig_lines.specs.declared.Item.TheVariants as item
use Rattle.reading.specs.Reading.{rig_after}
use Rattle.reading.proofs.Accepting.{Allowed, Layable, accepted, head_accepted}
use Rattle.reading.proofs.Following.{Leaves}
use Rattle.reading.proofs.Lines.{Headed}

run_bounded : (m : ℕ) (e : Network) (r : Run) → Bounded e → Layable m e r → Bounded (laid e r)
run_bounded m e r b h = run_more_bounded e r b h.keeps.0 h.keeps.1 h.room

bounded_after : (f : Form) (m : ℕ) (e : Network) (x : Item) → Allowed f m e x → Bounded e → Bounded (rig_after e x)
bounded_after f m e item.Comment h b = b
bounded_after f m e (item.Head g n k) h b = b
bounded_after f m e (item.Role v r) h b = point_put_bounded e v _ b (b.small_limits v h.inside)
bounded_after f m e (item.Limit v c) h b = point_put_bounded e v _ b h.1.small
bounded_after f m e (item.Lead t hd lo up) h b = run_bounded m e _ b h.1
bounded_after f m e (item.PlainLead t hd up) h b = run_bounded m e _ b h.1
bounded_after f m e (item.Link t hd up) h b = run_bounded m e _ b h.1

leaves_bounded : (f : Form) (m : ℕ) (e : Network) (xs : List Item) (d : Network) → Leaves f m e xs d → Bounded e → Bounded d
unfolding Leaves
leaves_bounded f m e [] d h b = subst Bounded h.1 b
leaves_bounded f m e (x ∷ xs) d h b = leaves_bounded f m (rig_after e x) xs d h.1 (bounded_after f m e x (accepted f m e x h.0) b)

pub headed_bounded : (ls : List (List ℕ)) (d : Network) → Headed ls d → Bounded d
headed_bounded ls d h =
    let range = (head_accepted h.n h.m h.head).1 in
    leaves_bounded h.form h.m (plain_rig h.n) h.after d h.leaves (plain_bounded h.n range.0 range.1)
