-- Tests, as code makes them, of what Plans, Labels and Answers define.
use Rattle.std.specs.Prelude.{ℕ, ◌+◌, Bool, true, not, ◌&&◌, ◌||◌, List, length, ℤ, pos, is_some, Some, None, Option, ◌==◌, int_le, int_lt, nat_le, unsigned_abs}
use Rattle.drawing.specs.declared.Kind.{Kind}
use Rattle.drawing.specs.declared.Kind.TheVariants.{Lead, Link}
use Rattle.drawing.specs.declared.Label.{Label}
use Rattle.drawing.specs.Counts.{every_to}
use Rattle.drawing.specs.Drawings.{Network, point_count, run_count, point, run, is_rack, is_bar}
use Rattle.drawing.specs.Plans.{Plan, flow, supply, delivery, entering, leaving, load, total}
use Rattle.drawing.specs.Labels.{is_tight, label, worth, far_rack, near_bar}
use Rattle.drawing.specs.Answers.{Answer, Planned, Short}

-- equal integers
abbrev pub same_z : ℤ → ℤ → Bool
same_z a b = int_le a b && int_le b a

-- a plan has the lists that the drawing asks for
abbrev pub is_shaped : Network → Plan → Bool
is_shaped d p = length p.flows == run_count d && length p.supplies == point_count d && length p.deliveries == point_count d

abbrev pub is_in_range : Kind → ℕ → ℕ → ℤ → Bool
is_in_range Lead lower upper f = int_le (pos lower) f && int_le f (pos upper)
is_in_range Link lower upper f = nat_le (unsigned_abs f) upper

abbrev pub is_under : Option ℕ → ℕ → Bool
is_under None x = true
is_under (Some l) x = nat_le x l

-- what a plan owes at point v: nothing supplied but by a rack or delivered but by a bar, balance, the limit
abbrev pub is_kept : Network → Plan → ℕ → Bool
is_kept d p v =
    (is_rack (point d v).mark || supply p v == 0)
    && (is_bar (point d v).mark || delivery p v == 0)
    && entering d p v + supply p v == leaving d p v + delivery p v
    && is_under (point d v).limit (load d p v)

abbrev pub is_feasible : Network → Plan → Bool
is_feasible d p =
    is_shaped d p
    && every_to (run_count d) (λ k. is_in_range (run d k).kind (run d k).lower (run d k).upper (flow p k))
    && every_to (point_count d) (is_kept d p)

abbrev pub is_labelling : Network → List Label → Bool
is_labelling d ls = length ls == point_count d && every_to (point_count d) (λ v. not (is_tight (label ls v)) || is_some (point d v).limit)

abbrev pub is_cut : Network → List Label → Bool
is_cut d ls = is_labelling d ls && not (far_rack d ls) && not (near_bar d ls)

abbrev pub is_shortage : Network → List Label → Bool
is_shortage d ls = is_labelling d ls && int_lt (worth d ls) (pos 0) && not (far_rack d ls && near_bar d ls)

abbrev pub is_right : Network → Answer → Bool
is_right d (Planned p t ls) = is_feasible d p && t == total p && is_cut d ls && same_z (worth d ls) (pos t)
is_right d (Short ls) = is_shortage d ls
