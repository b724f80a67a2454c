-- What the lines of a text give a rig: marks and limits of points, and runs.
use Rattle.std.specs.Prelude.{ℕ, cond, List, [], ◌∷◌, Some, None, Option, ◌==◌}
use Rattle.drawing.specs.declared.Kind.TheVariants.{Lead, Link}
use Rattle.drawing.specs.declared.Mark.{Mark}
use Rattle.drawing.specs.declared.Run.{Run}
use Rattle.rig_lines.specs.declared.Role.{Role}
use Rattle.rig_lines.specs.declared.Item.{Item}
use Rattle.rig_lines.specs.declared.Item.TheVariants as item
use Rattle.rig_lines.specs.Codes.{role_mark, role_letter}

-- the lead with the ends and the range, and the link with the ends and the upper
abbrev pub lead_of : ℕ → ℕ → ℕ → ℕ → Run
lead_of t h lo up = record { kind = Lead; tail = t; head = h; lower = lo; upper = up }

abbrev pub link_of : ℕ → ℕ → ℕ → Run
link_of t h up = record { kind = Link; tail = t; head = h; lower = 0; upper = up }

-- a value where the two numbers are equal
abbrev pub at : {A : Type 0} → ℕ → ℕ → A → Option A
at u v a = cond (u == v) (Some a) None

-- the mark that a line gives point v
abbrev pub mark_given : ℕ → Item → Option Mark
mark_given v item.Comment = None
mark_given v (item.Head f n m) = None
mark_given v (item.Role u r) = at u v (role_mark r)
mark_given v (item.Limit u c) = None
mark_given v (item.Lead t h lo up) = None
mark_given v (item.PlainLead t h up) = None
mark_given v (item.Link t h up) = None

-- the limit that a line gives point v
abbrev pub limit_given : ℕ → Item → Option (Option ℕ)
limit_given v item.Comment = None
limit_given v (item.Head f n m) = None
limit_given v (item.Role u r) = None
limit_given v (item.Limit u c) = at u v (Some c)
limit_given v (item.Lead t h lo up) = None
limit_given v (item.PlainLead t h up) = None
limit_given v (item.Link t h up) = None

-- the run that a line lays
abbrev pub run_laid : Item → Option Run
run_laid item.Comment = None
run_laid (item.Head f n m) = None
run_laid (item.Role u r) = None
run_laid (item.Limit u c) = None
run_laid (item.Lead t h lo up) = Some (lead_of t h lo up)
run_laid (item.PlainLead t h up) = Some (lead_of t h 0 up)
run_laid (item.Link t h up) = Some (link_of t h up)

-- the point that a line gives the role
abbrev pub role_given : Role → Item → Option ℕ
role_given r item.Comment = None
role_given r (item.Head f n m) = None
role_given r (item.Role v s) = at (role_letter s) (role_letter r) v
role_given r (item.Limit u c) = None
role_given r (item.Lead t h lo up) = None
role_given r (item.PlainLead t h up) = None
role_given r (item.Link t h up) = None

-- one value more, where there is one
abbrev pub also : {A : Type 0} → Option A → List A → List A
also None rest = rest
also (Some a) rest = a ∷ rest

-- all that lines give, in order
unfoldable pub gathered : {A : Type 0} → (Item → Option A) → List Item → List A
gathered g [] = []
gathered g (x ∷ xs) = also (g x) (gathered g xs)

-- the marks and the limits that they give point v
abbrev pub marks_in : List Item → ℕ → List Mark
marks_in xs v = gathered (mark_given v) xs

abbrev pub limits_in : List Item → ℕ → List (Option ℕ)
limits_in xs v = gathered (limit_given v) xs

-- the runs that they lay
abbrev pub runs_in : List Item → List Run
runs_in xs = gathered run_laid xs

-- the points that they give the role
abbrev pub points_given : List Item → Role → List ℕ
points_given xs r = gathered (role_given r) xs

-- the last of a list; a where it is empty
unfoldable pub last_or : {A : Type 0} → A → List A → A
last_or a [] = a
last_or a (b ∷ bs) = last_or b bs
