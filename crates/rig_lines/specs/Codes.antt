-- The letters and words of a text, and the cases that they name.
use Rattle.std.specs.Prelude.{ℕ, cond, List, Some, None, codes, Option, ◌==◌}
use Rattle.std.specs.Str.{bytes_eq}
use Rattle.drawing.specs.declared.Mark.{Mark}
use Rattle.drawing.specs.declared.Mark.TheVariants as mark
use Rattle.rig_lines.specs.declared.LineKind.{LineKind}
use Rattle.rig_lines.specs.declared.LineKind.TheVariants as kind
use Rattle.rig_lines.specs.declared.Form.{Form}
use Rattle.rig_lines.specs.declared.Form.TheVariants.{Rig, Max}
use Rattle.rig_lines.specs.declared.Role.{Role}
use Rattle.rig_lines.specs.declared.Role.TheVariants.{Rack, Bar}

-- the letters c, p, n, l, a and e, as ASCII has them
abbrev pub kind_letter : LineKind → ℕ
kind_letter kind.Comment = 99
kind_letter kind.Head = 112
kind_letter kind.Role = 110
kind_letter kind.Limit = 108
kind_letter kind.Lead = 97
kind_letter kind.Link = 101

-- the kind of line that the letter names
abbrev pub kind_of : ℕ → Option LineKind
kind_of c =
    cond (c == kind_letter kind.Comment) (Some kind.Comment)
    (cond (c == kind_letter kind.Head) (Some kind.Head)
    (cond (c == kind_letter kind.Role) (Some kind.Role)
    (cond (c == kind_letter kind.Limit) (Some kind.Limit)
    (cond (c == kind_letter kind.Lead) (Some kind.Lead)
    (cond (c == kind_letter kind.Link) (Some kind.Link) None)))))

-- the letters s and t
abbrev pub role_letter : Role → ℕ
role_letter Rack = 115
role_letter Bar = 116

-- the role that the letter names
abbrev pub role_of : ℕ → Option Role
role_of c = cond (c == role_letter Rack) (Some Rack) (cond (c == role_letter Bar) (Some Bar) None)

-- the mark of a point that has the role
abbrev pub role_mark : Role → Mark
role_mark Rack = mark.Rack
role_mark Bar = mark.Bar

abbrev pub form_name : Form → List ℕ
form_name Rig = codes "rig"
form_name Max = codes "max"

-- the form that has the name
abbrev pub form_of : List ℕ → Option Form
form_of w = cond (bytes_eq w (form_name Rig)) (Some Rig) (cond (bytes_eq w (form_name Max)) (Some Max) None)
