-- What a line says.
use Rattle.std.specs.Prelude.{◌≡◌, ℕ, List, Some, Option}
use Rattle.std.specs.Option.{option_map, option_zip}
use Rattle.rig_lines.specs.declared.Form.{Form}
use Rattle.rig_lines.specs.declared.Role.{Role}
use Rattle.rig_lines.specs.declared.Item.{Item}
use Rattle.rig_lines.specs.declared.Item.TheVariants as item
use Rattle.rig_lines.specs.Codes.{form_of, role_of}
use Rattle.rig_lines.specs.Fields.{Part, lone}
use Rattle.rig_lines.specs.Numbers.{number_of}
use Rattle.rig_lines.specs.Shapes.{Shape, comment, header, role, limit, lead, plain_lead, link, and_then, shape_of}

-- the number in a field
abbrev pub number_in : Part → Option ℕ
number_in p = number_of p.bytes

-- the numbers in two fields
abbrev pub pair_in : Part → Part → Option (ℕ × ℕ)
pair_in p q = option_zip (number_in p) (number_in q)

-- the form that a field names
abbrev pub form_in : Part → Option Form
form_in p = form_of p.bytes

-- the role that a field names, by one letter
abbrev pub role_in : Part → Option Role
role_in p = and_then (lone p.bytes) role_of

-- the item of a line with these fields; none where a field does not hold what its place in the line asks for
abbrev pub item_of : Shape → Option Item
item_of (comment a) = Some item.Comment
item_of (header a b c) = option_map (λ p. item.Head p.0 p.1.0 p.1.1) (option_zip (form_in a) (pair_in b c))
item_of (role a b) = option_map (λ p. item.Role p.0 p.1) (option_zip (number_in a) (role_in b))
item_of (limit a b) = option_map (λ p. item.Limit p.0 p.1) (pair_in a b)
item_of (lead a b c d) = option_map (λ p. item.Lead p.0.0 p.0.1 p.1.0 p.1.1) (option_zip (pair_in a b) (pair_in c d))
item_of (plain_lead a b c) = option_map (λ p. item.PlainLead p.0.0 p.0.1 p.1) (option_zip (pair_in a b) (number_in c))
item_of (link a b c) = option_map (λ p. item.Link p.0.0 p.0.1 p.1) (option_zip (pair_in a b) (number_in c))

-- what a line says that begins at the place start
abbrev pub said_at : ℕ → List ℕ → Option Item
said_at start l = and_then (shape_of start l) item_of

-- what a line says
unfoldable pub said_by : List ℕ → Option Item
said_by l = said_at 0 l

-- a line says the same wherever it stands
abbrev pub SaidAnywhere : Type 0
SaidAnywhere = (start : ℕ) (l : List ℕ) → said_at start l ≡ said_by l
