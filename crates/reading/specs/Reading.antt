-- Reading a text line by line: what each line adds to the rig, and which refusal a text meets, at which line.
use Rattle.std.specs.Prelude.{ℕ, ◌+◌, Bool, true, false, cond, not, ◌&&◌, ◌||◌, List, [], ◌∷◌, length, is_some, Some, None, Ok, Err, Option, Result, ◌==◌, nat_le, nat_lt}
use Rattle.drawing.specs.declared.Mark.{Mark}
use Rattle.drawing.specs.declared.Run.{Run}
use Rattle.drawing.specs.declared.Refusal.{Refusal}
use Rattle.drawing.specs.declared.Refusal.TheVariants.{UnknownLine, LineOrder, TextTooLong}
use Rattle.drawing.specs.Drawings.{Network, run_count, point, is_rack, is_bar, rack_count, bar_count}
use Rattle.rig_drawing.specs.Changes.{check, answered, count_refusal, plain_rig, mark_refusal, marked, limit_refusal, limited, lay_refusal, laid}
use Rattle.rig_lines.specs.declared.Form.{Form}
use Rattle.rig_lines.specs.declared.Form.TheVariants.{Rig, Max}
use Rattle.rig_lines.specs.declared.Role.{Role}
use Rattle.rig_lines.specs.declared.Role.TheVariants as role
use Rattle.rig_lines.specs.declared.Item.{Item}
use Rattle.rig_lines.specs.declared.Item.TheVariants as item
use Rattle.rig_lines.specs.Codes.{role_mark}
use Rattle.rig_lines.specs.Items.{said_by}
use Rattle.reading.specs.declared.Fault.{Fault}
use Rattle.reading.specs.Lines.{lines_of}
use Rattle.reading.specs.Given.{lead_of, link_of}

abbrev pub is_max : Form → Bool
is_max Rig = false
is_max Max = true

abbrev pub is_marked : Mark → Bool
is_marked m = is_rack m || is_bar m

-- how many points have the role
abbrev pub role_count : Role → Network → ℕ
role_count role.Rack d = rack_count d
role_count role.Bar d = bar_count d

-- an n line repeats where its point has a mark already; after `p max` also where its role is taken
abbrev pub repeats : Form → Network → ℕ → Role → Bool
repeats f d v r = is_marked (point d v).mark || (is_max f && nat_lt 0 (role_count r d))

-- a run is laid where fewer were laid than the head announced
abbrev pub run_refusal : ℕ → Network → Run → Option Refusal
run_refusal m d r = check (nat_lt (run_count d) m) LineOrder (lay_refusal d r)

-- How a line after the head is refused, by 7, then 8, then 1 to 6: by the form, the number of runs that the head announced, the rig so far.
abbrev pub line_refusal : Form → ℕ → Network → Item → Option Refusal
line_refusal f m d item.Comment = None
line_refusal f m d (item.Head g n k) = Some LineOrder
line_refusal f m d (item.Role v r) = check (not (repeats f d v r)) LineOrder (mark_refusal d v)
line_refusal f m d (item.Limit v c) = check (not (is_max f)) UnknownLine (check (not (is_some (point d v).limit)) LineOrder (limit_refusal d v (Some c)))
line_refusal f m d (item.Lead t h lo up) = check (not (is_max f)) UnknownLine (run_refusal m d (lead_of t h lo up))
line_refusal f m d (item.PlainLead t h up) = check (is_max f) UnknownLine (run_refusal m d (lead_of t h 0 up))
line_refusal f m d (item.Link t h up) = check (not (is_max f)) UnknownLine (run_refusal m d (link_of t h up))

-- the rig after an accepted line
abbrev pub rig_after : Network → Item → Network
rig_after d item.Comment = d
rig_after d (item.Head g n k) = d
rig_after d (item.Role v r) = marked d v (role_mark r)
rig_after d (item.Limit v c) = limited d v (Some c)
rig_after d (item.Lead t h lo up) = laid d (lead_of t h lo up)
rig_after d (item.PlainLead t h up) = laid d (lead_of t h 0 up)
rig_after d (item.Link t h up) = laid d (link_of t h up)

-- how far the reading is: before the head; or after it, with its form, the number of runs that it announced, and the rig so far
pub data Progress : Type 0 where
  unheaded : Progress
  headed : Form → ℕ → Network → Progress

-- a head: RUNS above 160 is 8, then a point count outside 1 to 60 is 1
abbrev pub head_refusal : ℕ → ℕ → Option Refusal
head_refusal n m = check (nat_le m 160) LineOrder (count_refusal n)

-- an item before the head: a comment, or the head itself; any other is 8
abbrev pub begun : Item → Result Progress Refusal
begun item.Comment = Ok unheaded
begun (item.Head f n m) = answered (head_refusal n m) (headed f m (plain_rig n))
begun (item.Role v r) = Err LineOrder
begun (item.Limit v c) = Err LineOrder
begun (item.Lead t h lo up) = Err LineOrder
begun (item.PlainLead t h up) = Err LineOrder
begun (item.Link t h up) = Err LineOrder

-- one item more, or its refusal
abbrev pub step : Progress → Item → Result Progress Refusal
step unheaded x = begun x
step (headed f m d) x = answered (line_refusal f m d x) (headed f m (rig_after d x))

-- nothing is missing at the end: as many runs as announced, and after `p max` one rack and one bar
abbrev pub complete : Form → ℕ → Network → Bool
complete f m d = run_count d == m && (not (is_max f) || (rack_count d == 1 && bar_count d == 1))

-- the rig that the end of the text leaves, if any
abbrev pub finished : Progress → Option Network
finished unheaded = None
finished (headed f m d) = cond (complete f m d) (Some d) None

-- the refusal, at line k
abbrev pub fault : Refusal → ℕ → Fault
fault e k = record { refusal = e; line = k }

-- where something is missing it is 8 at k, the line after the last
abbrev pub at_end : ℕ → Option Network → Result Network Fault
at_end k (Some d) = Ok d
at_end k None = Err (fault LineOrder k)

-- what a line does to the reading: 7 where it says nothing
abbrev pub line_read : Progress → Option Item → Result Progress Refusal
line_read p None = Err UnknownLine
line_read p (Some x) = step p x

-- and after it: a refusal is told with the line's number k
abbrev pub onward : ℕ → (Progress → Result Network Fault) → Result Progress Refusal → Result Network Fault
onward k rest (Ok q) = rest q
onward k rest (Err e) = Err (fault e k)

-- the rest of a text, whose lines are numbered from k
unfoldable pub read_lines : ℕ → Progress → List (List ℕ) → Result Network Fault
read_lines k p [] = at_end k (finished p)
read_lines k p (l ∷ ls) = onward k (λ q. read_lines (k + 1) q ls) (line_read p (said_by l))

-- A text above 16,384 bytes is 9 at line 0, before all else.
abbrev pub read_text : List ℕ → Result Network Fault
read_text t = cond (nat_le (length t) 16384) (read_lines 1 unheaded (lines_of t)) (Err (fault TextTooLong 0))
