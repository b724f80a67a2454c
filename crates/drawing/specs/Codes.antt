-- The numbers and letters of the cases of an enum, as formats and calls have them.
use Rattle.std.specs.Prelude.{ℕ, cond, Some, None, Option, ◌==◌}
use Rattle.drawing.specs.declared.Mark.{Mark}
use Rattle.drawing.specs.declared.Mark.TheVariants.{Plain, Rack, Bar}
use Rattle.drawing.specs.declared.Label.{Label}
use Rattle.drawing.specs.declared.Label.TheVariants.{Near, Tight, Far}
use Rattle.drawing.specs.declared.Feature.{Feature}
use Rattle.drawing.specs.declared.Feature.TheVariants.{LowerBounds, Links, Limits, Terminals}
use Rattle.drawing.specs.declared.Refusal.{Refusal}
use Rattle.drawing.specs.declared.Refusal.TheVariants.{PointCount, NoSuchPoint, NoSuchRun, NoSuchMark, BadRange, EqualEnds, UnknownLine, LineOrder, TextTooLong, BrokenDrawing, RunsFull, Unsupported, TooLarge, NotSolved, OtherVerdict, OutputTooShort}

abbrev pub mark_code : Mark → ℕ
mark_code Plain = 0
mark_code Rack = 1
mark_code Bar = 2

-- the mark that has the code
abbrev pub mark_of : ℕ → Option Mark
mark_of c = cond (c == mark_code Plain) (Some Plain) (cond (c == mark_code Rack) (Some Rack) (cond (c == mark_code Bar) (Some Bar) None))

-- the letters n, t and f, as ASCII has them
abbrev pub label_letter : Label → ℕ
label_letter Near = 110
label_letter Tight = 116
label_letter Far = 102

abbrev pub feature_number : Feature → ℕ
feature_number LowerBounds = 1
feature_number Links = 2
feature_number Limits = 3
feature_number Terminals = 4

abbrev pub refusal_number : Refusal → ℕ
-- a point count outside 1 to 60
refusal_number PointCount = 1
-- a point outside 1 to n
refusal_number NoSuchPoint = 2
-- no run of that number
refusal_number NoSuchRun = 3
-- a mark code other than 0, 1 and 2
refusal_number NoSuchMark = 4
-- lower above upper, an upper or a limit that is too high, or a link with a lower above 0
refusal_number BadRange = 5
-- both ends equal
refusal_number EqualEnds = 6
-- a line of no known form
refusal_number UnknownLine = 7
-- lines in wrong order, number or repetition
refusal_number LineOrder = 8
-- a text that is too long
refusal_number TextTooLong = 9
-- a drawing, given to a solver, that is not admissible
refusal_number BrokenDrawing = 10
-- no room for another run
refusal_number RunsFull = 21
-- the solver does not take a feature that is used
refusal_number (Unsupported f) = 22
-- more points, runs or units than the solver takes
refusal_number TooLarge = 23
-- a question that needs an ending, and there is none
refusal_number NotSolved = 24
-- a question that the ending's verdict does not answer
refusal_number OtherVerdict = 25
-- an output that is shorter than what is to be written
refusal_number OutputTooShort = 26

-- the number of the feature that a refusal names
abbrev pub refusal_feature : Refusal → Option ℕ
refusal_feature PointCount = None
refusal_feature NoSuchPoint = None
refusal_feature NoSuchRun = None
refusal_feature NoSuchMark = None
refusal_feature BadRange = None
refusal_feature EqualEnds = None
refusal_feature UnknownLine = None
refusal_feature LineOrder = None
refusal_feature TextTooLong = None
refusal_feature BrokenDrawing = None
refusal_feature RunsFull = None
refusal_feature (Unsupported f) = Some (feature_number f)
refusal_feature TooLarge = None
refusal_feature NotSolved = None
refusal_feature OtherVerdict = None
refusal_feature OutputTooShort = None

-- a refusal as it is told: its number, and the feature's where it names one
abbrev pub refusal_code : Refusal → ℕ × Option ℕ
refusal_code r = (refusal_number r, refusal_feature r)
