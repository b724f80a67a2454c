-- Eight small drawings, each with a right answer and the number told with it.
use Rattle.std.specs.Prelude.{◌≡◌, ℕ, zero, suc, List, [], ◌∷◌, ℤ, pos, negsuc, Some, None, Option}
use Rattle.std.specs.List.{AllByRecursion, slice_get}
use Rattle.drawing.specs.declared.Mark.{Mark}
use Rattle.drawing.specs.declared.Mark.TheVariants.{Plain, Rack, Bar}
use Rattle.drawing.specs.declared.Point.{Point}
use Rattle.drawing.specs.declared.Kind.TheVariants.{Lead, Link}
use Rattle.drawing.specs.declared.Run.{Run}
use Rattle.drawing.specs.declared.Drawing.{Drawing}
use Rattle.drawing.specs.declared.Label.TheVariants.{Near, Tight, Far}
use Rattle.drawing.specs.declared.record.Record.{Record}
use Rattle.drawing.specs.Drawings.{Network, Lawful}
use Rattle.drawing.specs.Plans.{plan_of}
use Rattle.drawing.specs.Answers.{Answer, Planned, Short, Right, figure}
use Rattle.drawing.specs.Records.{network, contents, filed}

pub record Example : Type 0 where
  pub drawing : Network
  pub answer : Answer
  -- a plan's total or a shortage's worth
  pub told : ℤ

-- a point with no limit, and one with a limit
abbrev pub free : Mark → Point
free m = record { mark = m; limit = None }

abbrev pub limited : Mark → ℕ → Point
limited m l = record { mark = m; limit = Some l }

-- tail, head, lower and upper; first end, second end and upper
abbrev pub lead : ℕ → ℕ → ℕ → ℕ → Run
lead t h lo up = record { kind = Lead; tail = t; head = h; lower = lo; upper = up }

abbrev pub link : ℕ → ℕ → ℕ → Run
link a b up = record { kind = Link; tail = a; head = b; lower = 0; upper = up }

abbrev pub minus : ℕ → ℤ
minus zero = pos 0
minus (suc n) = negsuc n

abbrev pub drawn : List Point → List Run → Network
drawn ps rs = record { points = ps; runs = rs }

abbrev pub examples : List Example
examples =
    -- one plain point
    record {
      drawing = drawn (free Plain ∷ []) [];
      answer = Planned (plan_of [] (0 ∷ []) (0 ∷ [])) 0 (Far ∷ []);
      told = pos 0;
    }
    -- a lead into the rack that nothing can feed
    ∷ record {
      drawing = drawn (free Rack ∷ free Bar ∷ []) (lead 2 1 1 1 ∷ []);
      answer = Short (Near ∷ Far ∷ []);
      told = minus 1;
    }
    -- the same with a lead out of the rack
    ∷ record {
      drawing = drawn (free Rack ∷ free Bar ∷ []) (lead 2 1 1 1 ∷ lead 1 2 0 4 ∷ []);
      answer = Planned (plan_of (pos 1 ∷ pos 4 ∷ []) (3 ∷ 0 ∷ []) (0 ∷ 3 ∷ [])) 3 (Near ∷ Far ∷ []);
      told = pos 3;
    }
    -- more must come than can go on
    ∷ record {
      drawing = drawn (free Rack ∷ free Plain ∷ free Bar ∷ []) (lead 1 2 2 2 ∷ lead 2 3 0 1 ∷ []);
      answer = Short (Far ∷ Near ∷ Far ∷ []);
      told = minus 1;
    }
    -- a link that carries from its second end to its first
    ∷ record {
      drawing = drawn (free Bar ∷ free Rack ∷ []) (link 1 2 4 ∷ []);
      answer = Planned (plan_of (minus 4 ∷ []) (0 ∷ 4 ∷ []) (4 ∷ 0 ∷ [])) 4 (Far ∷ Near ∷ []);
      told = pos 4;
    }
    -- a rack with a limit
    ∷ record {
      drawing = drawn (limited Rack 3 ∷ free Bar ∷ []) (lead 1 2 0 9 ∷ []);
      answer = Planned (plan_of (pos 3 ∷ []) (3 ∷ 0 ∷ []) (0 ∷ 3 ∷ [])) 3 (Tight ∷ Far ∷ []);
      told = pos 3;
    }
    -- no rack and no bar
    ∷ record {
      drawing = drawn (free Plain ∷ free Plain ∷ []) (lead 1 2 1 1 ∷ lead 2 1 1 1 ∷ []);
      answer = Planned (plan_of (pos 1 ∷ pos 1 ∷ []) (0 ∷ 0 ∷ []) (0 ∷ 0 ∷ [])) 0 (Far ∷ Far ∷ []);
      told = pos 0;
    }
    -- leads, a lower, a link and a limit
    ∷ record {
      drawing = drawn (free Rack ∷ limited Plain 3 ∷ free Plain ∷ free Bar ∷ []) (lead 1 2 0 3 ∷ lead 1 3 1 1 ∷ link 2 3 2 ∷ lead 2 4 0 9 ∷ []);
      answer = Planned (plan_of (pos 2 ∷ pos 1 ∷ minus 1 ∷ pos 3 ∷ []) (3 ∷ 0 ∷ 0 ∷ 0 ∷ []) (0 ∷ 0 ∷ 0 ∷ 3 ∷ [])) 3 (Near ∷ Tight ∷ Near ∷ Far ∷ []);
      told = pos 3;
    }
    ∷ []

-- the drawing keeps the rules, the answer is right and its number is the one told
abbrev pub Shown : Example → Type 0
Shown e = Lawful e.drawing × Right e.drawing e.answer × (figure e.drawing e.answer ≡ e.told)

abbrev pub ExamplesStand : Type 0
ExamplesStand = AllByRecursion Shown examples

-- the k-th of them, counted from 1
abbrev pub example_at : ℕ → Option Example
example_at zero = None
example_at (suc k) = slice_get examples k

-- a drawing and a record, and they are this network and hold this answer
abbrev pub Holds : Network → Answer → Option (Drawing × Record) → Type 0
Holds d a None = ⊥
Holds d a (Some c) = (network c.0 ≡ d) × (contents c.1 ≡ filed a)

-- an example as values; nothing where there is none
abbrev pub Copied : Option Example → Option (Drawing × Record) → Type 0
Copied None o = o ≡ None
Copied (Some e) o = Holds e.drawing e.answer o
