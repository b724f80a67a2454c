-- Plans, and which of them are feasible.
use Rattle.std.specs.Prelude.{◌≡◌, ℕ, suc, ◌+◌, ◌≤◌, false, List, length, ℤ, pos, negsuc, ◌≤ℤ◌, Some, None, Option, ◌==◌, unsigned_abs}
use Rattle.drawing.specs.declared.Kind.{Kind}
use Rattle.drawing.specs.declared.Kind.TheVariants.{Lead, Link}
use Rattle.drawing.specs.declared.Run.{Run}
use Rattle.drawing.specs.Counts.{Within, sum_to, only, nth}
use Rattle.drawing.specs.Drawings.{Network, point_count, run_count, point, run, is_rack, is_bar}

-- A plan (a flow): a flow for each run, a supply and a delivery for each point (0 where the point is no rack, or no bar)
pub record Plan : Type 0 where
  pub flows : List ℤ
  pub supplies : List ℕ
  pub deliveries : List ℕ

abbrev pub plan_of : List ℤ → List ℕ → List ℕ → Plan
plan_of flows supplies deliveries = record { flows = flows; supplies = supplies; deliveries = deliveries }

abbrev pub flow : Plan → ℕ → ℤ
flow p k = nth p.flows k (pos 0)

abbrev pub supply : Plan → ℕ → ℕ
supply p v = nth p.supplies v 0

abbrev pub delivery : Plan → ℕ → ℕ
delivery p v = nth p.deliveries v 0

-- what a flow carries from tail to head, and what from head to tail
abbrev pub forth : ℤ → ℕ
forth (pos n) = n
forth (negsuc n) = 0

abbrev pub back : ℤ → ℕ
back (pos n) = 0
back (negsuc n) = suc n

-- what a run with flow f brings into the point v, and what it takes out of it
abbrev pub brings : Run → ℤ → ℕ → ℕ
brings r f v = only (r.head == v) (forth f) + only (r.tail == v) (back f)

abbrev pub takes : Run → ℤ → ℕ → ℕ
takes r f v = only (r.tail == v) (forth f) + only (r.head == v) (back f)

-- what enters and what leaves a point by leads and links
abbrev pub entering : Network → Plan → ℕ → ℕ
entering d p v = sum_to (run_count d) (λ k. brings (run d k) (flow p k) v)

abbrev pub leaving : Network → Plan → ℕ → ℕ
leaving d p v = sum_to (run_count d) (λ k. takes (run d k) (flow p k) v)

-- a lead's flow lies from lower to upper; the size of a link's flow is at most its upper
abbrev pub InRange : Kind → ℕ → ℕ → ℤ → Type 0
InRange Lead lower upper f = (pos lower ≤ℤ f) × (f ≤ℤ pos upper)
InRange Link lower upper f = unsigned_abs f ≤ upper

-- what a limit bounds: all that enters and is supplied at the point
abbrev pub load : Network → Plan → ℕ → ℕ
load d p v = entering d p v + supply p v

-- at most the limit, where there is one
abbrev pub Under : Option ℕ → ℕ → Type 0
Under None x = Unit {0}
Under (Some l) x = x ≤ l

pub record Feasible (d : Network) (p : Plan) : Type 0 where
  -- it is a plan for this drawing
  pub flow_count : length p.flows ≡ run_count d
  pub supply_count : length p.supplies ≡ point_count d
  pub delivery_count : length p.deliveries ≡ point_count d
  pub racks_supply : (v : ℕ) → Within (point_count d) v → is_rack (point d v).mark ≡ false → supply p v ≡ 0
  pub bars_deliver : (v : ℕ) → Within (point_count d) v → is_bar (point d v).mark ≡ false → delivery p v ≡ 0
  -- and what makes it feasible
  pub in_range : (k : ℕ) → Within (run_count d) k → InRange (run d k).kind (run d k).lower (run d k).upper (flow p k)
  pub balanced : (v : ℕ) → Within (point_count d) v → entering d p v + supply p v ≡ leaving d p v + delivery p v
  pub limited : (v : ℕ) → Within (point_count d) v → Under (point d v).limit (load d p v)

-- the sum of a list
abbrev pub sum_of : List ℕ → ℕ
sum_of xs = sum_to (length xs) (λ v. nth xs v 0)

-- the sum of the supplies
abbrev pub total : Plan → ℕ
total p = sum_of p.supplies
