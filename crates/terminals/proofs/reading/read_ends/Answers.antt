use Rattle.std.proofs.Common.{◌≡◌, ℕ, suc, ◌<◌, ◌||◌, length, get_or, pos, nat_abs, vec_items, vec_len, vec_capacity, sym, ap, ◌∙◌, arith, w32, SFits, rules}
use Rattle.std.proofs.lemmas.Int.{to_z-of_z}
use Rattle.drawing.specs.Counts.{only}
use Rattle.drawing.specs.Drawings.{no_point, point_count, point, is_rack, is_bar}
use Rattle.drawing.specs.Plans.{flow, forth}
use Rattle.drawing.specs.Records.{network, plan_in}
use Rattle.reductions.specs.Terminals.{is_terminal, lead_of}
use Rattle.reductions.proofs.Steps.{made_push, count_next}
use Rattle.reductions.proofs.Terminals.{read_terminal}
use Rattle.terminals.proofs.reading.read_ends.Goals as goal
use Rattle.terminals.proofs.reading.read_ends.Goals.{in-Plain, in-Rack, in-Bar}

pub offset_bounds-flows-lead : goal.offset_bounds-flows-lead
offset_bounds-flows-lead c =
    let d = network c.args.drawing.now in
    let p = plan_in c.args.found.now in
    let i = c.loop-p.p-index in
    let points = c.as_slice-points.ensures.value in
    let lt : i < point_count d = omega (arith, ap length points) in
    let k = sym (ap (λ l. (get_or l i no_point).mark) points) ∙ c.in-Rack.is in
    let q = read_terminal d p c.requires.feasible i lt c.loop-p.lead c.loop-p.invariant.6 (ap (λ m. is_rack m || is_bar m) k) in
    let at : c.loop-p.lead < length c.as_slice-flows.result.now = omega (arith, q.0, ap length c.as_slice-flows.ensures.value) in
    search rules

pub bounds-flows-lead : goal.bounds-flows-lead
bounds-flows-lead c =
    let d = network c.args.drawing.now in
    let p = plan_in c.args.found.now in
    let i = c.loop-p.p-index in
    let points = c.as_slice-points.ensures.value in
    let lt : i < point_count d = omega (arith, ap length points) in
    let k = sym (ap (λ l. (get_or l i no_point).mark) points) ∙ c.in-Rack.is in
    let q = read_terminal d p c.requires.feasible i lt c.loop-p.lead c.loop-p.invariant.6 (ap (λ m. is_rack m || is_bar m) k) in
    let at : c.loop-p.lead < length c.as_slice-flows.result.now = omega (arith, q.0, ap length c.as_slice-flows.ensures.value) in
    at

pub overflow_add-lead : goal.overflow_add-lead
overflow_add-lead c =
    let d = network c.args.drawing.now in
    let p = plan_in c.args.found.now in
    let i = c.loop-p.p-index in
    let points = c.as_slice-points.ensures.value in
    let lt : i < point_count d = omega (arith, ap length points) in
    let k = sym (ap (λ l. (get_or l i no_point).mark) points) ∙ c.in-Rack.is in
    let q = read_terminal d p c.requires.feasible i lt c.loop-p.lead c.loop-p.invariant.6 (ap (λ m. is_rack m || is_bar m) k) in
    let at : c.loop-p.lead < length c.as_slice-flows.result.now = omega (arith, q.0, ap length c.as_slice-flows.ensures.value) in
    search rules

pub offset_bounds-flows-lead-in-Bar : goal.offset_bounds-flows-lead-in-Bar
offset_bounds-flows-lead-in-Bar c =
    let d = network c.args.drawing.now in
    let p = plan_in c.args.found.now in
    let i = c.loop-p.p-index in
    let points = c.as_slice-points.ensures.value in
    let lt : i < point_count d = omega (arith, ap length points) in
    let k = sym (ap (λ l. (get_or l i no_point).mark) points) ∙ c.in-Bar.is in
    let q = read_terminal d p c.requires.feasible i lt c.loop-p.lead c.loop-p.invariant.6 (ap (λ m. is_rack m || is_bar m) k) in
    let at : c.loop-p.lead < length c.as_slice-flows.result.now = omega (arith, q.0, ap length c.as_slice-flows.ensures.value) in
    search rules

pub bounds-flows-lead-in-Bar : goal.bounds-flows-lead-in-Bar
bounds-flows-lead-in-Bar c =
    let d = network c.args.drawing.now in
    let p = plan_in c.args.found.now in
    let i = c.loop-p.p-index in
    let points = c.as_slice-points.ensures.value in
    let lt : i < point_count d = omega (arith, ap length points) in
    let k = sym (ap (λ l. (get_or l i no_point).mark) points) ∙ c.in-Bar.is in
    let q = read_terminal d p c.requires.feasible i lt c.loop-p.lead c.loop-p.invariant.6 (ap (λ m. is_rack m || is_bar m) k) in
    let at : c.loop-p.lead < length c.as_slice-flows.result.now = omega (arith, q.0, ap length c.as_slice-flows.ensures.value) in
    at

pub overflow_add-lead-in-Bar : goal.overflow_add-lead-in-Bar
overflow_add-lead-in-Bar c =
    let d = network c.args.drawing.now in
    let p = plan_in c.args.found.now in
    let i = c.loop-p.p-index in
    let points = c.as_slice-points.ensures.value in
    let lt : i < point_count d = omega (arith, ap length points) in
    let k = sym (ap (λ l. (get_or l i no_point).mark) points) ∙ c.in-Bar.is in
    let q = read_terminal d p c.requires.feasible i lt c.loop-p.lead c.loop-p.invariant.6 (ap (λ m. is_rack m || is_bar m) k) in
    let at : c.loop-p.lead < length c.as_slice-flows.result.now = omega (arith, q.0, ap length c.as_slice-flows.ensures.value) in
    search rules

pub loop-p-preserved : goal.loop-p-preserved
loop-p-preserved c =
    let d = network c.args.drawing.now in
    let p = plan_in c.args.found.now in
    let i = c.loop-p.p-index in
    let points = c.as_slice-points.ensures.value in
    let flows = c.as_slice-flows.ensures.value in
    let lt : i < point_count d = omega (arith, ap length points) in
    let mark = ap (λ l. (get_or l i no_point).mark) points in
    let s : ℕ → ℕ = λ v. only (is_rack (point d v).mark) (forth (flow p (lead_of d v))) in
    let t : ℕ → ℕ = λ v. only (is_bar (point d v).mark) (forth (flow p (lead_of d v))) in
    let now = vec_items c.loop-p.supplies in
    let then = vec_items c.loop-p.deliveries in
    elim c.match-p.branch [
      | in-Plain w ↦
          let k = sym mark ∙ w.in-Plain.is in (
            made_push now _ s i 0 (ap vec_items w.supplies-is ∙ w.push_reserved.ensures.items) c.loop-p.invariant.0 (sym (ap (λ m. only (is_rack m) (forth (flow p (lead_of d (suc i))))) k)),
            made_push then _ t i 0 (ap vec_items w.deliveries-is ∙ w.push_reserved-in-Plain.ensures.items) c.loop-p.invariant.1 (sym (ap (λ m. only (is_bar m) (forth (flow p (lead_of d (suc i))))) k)),
            omega (arith, ap vec_len w.supplies-is),
            omega (arith, ap vec_len w.deliveries-is),
            omega (arith, ap vec_capacity w.supplies-is),
            omega (arith, ap vec_capacity w.deliveries-is),
            omega (arith, w.lead-is, count_next (is_terminal d) i, ap (λ m. only (is_rack m || is_bar m) 1) k),
          )
      | in-Rack w ↦
          let k = sym mark ∙ w.in-Rack.is in
          let q = read_terminal d p c.requires.feasible i lt c.loop-p.lead c.loop-p.invariant.6 (ap (λ m. is_rack m || is_bar m) k) in
          let f : SFits w32 (get_or c.as_slice-flows.result.now c.loop-p.lead (pos 0)) = search rules in
          let size : w.unsigned_abs.result ≡ forth (flow p (lead_of d (suc i))) = simp to_z-of_z at w.unsigned_abs.ensures.value ∙ ap (λ l. nat_abs (get_or l c.loop-p.lead (pos 0))) flows ∙ q.1 in (
            made_push now _ s i _ (ap vec_items w.supplies-is ∙ w.push_reserved-in-Rack.ensures.items) c.loop-p.invariant.0 (size ∙ sym (ap (λ m. only (is_rack m) (forth (flow p (lead_of d (suc i))))) k)),
            made_push then _ t i 0 (ap vec_items w.deliveries-is ∙ w.push_reserved-in-Rack-2.ensures.items) c.loop-p.invariant.1 (sym (ap (λ m. only (is_bar m) (forth (flow p (lead_of d (suc i))))) k)),
            omega (arith, ap vec_len w.supplies-is),
            omega (arith, ap vec_len w.deliveries-is),
            omega (arith, ap vec_capacity w.supplies-is),
            omega (arith, ap vec_capacity w.deliveries-is),
            omega (arith, w.lead-is, count_next (is_terminal d) i, ap (λ m. only (is_rack m || is_bar m) 1) k),
          )
      | in-Bar w ↦
          let k = sym mark ∙ w.in-Bar.is in
          let q = read_terminal d p c.requires.feasible i lt c.loop-p.lead c.loop-p.invariant.6 (ap (λ m. is_rack m || is_bar m) k) in
          let f : SFits w32 (get_or c.as_slice-flows.result.now c.loop-p.lead (pos 0)) = search rules in
          let size : w.unsigned_abs-in-Bar.result ≡ forth (flow p (lead_of d (suc i))) = simp to_z-of_z at w.unsigned_abs-in-Bar.ensures.value ∙ ap (λ l. nat_abs (get_or l c.loop-p.lead (pos 0))) flows ∙ q.1 in (
            made_push now _ s i 0 (ap vec_items w.supplies-is ∙ w.push_reserved-in-Bar.ensures.items) c.loop-p.invariant.0 (sym (ap (λ m. only (is_rack m) (forth (flow p (lead_of d (suc i))))) k)),
            made_push then _ t i _ (ap vec_items w.deliveries-is ∙ w.push_reserved-in-Bar-2.ensures.items) c.loop-p.invariant.1 (size ∙ sym (ap (λ m. only (is_bar m) (forth (flow p (lead_of d (suc i))))) k)),
            omega (arith, ap vec_len w.supplies-is),
            omega (arith, ap vec_len w.deliveries-is),
            omega (arith, ap vec_capacity w.supplies-is),
            omega (arith, ap vec_capacity w.deliveries-is),
            omega (arith, w.lead-is, count_next (is_terminal d) i, ap (λ m. only (is_rack m || is_bar m) 1) k),
          )
    ]
