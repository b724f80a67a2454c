use Rattle.std.proofs.Common.{◌≡◌, suc, ◌<◌, true, false, [], ◌∷◌, ◌++◌, get_or, pos, ◌-ℤ◌, ◌≤ℤ◌, vec_items, vec_len, vec_capacity, sym, ap, ◌∙◌, subst, ap₂, arith, w32, SFits, rules}
use Rattle.std.proofs.lemmas.List.{get_or_read}
use Rattle.std.proofs.lemmas.Int.{to_z-of_z}
use Rattle.drawing.specs.Counts.{only}
use Rattle.drawing.specs.Drawings.{no_run, run_count, is_link}
use Rattle.drawing.specs.Records.{network, plan_in}
use Rattle.reductions.specs.Links.{link_at, links_flow}
use Rattle.reductions.proofs.Links.{read_flow, read_lead, read_back, read_link}
use Rattle.reductions.proofs.Steps.{made_more, count_next}
use Rattle.links.proofs.reading.join_flows.Goals as goal
use Rattle.links.proofs.reading.join_flows.Goals.{in-Link, in-Lead}

pub index-flow-requires : goal.index-flow-requires
index-flow-requires c =
    let d = network c.args.drawing.now in
    let lt : c.loop-k.k < run_count d = omega (arith, c.args.drawing.now.runs.ok.0) in
    omega (arith, (read_flow d (plan_in c.args.found.now) c.requires.feasible c.loop-k.k lt).0, c.args.found.now.flows.ok.0)

pub index-requires : goal.index-requires
index-requires c =
    let d = network c.args.drawing.now in
    let i = c.loop-k.k in
    let lt : i < run_count d = omega (arith, c.args.drawing.now.runs.ok.0) in
    let e : link_at d (suc i) ≡ true = ap is_link (sym (ap (λ l. (get_or l i no_run).kind) c.deref-r-items.ensures.value) ∙ c.in-Link.is) in
    omega (arith, (read_back d (plan_in c.args.found.now) c.requires.feasible i lt c.loop-k.back c.loop-k.invariant.3 e).0, c.args.found.now.flows.ok.0)

pub minus-requires : goal.minus-requires
minus-requires c =
    let d = network c.args.drawing.now in
    let p = plan_in c.args.found.now in
    let i = c.loop-k.k in
    let lt : i < run_count d = omega (arith, c.args.drawing.now.runs.ok.0) in
    let e : link_at d (suc i) ≡ true = ap is_link (sym (ap (λ l. (get_or l i no_run).kind) c.deref-r-items.ensures.value) ∙ c.in-Link.is) in
    let a = read_flow d p c.requires.feasible i lt in
    let b = read_back d p c.requires.feasible i lt c.loop-k.back c.loop-k.invariant.3 e in
    let f : SFits w32 c.index-flow.result.now = search rules in
    let g : SFits w32 c.index.result.now = search rules in
    simp to_z-of_z (
      subst (λ z. pos 0 ≤ℤ z) (sym (get_or_read _ i _ a.0 c.index-flow.ensures (pos 0))) a.1,
      subst (λ z. pos 0 ≤ℤ z) (sym (get_or_read _ c.loop-k.back _ b.0 c.index.ensures (pos 0))) b.1,
    )

pub overflow_add-back : goal.overflow_add-back
overflow_add-back c =
    let d = network c.args.drawing.now in
    let i = c.loop-k.k in
    let lt : i < run_count d = omega (arith, c.args.drawing.now.runs.ok.0) in
    let e : link_at d (suc i) ≡ true = ap is_link (sym (ap (λ l. (get_or l i no_run).kind) c.deref-r-items.ensures.value) ∙ c.in-Link.is) in
    let b : c.loop-k.back < vec_len c.args.found.now.flows =
    omega (arith, (read_back d (plan_in c.args.found.now) c.requires.feasible i lt c.loop-k.back c.loop-k.invariant.3 e).0, c.args.found.now.flows.ok.0) in
    search rules

pub loop-k-preserved : goal.loop-k-preserved
loop-k-preserved c =
    let d = network c.args.drawing.now in
    let p = plan_in c.args.found.now in
    let i = c.loop-k.k in
    let now = vec_items c.loop-k.out in
    let lt : i < run_count d = omega (arith, c.args.drawing.now.runs.ok.0) in
    let a = read_flow d p c.requires.feasible i lt in
    let fi : c.index-flow.result.now ≡ get_or p.flows i (pos 0) = get_or_read _ i _ a.0 c.index-flow.ensures (pos 0) in
    let f : SFits w32 c.index-flow.result.now = search rules in
    let flows = links_flow d p in
    elim c.match-r.branch [
      | in-Link w ↦
          let e : link_at d (suc i) ≡ true = ap is_link (sym (ap (λ l. (get_or l i no_run).kind) c.deref-r-items.ensures.value) ∙ w.in-Link.is) in
          let b = read_back d p c.requires.feasible i lt c.loop-k.back c.loop-k.invariant.3 e in
          let fb : w.index.result.now ≡ get_or p.flows c.loop-k.back (pos 0) = get_or_read _ c.loop-k.back _ b.0 w.index.ensures (pos 0) in
          let h : SFits w32 w.index.result.now = search rules in
          let fm : SFits w32 w.minus.result = search rules in
          let value : w.minus.result ≡ flows (suc i) =
          simp to_z-of_z at w.minus.ensures ∙ ap₂ ◌-ℤ◌ fi fb ∙ sym (read_link d p c.requires.feasible i lt c.loop-k.back c.loop-k.invariant.3 e) in (
            ap vec_items w.out-is ∙ simp to_z-of_z at w.push_reserved.ensures.items ∙ ap (λ y. now ++ y ∷ []) value
                ∙ ap (λ l. l ++ flows (suc i) ∷ []) c.loop-k.invariant.0 ∙ sym (made_more flows i),
            omega (arith, ap vec_len w.out-is),
            omega (arith, ap vec_capacity w.out-is),
            omega (arith, w.back-is, count_next (link_at d) i, ap (λ t. only t 1) e),
          )
      | in-Lead w ↦
          let e : link_at d (suc i) ≡ false = ap is_link (sym (ap (λ l. (get_or l i no_run).kind) c.deref-r-items.ensures.value) ∙ w.in-Lead.is) in
          let value : c.index-flow.result.now ≡ flows (suc i) = fi ∙ sym (read_lead d p c.requires.feasible i lt e) in (
            ap vec_items w.out-is ∙ simp to_z-of_z at w.push_reserved-in-Lead.ensures.items ∙ ap (λ y. now ++ y ∷ []) value
                ∙ ap (λ l. l ++ flows (suc i) ∷ []) c.loop-k.invariant.0 ∙ sym (made_more flows i),
            omega (arith, ap vec_len w.out-is),
            omega (arith, ap vec_capacity w.out-is),
            omega (arith, w.back-is, count_next (link_at d) i, ap (λ t. only t 1) e),
          )
    ]
