use Rattle.std.proofs.Common.{suc, ◌||◌, [], ◌∷◌, ◌++◌, length, get_or, vec_items, vec_len, vec_capacity, sym, ap, ◌∙◌, arith}
use Rattle.drawing.specs.Drawings.{no_point, is_rack, is_bar}
use Rattle.drawing.specs.Records.{network}
use Rattle.reductions.specs.Added.{added}
use Rattle.reductions.specs.Terminals.{is_terminal, terminal_lead}
use Rattle.reductions.proofs.Steps.{added_yes, added_no, pushed}
use Rattle.reductions.proofs.Terminals.{rack_lead, bar_lead}
use Rattle.terminals.proofs.network.push_leads.Goals as goal
use Rattle.terminals.proofs.network.push_leads.Goals.{in-Plain, in-Rack, in-Bar}

pub loop-i-preserved : goal.loop-i-preserved
loop-i-preserved c =
    let d = network c.args.drawing.now in
    let i = c.loop-i.i in
    let old = vec_items c.args.out.now in
    let now = vec_items c.loop-i.out in
    let value = c.as_slice-points.ensures.value in
    let n = length c.as_slice-points.result.now in
    let same = ap (λ l. (get_or l i no_point).mark) value in
    let t = is_terminal d in
    let make = terminal_lead d in
    elim c.match-p.branch [
      | in-Plain w ↦ (
        ap vec_items w.out-is ∙ c.loop-i.invariant.0 ∙ ap (λ l. old ++ l) (sym (added_no t make i (ap (λ k. is_rack k || is_bar k) (sym same ∙ w.in-Plain.is)))),
        omega (arith, ap vec_len w.out-is),
        omega (arith, ap vec_capacity w.out-is),
      )
      | in-Rack w ↦
          let k = sym same ∙ w.in-Rack.is in (
            pushed now _ old (added i t make) _ (make (suc i))
                (ap vec_items w.out-is ∙ w.push_reserved.ensures.items ∙ ap (λ y. now ++ y ∷ []) (w.lead.ensures ∙ rack_lead d i n _ (ap length value) k w.uppers_leaving-upper.ensures))
                c.loop-i.invariant.0 (added_yes t make i (ap (λ m. is_rack m || is_bar m) k)),
            omega (arith, ap vec_len w.out-is),
            omega (arith, ap vec_capacity w.out-is),
          )
      | in-Bar w ↦
          let k = sym same ∙ w.in-Bar.is in (
            pushed now _ old (added i t make) _ (make (suc i))
                (ap vec_items w.out-is ∙ w.push_reserved-in-Bar.ensures.items ∙ ap (λ y. now ++ y ∷ []) (w.lead-in-Bar.ensures ∙ bar_lead d i n _ (ap length value) k w.uppers_entering-upper.ensures))
                c.loop-i.invariant.0 (added_yes t make i (ap (λ m. is_rack m || is_bar m) k)),
            omega (arith, ap vec_len w.out-is),
            omega (arith, ap vec_capacity w.out-is),
          )
    ]
