use Rattle.std.proofs.Common.{◌≡◌, ℕ, suc, false, [], ◌∷◌, ◌++◌, length, get_or, is_some, Some, None, Option, vec_items, vec_len, vec_capacity, sym, refl, ap, ◌∙◌, arith}
use Rattle.drawing.specs.Drawings.{no_point}
use Rattle.drawing.specs.Records.{network}
use Rattle.reductions.specs.Added.{added}
use Rattle.reductions.specs.Limits.{limited_at, limit_lead}
use Rattle.reductions.proofs.Steps.{added_yes, added_no, pushed}
use Rattle.reductions.proofs.Limits.{limit_lead_lem}
use Rattle.limits.proofs.network.push_leads.Goals as goal
use Rattle.limits.proofs.network.push_leads.Goals.{in-Some, in_default}

no_limit : (o : Option ℕ) → ((x : ℕ) → o ≡ Some x → ⊥) → is_some o ≡ false
no_limit None n = refl
no_limit (Some x) n = absurd (n x refl)

pub loop-i-preserved : goal.loop-i-preserved
loop-i-preserved c =
    let d = network c.args.drawing.now in
    let i = c.loop-i.i in
    let old = vec_items c.args.out.now in
    let now = vec_items c.loop-i.out in
    let value = c.as_slice-points.ensures.value in
    let n = length c.as_slice-points.result.now in
    let same = ap (λ l. (get_or l i no_point).limit) value in
    let t = limited_at d in
    let make = limit_lead d in
    elim c.match-q.branch [
      | in-Some w ↦
          let k = sym same ∙ w.in-Some.is in (
            pushed now _ old (added i t make) _ (make (suc i))
                (ap vec_items w.out-is ∙ w.push_reserved.ensures.items ∙ ap (λ y. now ++ y ∷ []) (w.lead.ensures ∙ limit_lead_lem d i n (ap length value) _ k))
                c.loop-i.invariant.0 (added_yes t make i (ap is_some k)),
            omega (arith, ap vec_len w.out-is),
            omega (arith, ap vec_capacity w.out-is),
          )
      | in_default w ↦ (
        ap vec_items w.out-is ∙ c.loop-i.invariant.0 ∙ ap (λ l. old ++ l) (sym (added_no t make i (ap is_some (sym same) ∙ no_limit _ w.in_default.not-Some))),
        omega (arith, ap vec_len w.out-is),
        omega (arith, ap vec_capacity w.out-is),
      )
    ]
