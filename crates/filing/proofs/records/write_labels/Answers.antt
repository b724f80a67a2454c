use Rattle.std.proofs.Common.{◌≡◌, ℕ, suc, ◌-◌, ◌<◌, ◌≤◌, take, drop, length, subst, cond, ltb, get_or, sym, ◌∙◌, arith}
use Rattle.std.proofs.lemmas.Bool.{lt-ltb, le-ltb, cond-true, cond-false}
use Rattle.filing.proofs.Making.{made_more, rest_of}
use Rattle.filing.proofs.records.write_labels.Goals as goal
use Rattle.filing.proofs.records.write_labels.Goals.{then-own-gt0, else-own-gt0}

pub loop-own-preserved : goal.loop-own-preserved
loop-own-preserved c =
    let v = c.loop-own.own-index in
    let ls = c.args.level.now in
    let own : get_or (take (length ls - 1) (drop 1 ls)) v 0 ≡ get_or ls (suc v) 0 = rest_of ls v in
    let y : c.if-own-gt0.push_reserved ≡ cond (ltb 0 (get_or c.args.level.now (suc v) 0)) c.args.reached c.args.other =
    elim c.if-own-gt0.branch [
      | then-own-gt0 w ↦ w.push_reserved-is ∙ sym (cond-true _ _ _ (lt-ltb _ _ (subst (λ (x : ℕ). 0 < x) own w.if-own-gt0.true)))
      | else-own-gt0 w ↦ w.push_reserved-is ∙ sym (cond-false _ _ _ (le-ltb _ _ (subst (λ (x : ℕ). x ≤ 0) own w.if-own-gt0.false)))
    ] in (
      made_more _ v _ _ _ c.loop-own.invariant.0 c.push_reserved.ensures.items y,
      omega arith,
      omega arith,
    )
