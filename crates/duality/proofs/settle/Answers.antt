use Rattle.std.proofs.Common.{◌≡◌, Some, vec_items, sym, ap, ◌∙◌, w64, SFits, rules}
use Rattle.std.proofs.lemmas.Int.{to_z-of_z}
use Rattle.std.proofs.lemmas.Bool.Decides.{not_from_Decides}
use Rattle.drawing.specs.Records.{network, plan_in}
use Rattle.checkers.specs.Told.{told_worth}
use Rattle.duality.proofs.Duality.{right_is_most, plan_exactly}
use Rattle.duality.proofs.Findings.{not_none, labelled, worth_told, settled_by}
use Rattle.duality.proofs.settle.Goals as goal

pub returns-then-not-is_right : goal.returns-then-not-is_right
returns-then-not-is_right c = record {
  value = λ ok right. not_from_Decides _ c.is_right.ensures c.if-not-is_right.true (ok, right);
  most = right_is_most;
  exactly = plan_exactly;
}

pub returns-in_err-worth : goal.returns-in_err-worth
returns-in_err-worth c = record {
  value = rw c.from_residual.ensures (λ ok right. not_none c.in_err-worth.was
      (c.worth.ensures ∙ ap (told_worth (network c.args.d.now)) c.deref.ensures.value
      ∙ worth_told _ _ ok (labelled _ c.args.answer.now.verdict (plan_in c.args.answer.now) c.args.answer.now.total _ right)));
  most = right_is_most;
  exactly = plan_exactly;
}

pub returns : goal.returns
returns c =
    let a = c.args.answer.now in
    let fits : SFits w64 c.in_ok-worth.worth = search rules in
    let (ok, right) = c.is_right.ensures.0 c.if-not-is_right.false in
    let told : told_worth (network c.args.d.now) (vec_items a.labels) ≡ Some c.in_ok-worth.worth
    = ap (told_worth (network c.args.d.now)) (sym c.deref.ensures.value) ∙ sym c.worth.ensures ∙ c.in_ok-worth.was in record {
      value = settled_by _ ok a.verdict (plan_in a) a.total (vec_items a.labels) right _ told _ (simp to_z-of_z at c.found.ensures);
      most = right_is_most;
      exactly = plan_exactly;
    }
