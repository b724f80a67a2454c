use Rattle.std.proofs.Common.{sym, ◌∙◌, w64, SFits, rules}
use Rattle.std.proofs.lemmas.Int.{to_z-of_z}
use Rattle.std.proofs.lemmas.Bool.Decides.{not_from_Decides}
use Rattle.duality.proofs.Duality.{weak_duality}
use Rattle.duality.proofs.Findings.{not_none, total_told, worth_told, not_below, slack_is}
use Rattle.duality.proofs.slack.Goals as goal
use Rattle.duality.proofs.slack.Goals.{then-not-is_feasible-via-then-not-is_feasible, then-not-is_feasible-via-else-not-is_feasible+then-not-is_cut}

pub returns-then-not-is_feasible : goal.returns-then-not-is_feasible
returns-then-not-is_feasible c = record {
  value = λ ok feasible cut. elim c.then-not-is_feasible.branch [
    | then-not-is_feasible-via-then-not-is_feasible w ↦ not_from_Decides _ c.is_feasible.ensures w.if-not-is_feasible.true (ok, feasible)
    | then-not-is_feasible-via-else-not-is_feasible+then-not-is_cut w ↦ not_from_Decides _ w.is_cut.ensures w.if-not-is_cut.true (ok, cut)
  ];
  bounds = weak_duality;
}

pub returns-in_err-total : goal.returns-in_err-total
returns-in_err-total c = record {
  value = rw c.from_residual.ensures (λ ok feasible cut. not_none c.in_err-total.was (c.total.ensures ∙ total_told _ _ ok feasible));
  bounds = weak_duality;
}

pub returns-in_err-worth : goal.returns-in_err-worth
returns-in_err-worth c = record {
  value = rw c.from_residual-in_err-worth.ensures (λ ok feasible cut. not_none c.in_err-worth.was (c.worth.ensures ∙ worth_told _ _ ok cut.labelled));
  bounds = weak_duality;
}

pub excess-requires : goal.excess-requires
excess-requires c =
    let fits : SFits w64 c.in_ok-worth.worth = search rules in
    let plan = c.is_feasible.ensures.0 c.if-not-is_feasible.false in
    let cut = c.is_cut.ensures.0 c.if-not-is_cut.false in
    simp to_z-of_z
    (not_below _ _ _ plan.0 plan.1 cut.1 _ _ (sym c.total.ensures ∙ c.in_ok-total.was) (sym c.worth.ensures ∙ c.in_ok-worth.was))

pub returns : goal.returns
returns c =
    let fits : SFits w64 c.in_ok-worth.worth = search rules in
    let plan = c.is_feasible.ensures.0 c.if-not-is_feasible.false in
    let cut = c.is_cut.ensures.0 c.if-not-is_cut.false in record {
      value = slack_is _ _ _ plan.0 plan.1 cut.1 _ _ (sym c.total.ensures ∙ c.in_ok-total.was) (sym c.worth.ensures ∙ c.in_ok-worth.was) _
          (simp to_z-of_z at c.excess.ensures);
      bounds = weak_duality;
    }
