use Rattle.std.proofs.Common.{eqb, ◌∙◌, ap₂}
use Rattle.std.specs.Option.{option_eq}
use Rattle.std.proofs.lemmas.Bool.Decides.{Decides-at}
use Rattle.duality.proofs.Duality.{answers_agree, decides_agree}
use Rattle.duality.proofs.agree.Goals as goal

pub returns : goal.returns
returns c =
    let value = Decides-at _ _ (c.eq.ensures ∙ ap₂ (option_eq eqb) c.total_of.ensures c.total_of-2.ensures) (decides_agree _ _) in
    record { value = value; agrees = answers_agree; right = λ d lawful a b. value.1 (answers_agree d lawful _ _ a b) }
