use Rattle.std.proofs.Common.{◌≡◌, sum, sym, ◌∙◌, rules}
use Rattle.std.proofs.iter.Serving.{returning}
use Rattle.drawing.proofs.Lists.{sum_items}
use Rattle.checkers.proofs.plans.sum.Goals as goal

pub returns : goal.returns
returns c = let e : c.sum.result ≡ sum c.args.xs.now = search (rules, returning) in e ∙ sym (sum_items 0 c.args.xs.now (λ x. x))
