use Rattle.std.proofs.Common.{◌≡◌, sym, ◌∙◌, rules}
use Rattle.std.specs.List.{sum_by}
use Rattle.std.proofs.iter.Serving.{returning}
use Rattle.drawing.specs.Counts.{only}
use Rattle.drawing.specs.Drawings.{no_point}
use Rattle.drawing.proofs.Lists.{sum_items}
use Rattle.checkers.specs.Told.{has_mark}
use Rattle.checkers.proofs.admitted.Admitted.count.Goals as goal

pub returns : goal.returns
returns c =
    let e : c.sum.result ≡ sum_by (λ p. only (has_mark c.args.mark p.mark) 1) c.args.self.now.points.now = search (rules, returning) in
    e ∙ sym (sum_items no_point c.args.self.now.points.now (λ p. only (has_mark c.args.mark p.mark) 1))
