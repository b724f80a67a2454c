use Rattle.std.proofs.Common.{◌≡◌, ℕ, suc, ◌<◌, Bool, false, None, Some, length, add-one, ap, ◌∙◌, sym, rules}
use Rattle.drawing.specs.Counts.{nth}
use Rattle.drawing.specs.Drawings.{no_point}
use Rattle.residual.specs.Plain.{last_to}
use Rattle.filing.specs.Marks.{is_marked, numbered}
use Rattle.filing.proofs.Making.{last_at, last_none, marked_yes, marked_no}
use Rattle.filing.proofs.marks.last_marked.Goals as goal

pub returns-in_err-k : goal.returns-in_err-k
returns-in_err-k c =
    let points = c.args.points.now in
    let none : (k : ℕ) → k < length points → is_marked c.args.wanted (nth points (suc k) no_point).mark ≡ false = λ k h. marked_no c.args.wanted _ (λ e. search rules) in
    let e : numbered (last_to (length points) (λ v. is_marked c.args.wanted (nth points v no_point).mark)) ≡ None = ap numbered (last_none (length points) (λ v. is_marked c.args.wanted (nth points v no_point).mark) none) in
    search rules ∙ sym e

pub returns : goal.returns
returns c =
    let points = c.args.points.now in
    let k = c.in_ok-k.k in
    let t : ℕ → Bool = λ v. is_marked c.args.wanted (nth points v no_point).mark in
    let below : k < length points = search rules in
    let here : (nth points (suc k) no_point).mark ≡ c.args.wanted = search rules in
    let later : (j : ℕ) → k < j → j < length points → (nth points (suc j) no_point).mark ≡ c.args.wanted → ⊥ = search rules in
    ap Some (add-one k) ∙ ap numbered (sym (last_at (length points) k t below (marked_yes c.args.wanted _ here) (λ j a b. marked_no c.args.wanted _ (later j a b))))
