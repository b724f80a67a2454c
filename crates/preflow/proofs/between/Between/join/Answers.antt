use Rattle.std.proofs.Common.{not, eqb, sym, refl, ap, ◌∙◌}
use Rattle.std.proofs.lemmas.Bool.{eq-eqb, ne_eqb, cond-true, cond-false, and_from, and_left, and_right, not_from_false}
use Rattle.preflow.specs.Push.{joined}
use Rattle.preflow.proofs.between.Between.join.Goals as goal
use Rattle.preflow.proofs.between.Between.join.Goals.{else-had-eq0-via-then-had-eq0+then-w-self+else-w-self-2, else-had-eq0-via-then-had-eq0+else-w-self, else-had-eq0-via-else-had-eq0}

pub returns-then-w-self-2 : goal.returns-then-w-self-2
unfolding joined
returns-then-w-self-2 c = record {
  items = c.push_back_reserved.ensures.items
      ∙ sym (cond-true _ _ _ (and_from _ _ (eq-eqb _ _ c.if-had-eq0.true) (and_from _ _ (not_from_false (eqb c.args.w c.args.self.source) (ne_eqb _ _ c.if-w-self.true)) (not_from_false (eqb c.args.w c.args.self.sink) (ne_eqb _ _ c.if-w-self-2.true)))));
  capacity = c.push_back_reserved.ensures.capacity;
}

pub returns-else-had-eq0 : goal.returns-else-had-eq0
unfolding joined
returns-else-had-eq0 c = record {
  items = elim c.else-had-eq0.branch [
    | else-had-eq0-via-then-had-eq0+then-w-self+else-w-self-2 w ↦ sym (cond-false _ _ _ (and_right (eqb c.args.had 0) _ (and_right (not (eqb c.args.w c.args.self.source)) _ (ap not (eq-eqb _ _ w.if-w-self-2.false)))))
    | else-had-eq0-via-then-had-eq0+else-w-self w ↦ sym (cond-false _ _ _ (and_right (eqb c.args.had 0) _ (and_left (not (eqb c.args.w c.args.self.source)) _ (ap not (eq-eqb _ _ w.if-w-self.false)))))
    | else-had-eq0-via-else-had-eq0 w ↦ sym (cond-false _ _ _ (and_left _ _ (ne_eqb _ _ w.if-had-eq0.false)))
  ];
  capacity = refl;
}
