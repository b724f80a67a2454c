use Rattle.std.proofs.Common.{◌≡◌, ℕ, ◌-◌, ◌/◌, cond, ltb, List, map, length, get_or, ℤ, vec_items, ap, ◌∙◌, arith}
use Rattle.std.specs.List.{range_with_len}
use Rattle.drawing.specs.declared.Label.{Label}
use Rattle.drawing.specs.declared.Mark.{Mark}
use Rattle.drawing.specs.declared.Mark.TheVariants.{Rack, Bar}
use Rattle.drawing.specs.declared.Point.{Point}
use Rattle.drawing.specs.declared.Verdict.TheVariants.{Plan as PlanVerdict}
use Rattle.drawing.specs.Counts.{only, nth}
use Rattle.drawing.specs.Drawings.{no_point}
use Rattle.drawing.specs.Records.{Contents}
use Rattle.filing.specs.Marks.{is_marked}
use Rattle.residual.specs.Readings.{flows_in}
use Rattle.filing.proofs.records.file.Goals as goal

abbrev held : List ℤ → List ℕ → List ℕ → ℕ → List Label → Contents
held f s r t l = record { verdict = PlanVerdict; flows = f; supplies = s; deliveries = r; total = t; labels = l }

same : {f f' : List ℤ} {s s' r r' : List ℕ} {t : ℕ} {l l' : List Label} → f ≡ f' → s ≡ s' → r ≡ r' → l ≡ l' → held f s r t l ≡ held f' s' r' t l'
same {f} {f'} {s} {s'} {r} {r'} {t} {l} {l'} a b c e =
    ap (λ x. held x s r t l) a ∙ ap (λ x. held f' x r t l) b ∙ ap (λ x. held f' s' x t l) c ∙ ap (λ x. held f' s' r' t x) e

abbrev amounts : Mark → ℕ → List Point → List ℕ
amounts m t ps = map (λ v. only (is_marked m (nth ps v no_point).mark) t) (range_with_len 1 (length ps))

pub returns : goal.returns
returns c =
    let d = c.args.drawing.now in
    let runs : length c.args.left.now / 2 ≡ length (vec_items d.runs) = omega (arith, d.runs.ok.0) in
    let points : length c.args.level.now - 1 ≡ length (vec_items d.points) = omega (arith, d.points.ok.0) in
    same
    (c.write_flows.ensures.items ∙ ap (λ (m : ℕ). flows_in m c.args.left.now) runs)
    (c.write_amounts.ensures.items ∙ ap (amounts Rack c.args.total) c.as_slice.ensures.value)
    (c.write_amounts-2.ensures.items ∙ ap (amounts Bar c.args.total) c.as_slice-2.ensures.value)
    (c.write_labels.ensures.items ∙ ap (λ (n : ℕ). map (λ v. cond (ltb 0 (get_or c.args.level.now v 0)) c.args.reached c.args.other) (range_with_len 1 n)) points)
