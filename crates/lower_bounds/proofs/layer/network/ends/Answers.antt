use Rattle.std.proofs.Common.{◌≡◌, ℕ, true, false, sym, ap₂, ◌∙◌, rules, arith}
use borrow.Author.Tests.{tests}
use Rattle.std.proofs.lemmas.Iterator.{YieldsList-from_slice, IsFirst-from_position}
use Rattle.std.proofs.lemmas.Option.{same_Some}
use Rattle.drawing.specs.Drawings.{no_point, is_rack, is_bar}
use Rattle.reductions.proofs.Ones.{one}
use Rattle.lower_bounds.proofs.Sums.{one_found}
use Rattle.lower_bounds.proofs.layer.network.ends.Goals as goal

pub unwrap-rack-requires : goal.unwrap-rack-requires
unwrap-rack-requires c =
    let ps = c.args.points.now in
    let found = one_found no_point (λ p. is_rack p.mark) ps _ c.requires.rack (IsFirst-from_position _ _ _ (λ p. is_rack p.mark ≡ true) (λ p. is_rack p.mark ≡ false) c.position.ensures.ran (YieldsList-from_slice ps (cc)) (λ x q k. search (rules, tests)) (λ x q k. search (rules, tests))) in
    search rules

pub unwrap-bar-requires : goal.unwrap-bar-requires
unwrap-bar-requires c =
    let ps = c.args.points.now in
    let found = one_found no_point (λ p. is_bar p.mark) ps _ c.requires.bar (IsFirst-from_position _ _ _ (λ p. is_bar p.mark ≡ true) (λ p. is_bar p.mark ≡ false) c.position-2.ensures.ran (YieldsList-from_slice ps (cc)) (λ x q k. search (rules, tests)) (λ x q k. search (rules, tests))) in
    search rules

pub returns : goal.returns
returns c =
    let ps = c.args.points.now in
    let found = one_found no_point (λ p. is_rack p.mark) ps _ c.requires.rack (IsFirst-from_position _ _ _ (λ p. is_rack p.mark ≡ true) (λ p. is_rack p.mark ≡ false) c.position.ensures.ran (YieldsList-from_slice ps (cc)) (λ x q k. search (rules, tests)) (λ x q k. search (rules, tests))) in
    let rack = same_Some _ _ (sym c.unwrap-rack.ensures ∙ found) in
    let found₂ = one_found no_point (λ p. is_bar p.mark) ps _ c.requires.bar (IsFirst-from_position _ _ _ (λ p. is_bar p.mark ≡ true) (λ p. is_bar p.mark ≡ false) c.position-2.ensures.ran (YieldsList-from_slice ps (cc)) (λ x q k. search (rules, tests)) (λ x q k. search (rules, tests))) in
    let bar = same_Some _ _ (sym c.unwrap-bar.ensures ∙ found₂) in
    ap₂ (λ x y. let pair : ℕ × ℕ = (x, y) in pair) (omega (arith, rack, (one _ _ c.requires.rack).inside)) (omega (arith, bar, (one _ _ c.requires.bar).inside))
