use Rattle.std.proofs.Common.{◌≡◌, ℕ, suc, ◌+◌, Bool, true, false, cond, [], map, length, drop, is_some, vec_items, sym, refl, ap, ◌∙◌, rules, arith}
use Rattle.std.specs.List.{zip, range_with_len}
use Rattle.std.proofs.lemmas.Iterator.{YieldsList-from_slice, YieldsList-from_map, YieldsList-from_zip}
use Rattle.std.proofs.lemmas.List.{length-map, take_rest}
use Rattle.drawing.specs.declared.Point.{Point}
use Rattle.drawing.specs.Drawings.{no_point}
use Rattle.drawing.specs.Plans.{delivery}
use Rattle.drawing.specs.Records.{network, plan_in}
use Rattle.reductions.specs.Limits.{limited_at, exit}
use Rattle.reductions.proofs.Listed.{made_reads}
use Rattle.scratch.proofs.Writing.{written}
use Rattle.limits.proofs.Halves.{length_halves, reads_halves}
use Rattle.limits.proofs.reading.read_deliveries.Goals as goal

abbrev read : (Point × ℕ) × ℕ → ℕ
read ((q, own), beyond) = cond (is_some q.limit) beyond own

of_either : (f : ℕ → ℕ) (b : Bool) (x y : ℕ) → f (cond b x y) ≡ cond b (f x) (f y)
of_either f true x y = refl
of_either f false x y = refl

pub returns-clause-items : goal.returns-clause-items
returns-clause-items c =
    let d = network c.args.drawing.now in
    let p = plan_in c.args.found.now in
    let ps = d.points in
    let xs = vec_items c.args.found.now.deliveries in
    let n = c.len.result in
    let same : n ≡ length ps = omega (arith, c.len.ensures, c.args.drawing.now.points.ok.0) in
    let long : length xs ≡ length ps + length ps = omega (arith, c.requires.long, c.args.drawing.now.points.ok.0, c.args.found.now.deliveries.ok.0) in
    let count = length_halves no_point 0 ps xs n same long in
    let f : ℕ → ℕ = λ v. delivery p (exit d v) in
    written _ _ [] _ c.push_within.ensures.runs
    (YieldsList-from_map _ read (YieldsList-from_zip (YieldsList-from_zip (YieldsList-from_slice ps (cc)) (YieldsList-from_slice xs (cc))) (YieldsList-from_slice (drop n xs) (cc (take_rest xs n)))) c.map.ensures.closure (λ x r q k. search rules))
    c.clear.ensures.items (omega (arith, length-map (zip (zip ps xs) (drop n xs)) read, count, c.requires.room, c.args.drawing.now.points.ok.0))
    ∙ sym (ap (λ k. map f (range_with_len 1 k)) (sym count)
    ∙ made_reads f read _ (λ k w l. of_either (delivery p) (limited_at d (suc k)) (length ps + suc k) (suc k) ∙ reads_halves no_point 0 ps xs n same long read k w l))
