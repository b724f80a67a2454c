use Rattle.std.proofs.Common.{◌≡◌, ℕ, suc, ◌+◌, ◌-◌, ◌*◌, ◌≤◌, [], ◌∷◌, ◌++◌, length, get_or, length-append, pos, vec_items, sym, ap, ◌∙◌, arith, rules}
use Rattle.std.specs.Slice.Iter.{chunks_exact_rest}
use Rattle.filing.proofs.Making.{made_more, pair_at}
use Rattle.filing.proofs.records.write_flows.Goals as goal

pub loop-arcs-preserved : goal.loop-arcs-preserved
loop-arcs-preserved c =
    let k = length c.loop-arcs.yielded in
    let rs = c.args.left.now in
    let i = c.loop-arcs.invariant in
    let s = c.in-Some.ensures.steps in
    let n : length (c.loop-arcs.yielded ++ c.in-Some.arcs ∷ []) ≡ k + 1 = length-append c.loop-arcs.yielded (c.in-Some.arcs ∷ []) in
    let p = pair_at rs c.in-Some.arcs.now (chunks_exact_rest c.next.new.self) k (sym i.3 ∙ s.1.0) (s.1.1 ∙ i.2) in
    let place : 2 * suc k - 1 ≡ 2 * k + 1 = omega arith in
    let most : get_or c.in-Some.arcs.now 1 0 ≤ 1800000000 = let m = c.requires.most (2 * k + 1) (omega (arith, p.0)) in omega (arith, m, p.1) in
    let flow : pos (get_or c.in-Some.arcs.now 1 0) ≡ pos (get_or rs (2 * suc k - 1) 0) = ap pos (p.1 ∙ ap (λ (a : ℕ). get_or rs a 0) (sym place)) in
    let item : vec_items c.push_reserved.new.self ≡ vec_items c.loop-arcs.flows ++ pos (get_or c.in-Some.arcs.now 1 0) ∷ [] = search rules in
    let size = s.0 ∙ i.2 in
    rw n (omega (arith, size), tt, size, p.2, p.0, made_more _ k _ _ _ i.5 item flow, omega arith, omega arith)
