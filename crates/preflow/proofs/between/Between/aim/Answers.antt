use Rattle.std.proofs.Common.{◌≡◌, ℕ, ◌+◌, ◌<◌, List, length, get_or, ap, ◌∙◌, inl, inr, arith, get_or-set_other, get_or-set_same}
use Rattle.std.proofs.lemmas.Bool.{cases_eq}
use Rattle.std.proofs.lemmas.List.FromFn.{fill_by_all}
use Rattle.residual.specs.Net.{mate_of}
use Rattle.residual.specs.Search.{levels}
use Rattle.residual.proofs.Moves.{mate_within}
use Rattle.preflow.specs.Turns.{flipped}
use Rattle.preflow.proofs.between.Between.aim.Goals as goal

flipped_is : (rs bs : List ℕ) → length bs ≡ length rs → ((a : ℕ) → a < length rs → get_or bs a 0 ≡ get_or rs (mate_of a) 0) → bs ≡ flipped rs
unfolding flipped
flipped_is rs bs l h = fill_by_all (λ a. get_or rs (mate_of a) 0) bs (length rs) 0 l h

-- the mate of an arc is an arc
pub offset_bounds-left-mate : goal.offset_bounds-left-mate
offset_bounds-left-mate c =
    let net = c.args.self.net.chained in
    let even = net.even in
    let short = net.short in
    let m = mate_within c.loop-a.a (length c.args.self.net.head.now) even (omega arith) in
    let e = c.mate.ensures in
    omega arith

pub bounds-left-mate : goal.bounds-left-mate
bounds-left-mate c =
    let net = c.args.self.net.chained in
    let even = net.even in
    let m = mate_within c.loop-a.a (length c.args.self.net.head.now) even (omega arith) in
    let e = c.mate.ensures in
    omega arith

pub loop-a-init : goal.loop-a-init
loop-a-init c = λ b h. absurd (let z : ⊥ = omega arith in z)

pub loop-a-preserved : goal.loop-a-preserved
loop-a-preserved c =
    let a = c.loop-a.a in
    let rs = c.args.left.now in
    let bs = c.loop-a.back in
    let e = ap (λ (x : ℕ). get_or rs x 0) c.mate.ensures in
    λ b h.
    elim (cases_eq b a) [
      | inl q ↦ rw q (get_or-set_same bs a (get_or rs c.mate.result 0) 0 (omega arith) ∙ e)
      | inr n ↦ get_or-set_other bs a b (get_or rs c.mate.result 0) 0 n ∙ c.loop-a.invariant b (omega arith)
    ]

pub returns : goal.returns
returns c =
    let bs = c.loop-a.back in
    let rs = c.args.left.now in
    let f : bs ≡ flipped rs = flipped_is rs bs (omega arith) (λ a h. c.loop-a.invariant a (omega arith)) in
    let long : length c.args.level.now ≡ c.args.self.points + 1 = omega arith in
    c.search.ensures
    ∙ ap (λ (n : ℕ). levels c.args.self.net.head.now bs n c.args.self.sink c.args.self.source) long
    ∙ ap (λ (x : List ℕ). levels c.args.self.net.head.now x (c.args.self.points + 1) c.args.self.sink c.args.self.source) f
