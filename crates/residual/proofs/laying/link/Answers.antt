use Rattle.std.proofs.Common.{◌≡◌, ℕ, ◌+◌, ◌<◌, List, length, get_or, sym, ap, ◌∙◌, subst, arith}
use Rattle.std.proofs.lemmas.List.{get_or-replicate}
use Rattle.residual.specs.Net.{before, tail_of}
use Rattle.residual.proofs.Chains.{linked, linked_next}
use Rattle.residual.proofs.Moves.{mate_within}
use Rattle.residual.proofs.laying.link.Goals as goal

pub loop-a-init : goal.loop-a-init
unfolding before
loop-a-init c = (
  λ v h. ap (λ xs. get_or xs v 0) (c.fill.ensures.after (λ y q. q)) ∙ get_or-replicate (length c.args.first.now) v 0 0 (omega arith),
  λ b h. absurd (let z : ⊥ = omega arith in z),
)

pub offset_bounds-head-mate : goal.offset_bounds-head-mate
offset_bounds-head-mate c =
    let m = mate_within c.loop-a.a (length c.args.head.now) c.requires.sizes.1.1 (omega arith) in
    let e = c.mate.ensures in
    omega arith

pub bounds-head-mate : goal.bounds-head-mate
bounds-head-mate c =
    let m = mate_within c.loop-a.a (length c.args.head.now) c.requires.sizes.1.1 (omega arith) in
    let e = c.mate.ensures in
    omega arith

pub thread-requires : goal.thread-requires
thread-requires c =
    let m = mate_within c.loop-a.a (length c.args.head.now) c.requires.sizes.1.1 (omega arith) in
    let e = c.mate.ensures in
    let h = c.requires.heads c.mate.result (omega arith) in
    (omega arith, (omega arith, omega arith))

pub loop-a-preserved : goal.loop-a-preserved
loop-a-preserved c =
    let hs = c.args.head.now in
    let a = c.loop-a.a in
    let m = mate_within a (length hs) c.requires.sizes.1.1 (omega arith) in
    let e = c.mate.ensures in
    let h = c.requires.heads c.mate.result (omega arith) in
    let t : get_or hs c.mate.result 0 ≡ tail_of hs a = ap (λ (x : ℕ). get_or hs x 0) e in (
      subst (λ (xs : List ℕ). (v : ℕ) → v < length xs → get_or xs v 0 ≡ before hs v (a + 1)) (sym c.thread.ensures.first)
          (linked hs c.loop-a.first a (get_or hs c.mate.result 0) t c.loop-a.invariant.0),
      subst (λ (xs : List ℕ). (b : ℕ) → b < a + 1 → get_or xs b 0 ≡ before hs (tail_of hs b) b) (sym c.thread.ensures.next)
          (linked_next hs c.loop-a.next a (get_or c.loop-a.first (get_or hs c.mate.result 0) 0) (omega arith)
          (c.loop-a.invariant.0 (get_or hs c.mate.result 0) (omega arith) ∙ ap (λ (x : ℕ). before hs x a) t) c.loop-a.invariant.1),
    )
