use Rattle.std.proofs.Common.{◌≡◌, ℕ, suc, ◌+◌, ◌-◌, List, length, set, replicate, sym, ap, ◌∙◌, arith}
use Rattle.residual.specs.Search.{searches, levels}
use Rattle.residual.proofs.Rounds.{searches_dry, searches_found, searches_on}
use Rattle.residual.proofs.net.Loaded.search.Goals as goal
use Rattle.residual.proofs.net.Loaded.search.Goals.{then-not-round-via-then-not-round, then-not-round-via-else-not-round+then-level-sink-ne0}

pub loop-k-preserved : goal.loop-k-preserved
loop-k-preserved c =
    let hs = c.args.self.net.head.now in
    let rs = c.args.self.left.now in
    let k = c.loop-k.k in
    let more : 130 - k ≡ suc (130 - (k + 1)) = omega arith in
    let e = c.round.ensures ∙ ap (λ b. (c.round.new.level, b)) c.if-not-round.false in
    sym (searches_on hs rs c.args.sink (130 - (k + 1)) k c.loop-k.level _ e c.if-level-sink-ne0.false)
    ∙ ap (λ (f : ℕ). searches hs rs c.args.sink f k c.loop-k.level) (sym more)
    ∙ c.loop-k.invariant

-- the levels that the rounds begin with
begun : (hs rs : List ℕ) (n source sink : ℕ) (l : List ℕ) → l ≡ set (replicate n 0) source 1 → searches hs rs sink 129 1 l ≡ levels hs rs n source sink
begun hs rs n source sink l e = ap (λ (x : List ℕ). searches hs rs sink 129 1 x) e

pub returns-after-loop-k : goal.returns-after-loop-k
unfolding searches
returns-after-loop-k c =
    let z : 130 - c.loop-k.k ≡ 0 = omega arith in
    let i : c.loop-k.level ≡ searches c.args.self.net.head.now c.args.self.left.now c.args.sink 129 1 c.begin.new.level = rw z at c.loop-k.invariant in
    i ∙ begun c.args.self.net.head.now c.args.self.left.now (length c.args.level.now) c.args.source c.args.sink c.begin.new.level c.begin.ensures

pub returns-then-not-round : goal.returns-then-not-round
returns-then-not-round c =
    let hs = c.args.self.net.head.now in
    let rs = c.args.self.left.now in
    let k = c.loop-k.k in
    let f = 130 - (k + 1) in
    let more : 130 - k ≡ suc f = omega arith in
    let s : searches hs rs c.args.sink (suc f) k c.loop-k.level ≡ c.round.new.level =
    elim c.then-not-round.branch [
      | then-not-round-via-then-not-round w ↦ searches_dry hs rs c.args.sink f k c.loop-k.level _ (c.round.ensures ∙ ap (λ b. (c.round.new.level, b)) w.if-not-round.true)
      | then-not-round-via-else-not-round+then-level-sink-ne0 w ↦ searches_found hs rs c.args.sink f k c.loop-k.level _ _ c.round.ensures w.if-level-sink-ne0.true
    ] in
    sym s ∙ ap (λ (x : ℕ). searches hs rs c.args.sink x k c.loop-k.level) (sym more)
    ∙ c.loop-k.invariant ∙ begun c.args.self.net.head.now c.args.self.left.now (length c.args.level.now) c.args.source c.args.sink c.begin.new.level c.begin.ensures
