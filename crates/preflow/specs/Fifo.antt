-- First in, first out.
use Rattle.std.specs.Prelude.{◌≡◌, ℕ, suc, cond, not, ◌&&◌, List, [], ◌∷◌, ◌++◌, count_by, nat_eq}
use Rattle.drawing.specs.Counts.{only}
use Rattle.preflow.specs.Push.{shifted, active}
use Rattle.preflow.specs.Turns.{State}

-- how often u stands in the queue
abbrev pub times : ℕ → List ℕ → ℕ
times u qs = count_by (λ w. nat_eq w u) qs

-- the queue holds each active point once, and no other
abbrev pub Held : (source sink : ℕ) → State → Type 0
Held source sink s = (u : ℕ) → times u s.queue ≡ only (active source sink s.excess u) 1

-- the excesses after pushes from v, one after the other: each is a point w and what goes to it
abbrev pub pushed : (v : ℕ) (es : List ℕ) → List (ℕ × ℕ) → List ℕ
pushed v es [] = es
pushed v es (p ∷ ps) = pushed v (shifted es v p.0 p.1) ps

-- the points that become active by them, in this order
abbrev pub wakened : (source sink v : ℕ) (es : List ℕ) → List (ℕ × ℕ) → List ℕ
wakened source sink v es [] = []
wakened source sink v es (p ∷ ps) =
    let fs : List ℕ = shifted es v p.0 p.1 in
    cond (not (active source sink es p.0) && active source sink fs p.0) (p.0 ∷ []) [] ++ wakened source sink v fs ps

-- A turn serves v. By its pushes points become active and join behind the rest of the queue, each as it does; then v
-- joins, where the turn has left it active.
pub record Served (source sink v : ℕ) (rest : List ℕ) (s t : State) : Type 0 where
  pub pushes : List (ℕ × ℕ)
  pub excess : t.excess ≡ pushed v s.excess pushes
  pub queue : t.queue ≡ (rest ++ wakened source sink v s.excess pushes) ++ cond (active source sink t.excess v) (v ∷ []) []

-- Each turn serves the point in front, so the points are served in the order in which they last joined.
pub record Fifo (source sink : ℕ) (after : ℕ → State) : Type 0 where
  pub held : (k : ℕ) → Held source sink (after k)
  pub front : (k v : ℕ) (rest : List ℕ) → (after k).queue ≡ v ∷ rest → Served source sink v rest (after k) (after (suc k))
