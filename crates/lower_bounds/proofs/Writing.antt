-- Leads as code writes them, and what two more of them make.
use Rattle.std.proofs.Common.{◌≡◌, ℕ, suc, ◌+◌, List, [], ◌∷◌, ◌++◌, map, sym, ap, ◌∙◌, ap₂, append_assoc, add-one, arith}
use Rattle.drawing.specs.declared.Kind.TheVariants.{Lead}
use Rattle.drawing.specs.declared.Run.{Run}
use Rattle.drawing.specs.Drawings.{Network, point_count}
use Rattle.reductions.specs.Terminals.{new_rack, new_bar}
use Rattle.reductions.specs.LowerBounds.{old_rack, old_bar, lowers_in, lowers_out, uppers_out, slack, supply_lead, demand_lead, return_lead, pairs, lowers_first}
use Rattle.reductions.proofs.Steps.{two_more}

abbrev lead_over : ℕ → ℕ → ℕ → Run
lead_over t h u = record { kind = Lead; tail = t; head = h; lower = 0; upper = u }

module _ (d : Network) (i n u : ℕ) (same : n ≡ point_count d) where
  pub supply_lead_lem : u ≡ lowers_in d (i + 1) → ◌≡◌ {A = Run} (record { kind = Lead; tail = n + 1; head = i + 1; lower = 0; upper = u }) (supply_lead d (suc i))
  supply_lead_lem e =
      let t : n + 1 ≡ new_rack d = omega arith in
      ap₂ (λ x y. lead_over x y u) t (add-one i) ∙ ap (lead_over (new_rack d) (suc i)) (e ∙ ap (lowers_in d) (add-one i))

  pub demand_lead_lem : u ≡ lowers_out d (i + 1) → ◌≡◌ {A = Run} (record { kind = Lead; tail = i + 1; head = n + 2; lower = 0; upper = u }) (demand_lead d (suc i))
  demand_lead_lem e =
      let h : n + 2 ≡ new_bar d = omega arith in
      ap₂ (λ x y. lead_over x y u) (add-one i) h ∙ ap (lead_over (suc i) (new_bar d)) (e ∙ ap (lowers_out d) (add-one i))

-- two more runs at the end of the pairs
pub pair_pushed : (out out₁ out₂ old : List Run) (a b : ℕ → Run) (i : ℕ) (x y : Run) → out₁ ≡ out ++ x ∷ [] → out₂ ≡ out₁ ++ y ∷ [] → out ≡ old ++ pairs i a b
    → x ≡ a (suc i) → y ≡ b (suc i) → out₂ ≡ old ++ pairs (i + 1) a b
pair_pushed out out₁ out₂ old a b i x y p q r e f =
    two_more out out₁ out₂ (old ++ pairs i a b) x y r p q
    ∙ append_assoc old (pairs i a b) (x ∷ y ∷ [])
    ∙ ap₂ (λ x y. old ++ (pairs i a b ++ (x ∷ y ∷ []))) e f
    ∙ ap (λ n. old ++ pairs n a b) (sym (add-one i))

pub return_lead_lem : (d : Network) (r b u : ℕ) → r ≡ old_rack d → b ≡ old_bar d → u ≡ uppers_out d r → ◌≡◌ {A = Run} (record { kind = Lead; tail = b; head = r; lower = 0; upper = u }) (return_lead d)
return_lead_lem d r b u e f g = ap₂ (λ x y. lead_over x y u) f e ∙ ap (lead_over (old_bar d) (old_rack d)) (g ∙ ap (uppers_out d) e)

-- the runs of the first network, written one part after another
pub first_runs : (d : Network) (out₁ out₂ out₃ : List Run) (x : Run) → out₁ ≡ map slack d.runs → out₂ ≡ out₁ ++ pairs (point_count d) (supply_lead d) (demand_lead d)
    → out₃ ≡ out₂ ++ x ∷ [] → x ≡ return_lead d → out₃ ≡ (lowers_first d).runs
first_runs d out₁ out₂ out₃ x p q r e =
    r ∙ ap₂ (λ l y. l ++ y ∷ []) (q ∙ ap (λ l. l ++ pairs (point_count d) (supply_lead d) (demand_lead d)) p) e
    ∙ append_assoc (map slack d.runs) (pairs (point_count d) (supply_lead d) (demand_lead d)) (return_lead d ∷ [])
