-- The lengths of a plan's lists, and a test at each point that reads three lists by its number.
use Rattle.std.proofs.Common.{◌≡◌, ℕ, suc, ◌+◌, ◌<◌, Bool, true, List, length, get_or, sym, ap, ◌∙◌, arith}
use Rattle.std.specs.List.{list_all, zip, range_with_len}
use Rattle.std.proofs.lemmas.Bool.{and_parts, eqb-true}
use Rattle.std.proofs.lemmas.List.FromFn.{length-range_with_len, get_or-range_with_len}
use Rattle.std.proofs.lemmas.Slice.Zip.{length-zip, get_or-zip}
use Rattle.drawing.specs.Counts.{every_to}
use Rattle.drawing.specs.Drawings.{Network, point_count, run_count}
use Rattle.drawing.specs.Plans.{Plan}
use Rattle.drawing.specs.Tests.{is_shaped}
use Rattle.drawing.proofs.Lists.{every_reads}

pub record Shape (d : Network) (p : Plan) : Type 0 where
  pub flows : length p.flows ≡ run_count d
  pub supplies : length p.supplies ≡ point_count d
  pub deliveries : length p.deliveries ≡ point_count d

pub shape : (d : Network) (p : Plan) → is_shaped d p ≡ true → Shape d p
shape d p e =
    let (e1, deliveries?) = and_parts _ _ e in
    let (flows?, supplies?) = and_parts _ _ e1 in
    record { flows = eqb-true _ _ flows?; supplies = eqb-true _ _ supplies?; deliveries = eqb-true _ _ deliveries? }

module _ {X Y Z : Type 0} (xs : List X) (ys : List Y) (zs : List Z) (longs : length ys ≡ length xs) (same : length zs ≡ length xs) where
  abbrev pub numbered : List (((ℕ × X) × Y) × Z)
  numbered = zip (zip (zip (range_with_len 1 (length xs)) xs) ys) zs

  pairs_long : length (zip (range_with_len 1 (length xs)) xs) ≡ length xs
  pairs_long = let l = length-zip (range_with_len 1 (length xs)) xs in let n = length-range_with_len 1 (length xs) in omega arith

  triples_long : length (zip (zip (range_with_len 1 (length xs)) xs) ys) ≡ length xs
  triples_long = let l = length-zip (zip (range_with_len 1 (length xs)) xs) ys in omega (arith, pairs_long)

  numbered_long : length numbered ≡ length xs
  numbered_long = let l = length-zip (zip (zip (range_with_len 1 (length xs)) xs) ys) zs in omega (arith, triples_long)

  numbered_at : (k : ℕ) (d : ((ℕ × X) × Y) × Z) → k < length xs → get_or numbered k d ≡ (((suc k, get_or xs k d.0.0.1), get_or ys k d.0.1), get_or zs k d.1)
  numbered_at k d l =
      get_or-zip (zip (zip (range_with_len 1 (length xs)) xs) ys) zs k d (omega (arith, triples_long)) (omega arith)
      ∙ ap (λ a. (a, get_or zs k d.1)) (get_or-zip (zip (range_with_len 1 (length xs)) xs) ys k d.0 (omega (arith, pairs_long)) (omega arith)
      ∙ ap (λ a. (a, get_or ys k d.0.1)) (get_or-zip (range_with_len 1 (length xs)) xs k d.0.0 (omega (arith, length-range_with_len 1 (length xs))) l
      ∙ ap (λ a. (a, get_or xs k d.0.0.1)) (get_or-range_with_len 1 (length xs) k d.0.0.0 l ∙ (let e : 1 + k ≡ suc k = omega arith in e))))

  pub every_numbered : (t : ℕ → Bool) (h : ((ℕ × X) × Y) × Z → Bool) → ((k : ℕ) (x : X) (y : Y) (z : Z) → k < length xs → t (suc k) ≡ h (((suc k, get_or xs k x), get_or ys k y), get_or zs k z))
      → every_to (length xs) t ≡ list_all h numbered
  every_numbered t h each =
      ap (λ n. every_to n t) (sym numbered_long)
      ∙ every_reads t h numbered (λ k d l. let w : k < length xs = omega (arith, numbered_long) in each k d.0.0.1 d.0.1 d.1 w ∙ sym (ap h (numbered_at k d w)))
