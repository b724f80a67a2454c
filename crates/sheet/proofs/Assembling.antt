-- Texts one after another at the front of an output, the length of a sheet, and what a writing tells and leaves.
use Rattle.std.proofs.Common.{◌≡◌, ℕ, ◌+◌, ◌*◌, ◌<◌, ◌≤◌, true, false, cond, leb, List, ◌++◌, length, drop, ℤ, pos, Ok, Err, Result, sym, ap, ◌∙◌, ap₂, zero-add, arith}
use Rattle.std.proofs.lemmas.List.{append_assoc, length-append}
use Rattle.std.proofs.lemmas.Bool.Decides.{nat_tests}
use Rattle.drawing.specs.declared.Label.{Label}
use Rattle.drawing.specs.declared.Refusal.{Refusal}
use Rattle.drawing.specs.declared.Run.{Run}
use Rattle.drawing.specs.declared.Refusal.TheVariants.{OutputTooShort}
use Rattle.drawing.specs.Counts.{nth}
use Rattle.drawing.specs.Drawings.{Network, no_run, point_count, run_count, run}
use Rattle.drawing.specs.Plans.{Plan, Feasible, flow}
use Rattle.drawing.specs.Labels.{label, worth}
use Rattle.drawing.specs.Answers.{Answer, Planned, Short, Right}
use Rattle.rig_drawing.specs.Bounds.{Bounded}
use Rattle.sheet.specs.Columns.{text_to, placed, fronted, writing_tells, writing_leaves}
use Rattle.sheet.specs.Sheets.{total_line, worth_line, run_line, run_lines, point_line, point_lines, sheet_text, sheet_length}
use Rattle.sheet.proofs.Fitting.{small_run, small_total, small_worth}
use Rattle.sheet.proofs.Lengths.{length_figure, length_run_line, length_point_line}
use Rattle.sheet.proofs.Placing.{placed_more, length_text_to}

pub placed_front : (xs b : List ℕ) → placed xs 0 b ≡ fronted xs b
placed_front xs b = ap (λ k. b ++ drop k xs) (zero-add (length b))

-- the text c after the text b
then : (xs o1 o2 b c : List ℕ) (n : ℕ) → length b ≡ n → n ≤ length xs → o1 ≡ placed xs 0 b → o2 ≡ placed o1 n c → o2 ≡ placed xs 0 (b ++ c)
then xs o1 o2 b c n long fits e1 e2 = e2 ∙ placed_more xs 0 b (omega arith) o1 c n e1 (omega arith)

pub two_texts : (xs o1 o2 b c : List ℕ) (n : ℕ) → length b ≡ n → n ≤ length xs → o1 ≡ placed xs 0 b → o2 ≡ placed o1 n c → o2 ≡ fronted xs (b ++ c)
two_texts xs o1 o2 b c n long fits e1 e2 = then xs o1 o2 b c n long fits e1 e2 ∙ placed_front xs (b ++ c)

-- and then the text d
pub three_texts : (xs o1 o2 o3 b c d : List ℕ) (n m : ℕ) → length b ≡ n → n + length c ≡ m → m ≤ length xs
    → o1 ≡ placed xs 0 b → o2 ≡ placed o1 n c → o3 ≡ placed o2 m d → o3 ≡ fronted xs (b ++ (c ++ d))
three_texts xs o1 o2 o3 b c d n m long-b long-c fits e1 e2 e3 =
    two_texts xs o2 o3 (b ++ c) d m (length-append b c ∙ omega arith) fits (then xs o1 o2 b c n long-b (omega arith) e1 e2) e3
    ∙ ap (fronted xs) (append_assoc b c d)

-- the lines of the lists that a drawing and its answer have
pub all_runs : (d : Network) (p : Plan) (rs : List Run) (fs : List ℤ) (out after : List ℕ) (a : ℕ) → rs ≡ d.runs → fs ≡ p.flows
    → after ≡ placed out a (text_to (length rs) (λ k. run_line k (nth rs k no_run) (nth fs k (pos 0)))) → after ≡ placed out a (run_lines d p)
all_runs d p rs fs out after a e q h = h ∙ ap₂ (λ (xs : List Run) (zs : List ℤ). placed out a (text_to (length xs) (λ k. run_line k (nth xs k no_run) (nth zs k (pos 0))))) e q

pub all_points : (d : Network) (ls zs : List Label) (out after : List ℕ) (a : ℕ) → zs ≡ ls → length ls ≡ point_count d
    → after ≡ placed out a (text_to (length zs) (λ v. point_line v (label zs v))) → after ≡ placed out a (point_lines d ls)
all_points d ls zs out after a e count h =
    h ∙ ap (λ (xs : List Label). placed out a (text_to (length xs) (λ v. point_line v (label xs v)))) e
    ∙ ap (λ n. placed out a (text_to n (λ v. point_line v (label ls v)))) count

module _ (d : Network) (bounded : Bounded d) where
  pub length_run_lines : (p : Plan) → Feasible d p → length (run_lines d p) ≡ 34 * run_count d
  length_run_lines p ok = length_text_to 34 (run_count d) (λ k. run_line k (run d k) (flow p k)) (λ k w. length_run_line k (run d k) (flow p k) (small_run d bounded p ok k w))

  pub length_point_lines : (ls : List Label) → length (point_lines d ls) ≡ 12 * point_count d
  length_point_lines ls =
      length_text_to 12 (point_count d) (λ v. point_line v (label ls v)) (λ v w. length_point_line v (label ls v) (omega (arith, bounded.few_points)))

  -- how long a sheet is
  pub length_sheet : (a : Answer) → Right d a → length (sheet_text d a) ≡ sheet_length d a
  unfolding sheet_text
  length_sheet (Planned p t ls) right =
      length-append (total_line t) (run_lines d p ++ point_lines d ls)
      ∙ omega (
        arith,
        length-append (run_lines d p) (point_lines d ls),
        length_figure 115 (pos t) (small_total d bounded t ls right.3),
        length_run_lines p right.0,
        length_point_lines ls,
      )
  length_sheet (Short ls) right =
      length-append (worth_line (worth d ls)) (point_lines d ls)
      ∙ omega (arith, length_figure 104 (worth d ls) (small_worth d bounded ls), length_point_lines ls)

-- so a rig's sheet has at most 6,170 bytes
pub sheet_at_most : (d : Network) → Bounded d → (a : Answer) → Right d a → length (sheet_text d a) ≤ 6170
sheet_at_most d bounded (Planned p t ls) right = omega (arith, length_sheet d bounded (Planned p t ls) right, bounded.few_points, bounded.few_runs)
sheet_at_most d bounded (Short ls) right = omega (arith, length_sheet d bounded (Short ls) right, bounded.few_points)

-- a text that is longer than the output
module _ (out text : List ℕ) (n : ℕ) (long : length text ≡ n) (short : length out < n) where
  too_long : leb (length text) (length out) ≡ false
  too_long = grind (arith, nat_tests)

  pub refused_tells : ◌≡◌ {A = Result ℕ Refusal} (Err OutputTooShort) (writing_tells out text)
  refused_tells = ap (λ b. cond b (Ok (length text)) (Err OutputTooShort)) (sym too_long)

  pub refused_leaves : out ≡ writing_leaves out text
  refused_leaves = ap (λ b. cond b (fronted out text) out) (sym too_long)

-- a text that the output has room for
module _ (out text : List ℕ) (n : ℕ) (long : length text ≡ n) (room : n ≤ length out) where
  has_room : leb (length text) (length out) ≡ true
  has_room = grind (arith, nat_tests)

  pub accepted_tells : ◌≡◌ {A = Result ℕ Refusal} (Ok n) (writing_tells out text)
  accepted_tells = ap Ok (sym long) ∙ ap (λ b. cond b (Ok (length text)) (Err OutputTooShort)) (sym has_room)

  pub accepted_leaves : (after : List ℕ) → after ≡ fronted out text → after ≡ writing_leaves out text
  accepted_leaves after e = e ∙ ap (λ b. cond b (fronted out text) out) (sym has_room)
