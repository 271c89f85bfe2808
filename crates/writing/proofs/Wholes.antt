-- Laws of a draft of all tables.
--     tables_lay                   the rows of all tables, one table after the other
--     counted_rows                 the counts, as the code compares them
--     whole_draft                  where the rows fit, the draft is the book
--     past_draft                   where they do not, the book is longer
-- Assumes nothing.
use mathlib.Core.Path.{◌≡◌, refl, sym, ap, ◌∙◌}
use mathlib.Core.Bool.{Bool}
use mathlib.Core.List.{List, [], ◌∷◌, ◌++◌, append-nil}
use Prim.Native.Nat.{ℕ, zero, suc, ◌+◌, ◌-◌, ◌*◌, ◌/◌, ◌≤◌, ◌<◌}
use native.Mathlib.Omega.{arith}
use lib.Dec.{eqb}
use lib.ListN.{length, take, length-append}
use lib.Seq.{length-take-le}
use Rattle.labels.specs.declared.Label.{Label}
use Rattle.book.proofs.Spans.{packed_join}
use Rattle.records.specs.Copies.{put_at}
use Rattle.rows.specs.Rows.{BookTables, Row, c_row, shape_row, cell_row, shape_row_in, cell_row_in, step_row_in, step_rows_in, block_rows_in, rows_from, rows, packed_rows, bytes_of, tables_in, total}
use Rattle.rows.specs.Write.{first_row}
use Rattle.writing.specs.declared.entries.Entry.{Entry}
use Rattle.writing.specs.declared.laying.Pen.{Pen}
use Rattle.writing.specs.Asked.{Enters, penned, clear_pen, Laid, Lays, Drafted, blocks_laid}
use Rattle.writing.proofs.Drafts.{lays_row, lays_then}
use Rattle.writing.proofs.BlockDrafts.{map_rows}

module _ (c : Label) (a b e t : List ℕ) where
  abbrev shapes : List Row
  shapes = rows_from (λ i. shape_row (shape_row_in a (i * 3))) (length a / 3) 0

  abbrev cells : List Row
  cells = rows_from (λ i. cell_row (cell_row_in b (i * 7))) (length b / 7) 0

  abbrev blocks : List Row
  blocks = blocks_laid e t (length e / 5) 0 (length t / 8) 0

  all_rows : rows (tables_in c a b e t) ≡ c_row c ∷ (shapes ++ (cells ++ blocks))
  unfolding rows blocks_laid
  all_rows =
      rw (map_rows (λ i. shape_row_in a (i * 3)) shape_row (length a / 3) 0, map_rows (λ i. cell_row_in b (i * 7)) cell_row (length b / 7) 0) refl

  pub tables_lay : (x : Entry) (d d₁ d₂ d₃ d₄ : List ℕ) (p₁ p₂ p₃ p₄ : Pen) → Enters x (c_row c) → 8 ≤ length d
      → d₁ ≡ put_at d 0 x.bytes → p₁ ≡ penned clear_pen x → Lays shapes d₁ p₁ d₂ p₂ → Lays cells d₂ p₂ d₃ p₃ → Lays blocks d₃ p₃ d₄ p₄
      → Lays (rows (tables_in c a b e t)) d clear_pen d₄ p₄
  tables_lay x d d₁ d₂ d₃ d₄ p₁ p₂ p₃ p₄ en room ed ep h k l =
      let one = lays_row (c_row c) d clear_pen x en (omega arith) d₁ p₁ ed ep in
      rw all_rows
      (lays_then (c_row c ∷ []) _ d clear_pen d₁ p₁ d₄ p₄ one (lays_then shapes _ d₁ p₁ d₂ p₂ d₄ p₄ h (lays_then cells _ d₂ p₂ d₃ p₃ d₄ p₄ k l)))

rows_length : {A : Type 0} (f : ℕ → A) (n i : ℕ) → length (rows_from f n i) ≡ n
unfolding rows_from
rows_length f zero i = refl
rows_length f (suc n) i = ap suc (rows_length f n (suc i))

pub counted_rows : (b : Bool) (blocks steps : List ℕ) → b ≡ eqb (total (block_rows_in blocks)) (length steps / 8)
    → b ≡ eqb (total (block_rows_in blocks)) (length (step_rows_in steps))
counted_rows b blocks steps h = h ∙ ap (eqb (total (block_rows_in blocks))) (sym (rows_length (λ i. step_row_in steps (i * 8)) (length steps / 8) 0))

-- a draft of r bytes, of which all but 8 may count
module _ (t : BookTables) (r : ℕ) (d d' : List ℕ) (p : Pen) (big : 8 ≤ r) (size : length d ≡ r) (h : Lays (rows t) d clear_pen d' p) where
  final : Laid (rows t) [] d' p
  unfolding first_row
  final =
      h.on (rows t) []
      (record {
        done = [];
        todo = rows t;
        split = refl;
        at = refl;
        drafted = refl;
        strange = refl;
        spare = refl;
        reached = λ l. sym (append-nil (rows t));
      })

  long : length d' ≡ r
  long = h.long ∙ size

  pub whole_draft : p.at ≤ r - 8 → r ≤ 32776 → Drafted t (take p.at d') p
  whole_draft l m =
      let f = final in
      let none : f.todo ≡ [] = f.reached (omega (arith, long)) in
      let all : f.done ≡ rows t = sym (append-nil f.done) ∙ ap (λ (r : List Row). f.done ++ r) (sym none) ∙ f.split in
      let g : length (take p.at d') ≡ p.at = length-take-le p.at d' (omega (arith, long)) in
      record {
        bytes = f.drafted ∙ ap packed_rows all;
        short = omega arith;
        strange = rw all at f.strange;
        spare = rw all at f.spare;
      }

  pub past_draft : r - 8 < p.at → r < 8 + length (bytes_of t)
  past_draft l =
      let f = final in
      let e : length (bytes_of t) ≡ length (packed_rows f.done) + length (packed_rows f.todo)
      = ap (λ (r : List Row). length (packed_rows r)) (sym f.split) ∙ ap length (packed_join (λ (r : Row). r.bytes) f.done f.todo)
      ∙ length-append (packed_rows f.done) (packed_rows f.todo) in
      omega (arith, f.at)
