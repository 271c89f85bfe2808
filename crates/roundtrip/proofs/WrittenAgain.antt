-- "Any book that passes refusals 1 to 6, read and written again, has the same bytes."
--     rows_are           the rows of its tables are its records
--     written_again
-- Assumes nothing.
use mathlib.Core.Path.{◌≡◌, refl, sym, ap, ◌∙◌}
use mathlib.Core.Bool.{not}
use mathlib.Core.List.{List, [], ◌∷◌, ◌++◌, map, map-append}
use Prim.Native.Nat.{ℕ, ◌+◌, ◌≤◌}
use native.Mathlib.Omega.{arith}
use lib.ListN.{length, drop, length-append, length-map}
use lib.Seq.{take_at, drop_at}
use borrow.Author.Tests.{eqb-true, eq-eqb, le-ltb}
use Rattle.labels.specs.Labels.{label}
use Rattle.std.specs.Prelude.{None}
use Rattle.book.specs.Outcome.{Passed}
use Rattle.book.specs.Spans.{Bytes}
use Rattle.book.specs.Records.{byte_at, next, cut, records, records_from, in_group}
use Rattle.book.specs.Book.{Block, group_of, shapes_of, cells_of, blocks_of, steps_from, shape_at, declared_at, block_at, step_at, parse}
use Rattle.book.specs.Refusals.{out_of_range, range_fault, or_refuse}
use Rattle.book.specs.Asked.{Whole}
use Rattle.book.proofs.Every.{All, Passing, all_both, those_all, while_all}
use Rattle.book.proofs.Groups.{block_span}
use Rattle.book.proofs.Records.{walk}
use Rattle.book.proofs.Sweep.{Cleared, cleared}
use Rattle.book.proofs.Readable.{pass_whole, Readable, readable}
use Rattle.rows.specs.Rows.{BookTables, Row, c_row, shape_row, cell_row, block_row, step_row, block_rows, rows, packed_rows, bytes_of, total}
use Rattle.rows.specs.Parsed.{shape_row_of, cell_row_of, block_row_of, step_row_of, step_rows_of, tables_of}
use Rattle.rows.specs.Write.{unknown_fault, spare_fault, earlier, unwritable, written_of, written}
use Rattle.roundtrip.specs.RoundTrip.{WrittenAgain}
use Rattle.roundtrip.proofs.RecordRows.{row_at, packed_records, none_first}
use Rattle.roundtrip.proofs.Laid.{spread, c_stands, laid_out}
use Rattle.roundtrip.proofs.AsRows.{c_row_lem, shape_row_lem, cell_row_lem, block_row_lem, step_row_lem}

-- what is told of each offset makes a row
map_rows : {A B : Type 0} (P : ℕ → Type 0) (row : B → Row) (f : A → B) (g : ℕ → A) (r : ℕ → Row) → ((o : ℕ) → P o → row (f (g o)) ≡ r o)
    → (os : List ℕ) → All P os → map row (map f (map g os)) ≡ map r os
map_rows P row f g r q [] h = refl
map_rows P row f g r q (o ∷ os) h =
    let x : row (f (g o)) ≡ r o = q o h.0 in
    let y : map row (map f (map g os)) ≡ map r os = map_rows P row f g r q os h.1 in
    cc

-- "Each block row gives its step count."
totals : (bs : List Block) → total (map block_row_of bs) ≡ length (step_rows_of bs)
unfolding total step_rows_of
totals [] = refl
totals (b ∷ bs) =
    let x = totals bs in
    let y = length-append (map step_row_of b.steps) (step_rows_of bs) in
    let z = length-map b.steps step_row_of in
    omega arith

module _ (s : List ℕ) (b : Bytes s) where
  -- a record that refusal 2 does not hold of; and one that refusal 5 does not
  abbrev Uncut : ℕ → Type 0
  Uncut o = Cleared {S = Unit {0}} (λ t o. cut s o) (λ t o. t) (λ t. None) s o

  abbrev Narrow : ℕ → Type 0
  Narrow o = Cleared {S = Unit {0}} (λ t o. out_of_range s o) (λ t o. t) (λ t. None) s o

  abbrev Stands : ℕ → ℕ → Type 0
  Stands g o = Passing Uncut (in_group s g) o

  as_shape_lem : (o : ℕ) → Stands 2 o → shape_row (shape_row_of (shape_at s o)) ≡ row_at s o
  as_shape_lem o h = shape_row_lem s o h.known.fine (eqb-true _ _ h.passes)

  as_step : (o : ℕ) → Stands 5 o → step_row (step_row_of (step_at s o)) ≡ row_at s o
  as_step o h = step_row_lem s o h.known.fine b (eqb-true _ _ h.passes)

  as_block : (o : ℕ) → Stands 4 o → block_row (block_row_of (block_at s o)) ≡ row_at s o
  as_block o h = block_row_lem s o h.known.fine (eqb-true _ _ h.passes)

  as_cell : (o : ℕ) → Stands 3 o → Passing Narrow (in_group s 3) o → cell_row (cell_row_of (declared_at s o)) ≡ row_at s o
  as_cell o h n = cell_row_lem s o h.known.fine b n.known.fine (eqb-true _ _ h.passes)

  -- the steps behind a block
  behind : (o : ℕ) → Stands 4 o → All (Stands 5) (steps_from s (o + 2))
  unfolding steps_from
  behind o h =
      let k = h.known in
      let n : next s o ≡ o + 2 = ap (λ m. o + m) (block_span (byte_at s o) (eqb-true _ _ h.passes)) in
      while_all _ (in_group s 5) (records_from s (o + 2)) (rw n at (cleared _ _ _ s tt (next s o) k.whole k.rest))

  as_blocks : (os : List ℕ) → All (Stands 4) os
      → block_rows (map block_row_of (map (block_at s) os)) (step_rows_of (map (block_at s) os)) ≡ map (row_at s) (spread s os)
  unfolding block_rows step_rows_of spread block_at
  as_blocks [] h = refl
  as_blocks (o ∷ os) h =
      let qs = map (step_at s) (steps_from s (o + 2)) in
      let rest = step_rows_of (map (block_at s) os) in
      let n = length-map qs step_row_of in
      let x : map step_row (map step_row_of qs) ≡ map (row_at s) (steps_from s (o + 2))
      = map_rows (Stands 5) step_row step_row_of (step_at s) (row_at s) as_step (steps_from s (o + 2)) (behind o h.0) in
      rw (take_at (map step_row_of qs) rest (length qs) n, drop_at (map step_row_of qs) rest (length qs) n, x, as_blocks os h.1, as_block o h.0)
      (ap {B = List Row} (λ l. row_at s o ∷ l) (sym (map-append (row_at s) (steps_from s (o + 2)) (spread s os))))

  module _ (r : Readable s) where
    whole : Whole s 0
    whole = pass_whole s r.whole

    uncut : (g : ℕ) → All (Stands g) (group_of s g)
    unfolding group_of
    uncut g = those_all _ (in_group s g) (records s) (cleared _ _ _ s tt 0 whole whole)

    narrow : (g : ℕ) → All (Passing Narrow (in_group s g)) (group_of s g)
    unfolding group_of range_fault
    narrow g = those_all _ (in_group s g) (records s) (cleared _ _ _ s tt 0 whole r.narrow)

    as_c : c_row (label (byte_at s 1)) ≡ row_at s 0
    as_c = let c = c_stands s whole r.ordered in c_row_lem s 0 (walk s 0 whole c.0).uncut c.1

    as_shapes : map shape_row (map shape_row_of (map (shape_at s) (shapes_of s))) ≡ map (row_at s) (shapes_of s)
    as_shapes = map_rows (Stands 2) shape_row shape_row_of (shape_at s) (row_at s) as_shape_lem (shapes_of s) (uncut 2)

    as_cells : map cell_row (map cell_row_of (map (declared_at s) (cells_of s))) ≡ map (row_at s) (cells_of s)
    as_cells =
        map_rows _ cell_row cell_row_of (declared_at s) (row_at s) (λ o e. e) (cells_of s)
        (all_both _ _ (λ o. cell_row (cell_row_of (declared_at s o)) ≡ row_at s o) as_cell (cells_of s) (uncut 3) (narrow 3))

    pub rows_are : rows (tables_of (parse s)) ≡ map (row_at s) (records s)
    unfolding rows tables_of parse
    rows_are =
        let k = cells_of s ++ spread s (blocks_of s) in
        rw (as_c, as_shapes, as_cells, as_blocks (blocks_of s) (uncut 4))
        (ap {B = List Row} (λ l. row_at s 0 ∷ l)
        (ap (λ l. map (row_at s) (shapes_of s) ++ l) (sym (map-append (row_at s) (cells_of s) (spread s (blocks_of s))))
        ∙ sym (map-append (row_at s) (shapes_of s) k))
        ∙ ap (map (row_at s)) (sym (laid_out s whole r.ordered)))

    same_bytes : bytes_of (tables_of (parse s)) ≡ s
    same_bytes = ap packed_rows rows_are ∙ packed_records s (records s) 0 refl whole (omega arith)

    no_unknown : unknown_fault (rows (tables_of (parse s))) ≡ None
    unfolding row_at
    no_unknown = ap unknown_fault rows_are ∙ none_first s (λ r. not r.known) (λ o. refl) (records s) 0

    no_spare : spare_fault (rows (tables_of (parse s))) ≡ None
    unfolding row_at
    no_spare = ap spare_fault rows_are ∙ none_first s (λ r. r.spare) (λ o. refl) (records s) 0

    counts : total (tables_of (parse s)).blocks ≡ length (tables_of (parse s)).steps
    unfolding tables_of
    counts = totals (parse s).blocks

-- tables that would be written as a book that passes, whose counts add up and whose rows have no fault of their own, pass
passes : (t : BookTables) (s : List ℕ) (room : ℕ) → Readable s → bytes_of t ≡ s → total t.blocks ≡ length t.steps
    → unknown_fault (rows t) ≡ None → spare_fault (rows t) ≡ None → length s ≤ room → unwritable t room ≡ Passed
unfolding unwritable or_refuse earlier
passes t s room r e n u p h = simp (e, le-ltb _ _ r.short, eq-eqb _ _ n, u, p, r.ordered, r.few, r.narrow, r.named, le-ltb _ _ h)

writes : (t : BookTables) (s out : List ℕ) → unwritable t (length out) ≡ Passed → bytes_of t ≡ s
    → written t out ≡ record { refusal = Passed; length = length s; out = s ++ drop (length s) out }
unfolding written_of
writes t s out e q = rw (e, q) refl

pub written_again : WrittenAgain
written_again s b e out h =
    let r = readable s e in
    let t = tables_of (parse s) in
    let q = same_bytes s b r in
    writes t s out (passes t s (length out) r q (counts s b r) (no_unknown s b r) (no_spare s b r) h) q
