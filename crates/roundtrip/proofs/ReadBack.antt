-- Reading what the writer wrote gives its tables back.
--     shapes_back, cells_back, .., tables_back     each table, and all of them, of the bytes of tables that are writable
--     read_back                                    ReadBack
-- Assumes nothing.
use mathlib.Core.Path.{◌≡◌, refl, ap, ◌∙◌}
use mathlib.Core.List.{List, [], ◌∷◌, ◌++◌, map, append-nil, Memᴰ}
use Prim.Native.Nat.{◌<◌}
use native.Mathlib.Omega.{arith}
use Rattle.labels.specs.Labels.{label}
use Rattle.book.specs.declared.Shape.{Shape}
use Rattle.book.specs.declared.Declared.{Declared}
use Rattle.book.specs.Kinds.{span, group}
use Rattle.book.specs.Records.{byte_at}
use Rattle.book.specs.Book.{shapes_of, cells_of, blocks_of, shape_at, declared_at, block_at, parse}
use Rattle.book.proofs.Every.{All, all_both}
use Rattle.rows.specs.Rows.{BookTables, row_of, c_row, shape_row, cell_row, rows, bytes_of}
use Rattle.rows.specs.Parsed.{shape_row_of, cell_row_of, tables_of}
use Rattle.rows.proofs.Packs.{all_front, all_behind, of_rows}
use Rattle.rows.proofs.Seen.{viewed, shape_views, cell_views, Kept, seen_table}
use Rattle.rows.proofs.ReadRows.{shape_part, cell_part, block_part, read, past_shapes, past_cells, past_blocks}
use Rattle.roundtrip.specs.RoundTrip.{NumbersHold, ReadBack}
use Rattle.roundtrip.proofs.Writable.{Writable, writable, output_is, read_passes}
use Rattle.roundtrip.proofs.Fine.{Fine, fine}
use Rattle.roundtrip.proofs.Tables.{shape_kept, cell_kept}
use Rattle.roundtrip.proofs.BlocksBack.{Holds, block_view, block_views, blocks_seen, BlocksBack, blocks_back}

all_of : {A : Type 0} (P : A → Type 0) (l : List A) → ((a : A) → Memᴰ a l → P a) → All P l
all_of P [] f = tt
all_of P (a ∷ l) f = (f a (Memᴰ.head refl), all_of P l (λ b m. f b (Memᴰ.tail m)))

module _ (t : BookTables) (w : Writable t) (numbers : NumbersHold t) where
  all_fine : All Fine (c_row t.c ∷ shape_part t)
  unfolding rows
  all_fine = fine t w

  shapes_fine : All Fine (map shape_row t.shapes)
  shapes_fine = all_front Fine (map shape_row t.shapes) (cell_part t) all_fine.1

  cells_fine : All Fine (map cell_row t.cells)
  cells_fine = all_front Fine (map cell_row t.cells) (block_part t) (all_behind Fine (map shape_row t.shapes) (cell_part t) all_fine.1)

  blocks_fine : All Fine (block_part t)
  blocks_fine = all_behind Fine (map cell_row t.cells) (block_part t) (all_behind Fine (map shape_row t.shapes) (cell_part t) all_fine.1)

  shapes_back : map shape_row_of (map (shape_at (bytes_of t)) (shapes_of (bytes_of t))) ≡ t.shapes
  shapes_back =
      ap (map shape_row_of) (read t w.known 2 shape_at (viewed shape_at) shape_views (λ e. omega arith))
      ∙ seen_table 2 shape_at (viewed shape_at) shape_row shape_row_of t.shapes (cell_part t) (of_rows Fine shape_row _ (λ a f. shape_kept a f) t.shapes shapes_fine)
      ∙ ap (λ (l : List Shape). t.shapes ++ map shape_row_of l)
      (past_cells t w.known 2 shape_at (viewed shape_at) (λ e. omega arith) ∙ past_blocks t w.known 2 shape_at (viewed shape_at) (λ e. omega arith) (λ e. omega arith))
      ∙ append-nil t.shapes

  cells_kept : All (Kept 3 declared_at (viewed declared_at) cell_row cell_row_of) t.cells
  cells_kept =
      all_both (λ r. r.number < 4294967296) (λ r. Fine (cell_row r)) _ (λ a n f. cell_kept a n f) t.cells (all_of _ t.cells numbers.cells)
      (of_rows Fine cell_row _ (λ a f. f) t.cells cells_fine)

  cells_back : map cell_row_of (map (declared_at (bytes_of t)) (cells_of (bytes_of t))) ≡ t.cells
  cells_back =
      ap (map cell_row_of) (read t w.known 3 declared_at (viewed declared_at) cell_views (λ e. omega arith) ∙ past_shapes t w.known 3 declared_at (viewed declared_at) (λ e. omega arith))
      ∙ seen_table 3 declared_at (viewed declared_at) cell_row cell_row_of t.cells (block_part t) cells_kept
      ∙ ap (λ (l : List Declared). t.cells ++ map cell_row_of l) (past_blocks t w.known 3 declared_at (viewed declared_at) (λ e. omega arith) (λ e. omega arith))
      ∙ append-nil t.cells

  blocks_read : map (block_at (bytes_of t)) (blocks_of (bytes_of t)) ≡ blocks_seen (block_part t)
  blocks_read =
      read t w.known 4 block_at block_view block_views (λ e. omega arith)
      ∙ past_shapes t w.known 4 block_at block_view (λ e. omega arith)
      ∙ past_cells t w.known 4 block_at block_view (λ e. omega arith)

  given : BlocksBack t.blocks t.steps
  given = blocks_back t.blocks t.steps w.counted (all_of Holds t.steps numbers.steps) blocks_fine

  c_back : label (byte_at (bytes_of t) 1) ≡ t.c
  unfolding rows row_of group span
  c_back = refl

  pub tables_back : tables_of (parse (bytes_of t)) ≡ t
  unfolding tables_of parse
  tables_back = rw (c_back, shapes_back, cells_back, blocks_read, given.blocks, given.steps)

pub read_back : ReadBack
read_back t numbers out e =
    let w = writable t out e in
    rw (output_is t out e) (read_passes t w, tables_back t w numbers)
