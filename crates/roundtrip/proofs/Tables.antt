-- The rows of the tables, each given back by what is read of its record.
--     shape_kept, ..                the row is given back
-- Assumes nothing.
use mathlib.Core.Path.{◌≡◌, refl, sym, ◌∙◌}
use mathlib.Core.Bool.{false}
use mathlib.Core.List.{List, [], ◌∷◌}
use Prim.Native.Nat.{ℕ, ◌<◌}
use lib.ListN.{drop}
use Rattle.book.specs.Kinds.{span, group}
use Rattle.book.specs.Book.{shape_at, declared_at, step_at}
use Rattle.rows.specs.Rows.{ShapeRow, CellRow, StepRow, some_nonzero, row_of, shape_row, cell_row, step_fields, step_row, packed_rows}
use Rattle.rows.specs.Parsed.{shape_row_of, cell_row_of, step_row_of}
use Rattle.rows.proofs.Packs.{known}
use Rattle.rows.proofs.Seen.{viewed, Kept}
use Rattle.rows.proofs.ReadRows.{shape_of, step_of}
use Rattle.roundtrip.proofs.RowsBack.{all_zero, shape_back, cell_range, cell_back, step_back}
use Rattle.roundtrip.proofs.Fine.{Fine}

-- a row of group g has no spare field
module _ (g k : ℕ) (fields : List ℕ) (f : Fine (row_of g k fields)) where
  none_spare : some_nonzero (drop (span k) (k ∷ fields)) ≡ false
  none_spare = sym (known g k fields f.known).spare ∙ f.used

module _ (r : ShapeRow) (f : Fine (shape_row r)) where
  pub shape_kept : Kept 2 shape_at (viewed shape_at) shape_row shape_row_of r
  shape_kept =
      let fields = r.x ∷ r.y ∷ [] in
      let w = known 2 r.kind fields f.known in
      record {
        of = shape_of r f.known;
        same = λ rs. rw w.bytes (shape_back r.kind w.of r.x r.y (packed_rows rs) (all_zero _ (none_spare 2 r.kind fields f)));
      }

pub cell_kept : (r : CellRow) → r.number < 4294967296 → Fine (cell_row r) → Kept 3 declared_at (viewed declared_at) cell_row cell_row_of r
unfolding row_of group span
cell_kept r h f =
    record {
      of = refl;
      same = λ rs. cell_back r.shape r.label r.kind r.number (packed_rows rs) h (cell_range r.shape r.label r.kind r.number f.behind f.narrow);
    }

module _ (r : StepRow) (f : Fine (step_row r)) where
  pub step_kept : r.number < 4294967296 → Kept 5 step_at (viewed step_at) step_row step_row_of r
  step_kept h =
      let w = known 5 r.kind (step_fields r) f.known in
      record {
        of = step_of r f.known;
        same =
            λ rs. rw w.bytes (step_back r.kind w.of r.x r.y r.z r.number (packed_rows rs) h
            (all_zero _ (none_spare 5 r.kind (step_fields r) f)));
      }
