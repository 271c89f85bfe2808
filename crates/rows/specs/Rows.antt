-- The tables that a book is written from: 02, One.
--     ShapeRow, .., StepRow           a row of each table
--     BookTables, tables_in            C and the rows; those of lent bytes
--     lent_tables                      those of what the code lends
--     Row, row_of                      what stands for a row in the book
--     c_row, shape_row, .., step_row     the rows of each table, and C
--     block_rows, rows                 all of them, in group order
--     bytes_of                         the bytes of the book
--     total                           the steps that the blocks count
-- Assumes nothing.
use Rattle.std.specs.Prelude.{ℕ, zero, suc, ◌+◌, ◌*◌, ◌/◌, Bool, true, false, not, List, [], ◌∷◌, ◌++◌, map, eqb, length, take, drop}
use Rattle.labels.specs.declared.Label.{Label}
use Rattle.book.specs.Control.{when◌then◌else◌, either}
use Rattle.book.specs.Numbers.{c_kind, cell_kind, block_kind, put_kind, c_group, shape_group, cell_group, block_group, step_group}
use Rattle.book.specs.Kinds.{span, group}
use Rattle.book.specs.Spans.{packed}
use Rattle.book.specs.Records.{byte_at, number_at, number_bytes}
use Rattle.rows.specs.declared.Tables.{Tables}

-- A row of each table: the fields of its record in their order, and of a block, "Each block row gives its step count."
pub record ShapeRow : Type 0 where
  pub kind : ℕ
  pub x : ℕ
  pub y : ℕ

pub record CellRow : Type 0 where
  pub shape : ℕ
  pub label : ℕ
  pub kind : ℕ
  pub number : ℕ

pub record BlockRow : Type 0 where
  pub bound : ℕ
  pub steps : ℕ

pub record StepRow : Type 0 where
  pub kind : ℕ
  pub x : ℕ
  pub y : ℕ
  pub z : ℕ
  pub number : ℕ

-- "The writer takes C and lent tables of shapes, cells, blocks and steps"
pub record BookTables : Type 0 where
  pub c : Label
  pub shapes : List ShapeRow
  pub cells : List CellRow
  pub blocks : List BlockRow
  pub steps : List StepRow

-- n rows of a lent table from the i-th on
module _ {A : Type 0} (row : ℕ → A) where
  unfoldable pub rows_from : ℕ → ℕ → List A
  rows_from zero i = []
  rows_from (suc n) i = row i ∷ rows_from n (suc i)

-- the bytes of a row of each table
abbrev pub shape_row_length : ℕ
shape_row_length = 3

abbrev pub cell_row_length : ℕ
cell_row_length = 7

abbrev pub block_row_length : ℕ
block_row_length = 5

abbrev pub step_row_length : ℕ
step_row_length = 8

-- the row at an offset of lent bytes, one byte for each field, four for a number
unfoldable pub shape_row_in : List ℕ → ℕ → ShapeRow
shape_row_in t o = record { kind = byte_at t o; x = byte_at t (o + 1); y = byte_at t (o + 2) }

unfoldable pub cell_row_in : List ℕ → ℕ → CellRow
cell_row_in t o = record { shape = byte_at t o; label = byte_at t (o + 1); kind = byte_at t (o + 2); number = number_at t (o + 3) }

unfoldable pub block_row_in : List ℕ → ℕ → BlockRow
block_row_in t o = record { bound = byte_at t o; steps = number_at t (o + 1) }

unfoldable pub step_row_in : List ℕ → ℕ → StepRow
step_row_in t o =
    record {
      kind = byte_at t o;
      x = byte_at t (o + 1);
      y = byte_at t (o + 2);
      z = byte_at t (o + 3);
      number = number_at t (o + 4);
    }

-- the rows of lent bytes; bytes past the last whole row are no row
abbrev pub shape_rows_in : List ℕ → List ShapeRow
shape_rows_in t = rows_from (λ i. shape_row_in t (i * shape_row_length)) (length t / shape_row_length) 0

abbrev pub cell_rows_in : List ℕ → List CellRow
cell_rows_in t = rows_from (λ i. cell_row_in t (i * cell_row_length)) (length t / cell_row_length) 0

abbrev pub block_rows_in : List ℕ → List BlockRow
block_rows_in t = rows_from (λ i. block_row_in t (i * block_row_length)) (length t / block_row_length) 0

abbrev pub step_rows_in : List ℕ → List StepRow
step_rows_in t = rows_from (λ i. step_row_in t (i * step_row_length)) (length t / step_row_length) 0

abbrev pub tables_in : Label → List ℕ → List ℕ → List ℕ → List ℕ → BookTables
tables_in c shapes cells blocks steps =
    record { c = c; shapes = shape_rows_in shapes; cells = cell_rows_in cells; blocks = block_rows_in blocks; steps = step_rows_in steps }

abbrev pub lent_tables : Tables → BookTables
lent_tables t = tables_in t.c t.shapes.now t.cells.now t.blocks.now t.steps.now

-- What stands for a row in the book; whether its kind is one of its table's; whether a field that its kind does not use is not 0.
pub record Row : Type 0 where
  pub bytes : List ℕ
  pub known : Bool
  pub spare : Bool

unfoldable pub some_nonzero : List ℕ → Bool
some_nonzero [] = false
some_nonzero (x ∷ xs) = either (not (eqb x 0)) (some_nonzero xs)

-- The row of a table of group g, by its kind and its fields, those first that the kind uses: as many bytes as a record of the kind has. "A
-- nonzero field that its kind doesn't use" is spare. One whose kind is not of the group "counts as one byte of length".
unfoldable pub row_of : ℕ → ℕ → List ℕ → Row
row_of g k fields =
    when eqb (group k) g
    then record { bytes = take (span k) (k ∷ fields); known = true; spare = some_nonzero (drop (span k) (k ∷ fields)) }
    else record { bytes = k ∷ []; known = false; spare = false }

abbrev pub c_row : Label → Row
c_row c = row_of c_group c_kind (c.0 ∷ [])

abbrev pub shape_row : ShapeRow → Row
shape_row r = row_of shape_group r.kind (r.x ∷ r.y ∷ [])

abbrev pub cell_row : CellRow → Row
cell_row r = row_of cell_group cell_kind (r.shape ∷ r.label ∷ r.kind ∷ number_bytes r.number)

abbrev pub block_row : BlockRow → Row
block_row r = row_of block_group block_kind (r.bound ∷ [])

-- put uses a register and the number, every other kind some of x, y and z
abbrev pub step_fields : StepRow → List ℕ
step_fields r = when eqb r.kind put_kind then r.x ∷ (number_bytes r.number ++ (r.y ∷ r.z ∷ [])) else r.x ∷ r.y ∷ r.z ∷ number_bytes r.number

abbrev pub step_row : StepRow → Row
step_row r = row_of step_group r.kind (step_fields r)

-- "Each block row gives its step count." Step rows that no block counts stand last: they count for the length.
unfoldable pub block_rows : List BlockRow → List StepRow → List Row
block_rows [] steps = map step_row steps
block_rows (b ∷ bs) steps = block_row b ∷ (map step_row (take b.steps steps) ++ block_rows bs (drop b.steps steps))

-- "the records in group order"
unfoldable pub rows : BookTables → List Row
rows t = c_row t.c ∷ (map shape_row t.shapes ++ (map cell_row t.cells ++ block_rows t.blocks t.steps))

abbrev pub packed_rows : List Row → List ℕ
packed_rows rs = packed (λ (r : Row). r.bytes) rs

abbrev pub bytes_of : BookTables → List ℕ
bytes_of t = packed_rows (rows t)

unfoldable pub total : List BlockRow → ℕ
total [] = 0
total (b ∷ bs) = b.steps + total bs
