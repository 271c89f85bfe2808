-- The tables of a book that was read: 02, One. "Reading the output gives those tables back."
--     shape_row_of, cell_row_of, step_row_of, block_row_of     the row of what a record says
--     tables_of                                         the tables of a parsed book
--     shape_row_bytes, .., step_row_bytes                  a row as the bytes of a table
-- Assumes nothing.
use Rattle.std.specs.Prelude.{ℕ, List, [], ◌∷◌, ◌++◌, map, eqb, length}
use Rattle.book.specs.declared.Shape.{Shape}
use Rattle.book.specs.declared.Declared.{Declared}
use Rattle.book.specs.declared.Step.{Step}
use Rattle.book.specs.declared.Step.TheVariants.{Put, Name, Code, Add, New, Read, Write, Relabel, Lower, Start, Exec, Choose}
use Rattle.book.specs.Numbers.{plain_shape_kind, code_shape_kind, cell_shape_kind, put_kind, name_kind, code_kind, add_kind, new_kind, read_kind, write_kind, relabel_kind}
use Rattle.book.specs.Numbers.{lower_kind, start_kind, exec_kind, choose_kind}
use Rattle.book.specs.Control.{when◌then◌else◌}
use Rattle.book.specs.Records.{number_bytes}
use Rattle.book.specs.Book.{Book, Block, kind_of, number_of}
use Rattle.rows.specs.Rows.{BookTables, ShapeRow, CellRow, BlockRow, StepRow}

-- "16 plain shape, no body; 17 code shape: bound; 18 cell shape: content shape, trust"
unfoldable pub shape_row_of : Shape → ShapeRow
shape_row_of x =
    when eqb x.kind code_shape_kind then record { kind = code_shape_kind; x = x.bound.0; y = 0 }
    else when eqb x.kind cell_shape_kind then record { kind = cell_shape_kind; x = x.content; y = x.trust.0 }
    else record { kind = plain_shape_kind; x = 0; y = 0 }

-- "32 cell: shape, label, value kind, number"
unfoldable pub cell_row_of : Declared → CellRow
cell_row_of d = record { shape = d.shape; label = d.label.0; kind = kind_of d.value; number = number_of d.value }

abbrev pub step_of : ℕ → ℕ → ℕ → ℕ → ℕ → StepRow
step_of k x y z n = record { kind = k; x = x; y = y; z = z; number = n }

-- "64 put r, number; 65 name r, cell; 66 code r, block; 67 add r, a, b; 68 new r, shape, a; 69 read r, w; 70 write w, a; 71 relabel
-- w, label; 72 lower label; 73 start block; 74 exec w". 02, Four: "Kind 75, choose r, block, block"
unfoldable pub step_row_of : Step → StepRow
step_row_of (Put r n) = step_of put_kind r 0 0 n
step_row_of (Name r k) = step_of name_kind r k 0 0
step_row_of (Code r b) = step_of code_kind r b 0 0
step_row_of (Add r a b) = step_of add_kind r a b 0
step_row_of (New r i a) = step_of new_kind r i a 0
step_row_of (Read r w) = step_of read_kind r w 0 0
step_row_of (Write w a) = step_of write_kind w a 0 0
step_row_of (Relabel w o) = step_of relabel_kind w o.0 0 0
step_row_of (Lower q) = step_of lower_kind q.0 0 0 0
step_row_of (Start b) = step_of start_kind b 0 0 0
step_row_of (Exec w) = step_of exec_kind w 0 0 0
step_row_of (Choose r a b) = step_of choose_kind r a b 0

-- "Each block row gives its step count."
abbrev pub block_row_of : Block → BlockRow
block_row_of b = record { bound = b.bound.0; steps = length b.steps }

unfoldable pub step_rows_of : List Block → List StepRow
step_rows_of [] = []
step_rows_of (b ∷ bs) = map step_row_of b.steps ++ step_rows_of bs

unfoldable pub tables_of : Book → BookTables
tables_of K =
    record {
      c = K.c;
      shapes = map shape_row_of K.shapes;
      cells = map cell_row_of K.cells;
      blocks = map block_row_of K.blocks;
      steps = step_rows_of K.blocks;
    }

-- a row as the bytes of a table
abbrev pub shape_row_bytes : ShapeRow → List ℕ
shape_row_bytes r = r.kind ∷ r.x ∷ r.y ∷ []

abbrev pub cell_row_bytes : CellRow → List ℕ
cell_row_bytes r = r.shape ∷ r.label ∷ r.kind ∷ number_bytes r.number

abbrev pub block_row_bytes : BlockRow → List ℕ
block_row_bytes r = r.bound ∷ number_bytes r.steps

abbrev pub step_row_bytes : StepRow → List ℕ
step_row_bytes r = r.kind ∷ r.x ∷ r.y ∷ r.z ∷ number_bytes r.number
