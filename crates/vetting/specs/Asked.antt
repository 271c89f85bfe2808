-- What the quick test of tables promises the writer, and what its functions promise it of each table. No call that a user makes speaks of it.
--     SoundTables                                 tables of which refusals 2, 3, 4 and 6 do not hold, nor 5 for a field above its largest value
--     CellShape                                   a shape row is a cell shape
--     ShapeSound, ValueSound, CellSound, ..       a row that no refusal holds of
--     Each, ShapesSound, CellsSound, ..           the rows of a table; their number
--     shapes_of, cells_of, ..                     the rows of a table that is lent row by row
-- Assumes nothing.
use Rattle.std.specs.Prelude.{ℕ, suc, ◌<◌, ◌≤◌, ◌≡◌, true, List, [], ◌∷◌, map, eqb, length, get_or}
use Rattle.std.specs.Prelude.{None}
use Rattle.book.specs.Numbers.{plain_shape_kind, code_shape_kind, cell_shape_kind, put_kind, name_kind, code_kind, add_kind, new_kind, read_kind, write_kind, relabel_kind}
use Rattle.book.specs.Numbers.{lower_kind, start_kind, exec_kind, choose_kind, plain_value, cell_value, code_value, max_label, max_register, max_shapes, max_cells, max_blocks, max_steps}
use Rattle.book.specs.Refusals.{order_fault, count_fault, range_fault, name_fault}
use Rattle.rows.specs.Rows.{ShapeRow, CellRow, BlockRow, StepRow, BookTables, shape_row_in, cell_row_in, block_row_in, step_row_in, rows, bytes_of, total}
use Rattle.rows.specs.Write.{unknown_fault}

pub record SoundTables (t : BookTables) : Type 0 where
  pub counted : eqb (total t.blocks) (length t.steps) ≡ true
  pub known : unknown_fault (rows t) ≡ None
  pub ordered : order_fault (bytes_of t) ≡ None
  pub few : count_fault (bytes_of t) ≡ None
  pub narrow : range_fault (bytes_of t) ≡ None
  pub named : name_fault (bytes_of t) ≡ None

-- a shape row is a cell shape
pub record CellShape (shapes : List ShapeRow) (i : ℕ) : Type 0 where
  pub is : get_or (map (λ (r : ShapeRow). r.kind) shapes) i 0 ≡ cell_shape_kind

-- the shape row of number i
pub data ShapeSound (i k x y : ℕ) : Type 0 where
  plain_shape : k ≡ plain_shape_kind → ShapeSound i k x y
  code_shape : k ≡ code_shape_kind → x ≤ max_label → ShapeSound i k x y
  cell_shape : k ≡ cell_shape_kind → x < i → y ≤ max_label → ShapeSound i k x y

-- the value of a cell row, beside so many cells and blocks
pub data ValueSound (cells blocks k n : ℕ) : Type 0 where
  plain : k ≡ plain_value → ValueSound cells blocks k n
  cell : k ≡ cell_value → n < cells → ValueSound cells blocks k n
  code : k ≡ code_value → n < blocks → ValueSound cells blocks k n

pub record CellSound (shapes : List ShapeRow) (cells blocks : ℕ) (r : CellRow) : Type 0 where
  pub shaped : CellShape shapes r.shape
  pub labelled : r.label ≤ max_label
  pub valued : ValueSound cells blocks r.kind r.number

pub record BlockSound (r : BlockRow) : Type 0 where
  pub bounded : r.bound ≤ max_label
  pub short : r.steps ≤ max_steps

-- a step row, by its kind and its first three fields
pub data StepSound (shapes : List ShapeRow) (cells blocks k x y z : ℕ) : Type 0 where
  put_step : k ≡ put_kind → x ≤ max_register → StepSound shapes cells blocks k x y z
  name_step : k ≡ name_kind → x ≤ max_register → y < cells → StepSound shapes cells blocks k x y z
  code_step : k ≡ code_kind → x ≤ max_register → y < blocks → StepSound shapes cells blocks k x y z
  add_step : k ≡ add_kind → x ≤ max_register → y ≤ max_register → z ≤ max_register → StepSound shapes cells blocks k x y z
  new_step : k ≡ new_kind → x ≤ max_register → CellShape shapes y → z ≤ max_register → StepSound shapes cells blocks k x y z
  read_step : k ≡ read_kind → x ≤ max_register → y ≤ max_register → StepSound shapes cells blocks k x y z
  write_step : k ≡ write_kind → x ≤ max_register → y ≤ max_register → StepSound shapes cells blocks k x y z
  relabel_step : k ≡ relabel_kind → x ≤ max_register → y ≤ max_label → StepSound shapes cells blocks k x y z
  lower_step : k ≡ lower_kind → x ≤ max_label → StepSound shapes cells blocks k x y z
  start_step : k ≡ start_kind → x < blocks → StepSound shapes cells blocks k x y z
  exec_step : k ≡ exec_kind → x ≤ max_register → StepSound shapes cells blocks k x y z
  choose_step : k ≡ choose_kind → x ≤ max_register → y < blocks → z < blocks → StepSound shapes cells blocks k x y z

-- each row of a table, by its number
module _ {A : Type 0} (P : ℕ → A → Type 0) where
  abbrev pub Each : ℕ → List A → Type 0
  Each i [] = Unit {0}
  Each i (r ∷ rs) = P i r × Each (suc i) rs

pub record ShapesSound (l : List ShapeRow) : Type 0 where
  pub few : length l ≤ max_shapes
  pub each : Each (λ i (r : ShapeRow). ShapeSound i r.kind r.x r.y) 0 l

pub record CellsSound (l : List CellRow) (shapes : List ShapeRow) (blocks : ℕ) : Type 0 where
  pub few : length l ≤ max_cells
  pub each : Each (λ i r. CellSound shapes (length l) blocks r) 0 l

pub record BlocksSound (l : List BlockRow) (steps : ℕ) : Type 0 where
  pub some : 0 < length l
  pub few : length l ≤ max_blocks
  pub each : Each (λ i r. BlockSound r) 0 l
  pub counted : total l ≡ steps

pub record StepsSound (l : List StepRow) (shapes : List ShapeRow) (cells blocks : ℕ) : Type 0 where
  pub each : Each (λ i (r : StepRow). StepSound shapes cells blocks r.kind r.x r.y r.z) 0 l

-- the rows of a table that is lent row by row
abbrev pub shapes_of : List (List ℕ) → List ShapeRow
shapes_of l = map (λ r. shape_row_in r 0) l

abbrev pub cells_of : List (List ℕ) → List CellRow
cells_of l = map (λ r. cell_row_in r 0) l

abbrev pub blocks_of : List (List ℕ) → List BlockRow
blocks_of l = map (λ r. block_row_in r 0) l

abbrev pub steps_of : List (List ℕ) → List StepRow
steps_of l = map (λ r. step_row_in r 0) l
