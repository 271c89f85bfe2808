-- The parsed book: what stands at each record, and the whole as data, of which the typing rules and the machine speak.
--     group_of, steps_from        the records of a group; the steps of a block
--     shape_at, .., block_at      what a record says
--     kind_of, number_of          the kind and the number of a value
--     Book, parse               the book
-- "Each is numbered from 0": a number is a place in one of these lists. Assumes nothing.
use Rattle.std.specs.Prelude.{ℕ, ◌+◌, List, map, eqb}
use Rattle.labels.specs.declared.Label.{Label}
use Rattle.labels.specs.Labels.{label, trust}
use Rattle.book.specs.declared.Shape.{Shape}
use Rattle.book.specs.declared.Value.{Value}
use Rattle.book.specs.declared.Value.TheVariants.{Plain, CellName, CodeName}
use Rattle.book.specs.declared.Declared.{Declared}
use Rattle.book.specs.declared.Step.{Step}
use Rattle.book.specs.declared.Step.TheVariants.{Put, Name, Code, Add, New, Read, Write, Relabel, Lower, Start, Exec, Choose}
use Rattle.book.specs.Numbers.{plain_shape_kind, code_shape_kind, cell_shape_kind, put_kind, name_kind, code_kind, add_kind, new_kind, read_kind, write_kind, relabel_kind}
use Rattle.book.specs.Numbers.{lower_kind, start_kind, exec_kind, shape_group, cell_group, block_group, step_group, plain_value, cell_value, code_value}
use Rattle.book.specs.Control.{when◌then◌else◌, those, while}
use Rattle.book.specs.Records.{byte_at, number_at, records, records_from, in_group}

-- the records of group g
unfoldable pub group_of : List ℕ → ℕ → List ℕ
group_of s g = those (in_group s g) (records s)

abbrev pub shapes_of : List ℕ → List ℕ
shapes_of s = group_of s shape_group

abbrev pub cells_of : List ℕ → List ℕ
cells_of s = group_of s cell_group

abbrev pub blocks_of : List ℕ → List ℕ
blocks_of s = group_of s block_group

-- the steps that stand from o on: "Its steps follow, perhaps none."
unfoldable pub steps_from : List ℕ → ℕ → List ℕ
steps_from s o = while (in_group s step_group) (records_from s o)

-- "16 plain shape, no body; 17 code shape: bound; 18 cell shape: content shape, trust"; what a kind does not have is 0
unfoldable pub shape_at : List ℕ → ℕ → Shape
shape_at s o =
    when eqb (byte_at s o) code_shape_kind then record { kind = code_shape_kind; bound = label (byte_at s (o + 1)); content = 0; trust = trust 0 }
    else when eqb (byte_at s o) cell_shape_kind then record { kind = cell_shape_kind; bound = label 0; content = byte_at s (o + 1); trust = trust (byte_at s (o + 2)) }
    else record { kind = plain_shape_kind; bound = label 0; content = 0; trust = trust 0 }

-- "value kind (0 plain, 1 cell, 2 code), number (for kinds 1 and 2 the cell or block number)"
unfoldable pub value_of : ℕ → ℕ → Value
value_of k n = when eqb k plain_value then Plain n else when eqb k cell_value then CellName n else CodeName n

-- "0 plain, 1 cell, 2 code"
abbrev pub kind_of : Value → ℕ
kind_of (Plain n) = plain_value
kind_of (CellName n) = cell_value
kind_of (CodeName n) = code_value

abbrev pub number_of : Value → ℕ
number_of (Plain n) = n
number_of (CellName n) = n
number_of (CodeName n) = n

-- "32 cell: shape, label, value kind, number"
unfoldable pub declared_at : List ℕ → ℕ → Declared
declared_at s o =
    record { shape = byte_at s (o + 1); label = label (byte_at s (o + 2)); value = value_of (byte_at s (o + 3)) (number_at s (o + 4)) }

-- "64 put r, number; 65 name r, cell; 66 code r, block; 67 add r, a, b; 68 new r, shape, a; 69 read r, w; 70 write w, a; 71 relabel
-- w, label; 72 lower label; 73 start block; 74 exec w". 02, Four: "Kind 75, choose r, block, block"
unfoldable pub step_at : List ℕ → ℕ → Step
step_at s o =
    let k = byte_at s o in
    let x = byte_at s (o + 1) in
    let y = byte_at s (o + 2) in
    let z = byte_at s (o + 3) in
    when eqb k put_kind then Put x (number_at s (o + 2))
    else when eqb k name_kind then Name x y
    else when eqb k code_kind then Code x y
    else when eqb k add_kind then Add x y z
    else when eqb k new_kind then New x y z
    else when eqb k read_kind then Read x y
    else when eqb k write_kind then Write x y
    else when eqb k relabel_kind then Relabel x (label y)
    else when eqb k lower_kind then Lower (label x)
    else when eqb k start_kind then Start x
    else when eqb k exec_kind then Exec x
    else Choose x y z

pub record Block : Type 0 where
  pub bound : Label
  pub steps : List Step

pub record Book : Type 0 where
  pub c : Label
  pub shapes : List Shape
  pub cells : List Declared
  pub blocks : List Block

-- "48 block: bound, the label it is typed for"
unfoldable pub block_at : List ℕ → ℕ → Block
block_at s o = record { bound = label (byte_at s (o + 1)); steps = map (step_at s) (steps_from s (o + 2)) }

-- "1: C. First record, once."
unfoldable pub parse : List ℕ → Book
parse s =
    record {
      c = label (byte_at s 1);
      shapes = map (shape_at s) (shapes_of s);
      cells = map (declared_at s) (cells_of s);
      blocks = map (block_at s) (blocks_of s);
    }
