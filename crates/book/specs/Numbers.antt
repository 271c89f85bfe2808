-- The numbers of the format: 01, "The job book".
--     c_kind, .., choose_kind            the kinds of record
--     no_group, .., step_group           the groups
--     plain_value, .., code_value        the kinds of value
--     max_label, .., any_byte, number    the fields, each by its largest value
--     max_book_bytes, .., max_steps       how much a book may have
-- Assumes nothing.
use Rattle.std.specs.Prelude.{ℕ, List, [], ◌∷◌}
use Rattle.labels.specs.Labels.{top_label}

-- "Kinds in decimal"
abbrev pub c_kind : ℕ
c_kind = 1

abbrev pub plain_shape_kind : ℕ
plain_shape_kind = 16

abbrev pub code_shape_kind : ℕ
code_shape_kind = 17

abbrev pub cell_shape_kind : ℕ
cell_shape_kind = 18

abbrev pub cell_kind : ℕ
cell_kind = 32

abbrev pub block_kind : ℕ
block_kind = 48

abbrev pub put_kind : ℕ
put_kind = 64

abbrev pub name_kind : ℕ
name_kind = 65

abbrev pub code_kind : ℕ
code_kind = 66

abbrev pub add_kind : ℕ
add_kind = 67

abbrev pub new_kind : ℕ
new_kind = 68

abbrev pub read_kind : ℕ
read_kind = 69

abbrev pub write_kind : ℕ
write_kind = 70

abbrev pub relabel_kind : ℕ
relabel_kind = 71

abbrev pub lower_kind : ℕ
lower_kind = 72

abbrev pub start_kind : ℕ
start_kind = 73

abbrev pub exec_kind : ℕ
exec_kind = 74

-- 02, Four: "Kind 75, choose r, block, block"
abbrev pub choose_kind : ℕ
choose_kind = 75

-- "Groups stand in this order: C, shapes, cells, blocks", so they are compared; the steps are one more, and what is no kind is of none
abbrev pub no_group : ℕ
no_group = 0

abbrev pub c_group : ℕ
c_group = 1

abbrev pub shape_group : ℕ
shape_group = 2

abbrev pub cell_group : ℕ
cell_group = 3

abbrev pub block_group : ℕ
block_group = 4

abbrev pub step_group : ℕ
step_group = 5

-- "value kind (0 plain, 1 cell, 2 code)"
abbrev pub plain_value : ℕ
plain_value = 0

abbrev pub cell_value : ℕ
cell_value = 1

abbrev pub code_value : ℕ
code_value = 2

-- "A label, bound or trust is above 15, C above 14, a register above 7, or a value kind above 2": refusal 5. A field is told by its
-- largest value.
abbrev pub max_label : ℕ
max_label = top_label.0

abbrev pub max_c : ℕ
max_c = 14

abbrev pub max_register : ℕ
max_register = 7

abbrev pub max_value_kind : ℕ
max_value_kind = 2

-- any byte
abbrev pub any_byte : ℕ
any_byte = 255

-- "a number is 4 bytes"
abbrev pub number : List ℕ
number = any_byte ∷ any_byte ∷ any_byte ∷ any_byte ∷ []

-- "longer than 32,768 bytes"; "beyond 32 shapes, 32 cells, 64 blocks or 64 steps in a block"
abbrev pub max_book_bytes : ℕ
max_book_bytes = 32768

abbrev pub max_shapes : ℕ
max_shapes = 32

abbrev pub max_cells : ℕ
max_cells = 32

abbrev pub max_blocks : ℕ
max_blocks = 64

abbrev pub max_steps : ℕ
max_steps = 64
