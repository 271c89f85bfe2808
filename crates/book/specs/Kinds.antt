-- The kinds of record: 01, "The job book". One table has all that a kind fixes.
--     Layout, layouts                  the table: of each kind its group and its fields
--     layout_in, layout_of               the layout of a kind
--     group, limits, span              its group, its fields' largest values, the bytes of its records
-- Assumes nothing.
use Rattle.std.specs.Prelude.{ℕ, suc, true, false, List, [], ◌∷◌, length, eqb}
use Rattle.book.specs.Control.{when◌then◌else◌}
use Rattle.book.specs.Numbers.{c_kind, plain_shape_kind, code_shape_kind, cell_shape_kind, cell_kind, block_kind, put_kind, name_kind, code_kind, add_kind, new_kind, read_kind}
use Rattle.book.specs.Numbers.{write_kind, relabel_kind, lower_kind, start_kind, exec_kind, choose_kind}
use Rattle.book.specs.Numbers.{no_group, c_group, shape_group, cell_group, block_group, step_group}
use Rattle.book.specs.Numbers.{max_label, max_c, max_register, max_value_kind, any_byte, number}

pub record Layout : Type 0 where
  pub kind : ℕ
  pub group : ℕ
  pub limits : List ℕ

abbrev pub layout : ℕ → ℕ → List ℕ → Layout
layout k g ls = record { kind = k; group = g; limits = ls }

-- each kind, its group, and its fields in their order
abbrev pub layouts : List Layout
layouts =
    layout c_kind c_group (max_c ∷ [])
    ∷ layout plain_shape_kind shape_group []
    ∷ layout code_shape_kind shape_group (max_label ∷ [])
    ∷ layout cell_shape_kind shape_group (any_byte ∷ max_label ∷ [])
    ∷ layout cell_kind cell_group (any_byte ∷ max_label ∷ max_value_kind ∷ number)
    ∷ layout block_kind block_group (max_label ∷ [])
    ∷ layout put_kind step_group (max_register ∷ number)
    ∷ layout name_kind step_group (max_register ∷ any_byte ∷ [])
    ∷ layout code_kind step_group (max_register ∷ any_byte ∷ [])
    ∷ layout add_kind step_group (max_register ∷ max_register ∷ max_register ∷ [])
    ∷ layout new_kind step_group (max_register ∷ any_byte ∷ max_register ∷ [])
    ∷ layout read_kind step_group (max_register ∷ max_register ∷ [])
    ∷ layout write_kind step_group (max_register ∷ max_register ∷ [])
    ∷ layout relabel_kind step_group (max_register ∷ max_label ∷ [])
    ∷ layout lower_kind step_group (max_label ∷ [])
    ∷ layout start_kind step_group (any_byte ∷ [])
    ∷ layout exec_kind step_group (max_register ∷ [])
    ∷ layout choose_kind step_group (max_register ∷ any_byte ∷ any_byte ∷ [])
    ∷ []

-- the layout of a kind; what is no kind is of no group, and has no fields
abbrev pub layout_in : List Layout → ℕ → Layout
layout_in [] k = layout k no_group []
layout_in (l ∷ ls) k = elim (eqb l.kind k) [ true ↦ l | false ↦ layout_in ls k ]

abbrev pub layout_of : ℕ → Layout
layout_of k = layout_in layouts k

unfoldable pub group : ℕ → ℕ
group k = (layout_of k).group

unfoldable pub limits : ℕ → List ℕ
limits k = (layout_of k).limits

-- "A record is one byte of kind, then a body whose length the kind fixes." 0 for what is no kind.
unfoldable pub span : ℕ → ℕ
span k = when eqb (layout_of k).group no_group then 0 else suc (length (layout_of k).limits)
