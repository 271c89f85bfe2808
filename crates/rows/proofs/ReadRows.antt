-- What is read of the records of tables whose rows are all known.
--     shape_part, cell_part, block_part                 the rows of a table and of those behind it
--     IsKnown, shape_of, step_of, steps_not          a row that is known is of its table's group, and steps are of no other
--     read, past_shapes, past_cells, past_blocks     what is read of a group's records, past the tables of other groups
--     seen_long, blocks_long                         how many are read of a table, and of the blocks
-- Assumes nothing.
use mathlib.Core.Path.{◌≡◌, sym, ap, ◌∙◌}
use mathlib.Core.Bool.{true, not}
use mathlib.Core.List.{List, [], ◌∷◌, ◌++◌, map, append-nil}
use Prim.Native.Nat.{ℕ, ◌+◌}
use native.Mathlib.Omega.{arith}
use lib.ListN.{length, take, drop}
use borrow.Author.Tests.{not-false}
use Rattle.std.specs.Prelude.{None}
use Rattle.book.specs.Book.{group_of}
use Rattle.book.proofs.Every.{All, all_each, all_map}
use Rattle.rows.specs.Rows.{BookTables, ShapeRow, BlockRow, StepRow, Row, c_row, shape_row, cell_row, block_row, step_row, step_fields, block_rows, rows, bytes_of}
use Rattle.rows.specs.Write.{unknown_fault}
use Rattle.rows.proofs.Packs.{none_bad, rows_sized, all_front, all_behind, of_rows}
use Rattle.rows.proofs.Seen.{row_group, known_group, c_group_lem, cell_group_lem, block_group_lem, Views, seen, seen_is, seen_hit, seen_miss, seen_other}

module _ (t : BookTables) where
  abbrev pub block_part : List Row
  block_part = block_rows t.blocks t.steps

  abbrev pub cell_part : List Row
  cell_part = map cell_row t.cells ++ block_part

  abbrev pub shape_part : List Row
  shape_part = map shape_row t.shapes ++ cell_part

abbrev pub IsKnown : Row → Type 0
IsKnown r = r.known ≡ true

pub shape_of : (r : ShapeRow) → IsKnown (shape_row r) → row_group (shape_row r) ≡ 2
shape_of r k = known_group 2 r.kind (r.x ∷ r.y ∷ []) (omega arith) k

pub step_of : (r : StepRow) → IsKnown (step_row r) → row_group (step_row r) ≡ 5
step_of r k = known_group 5 r.kind (step_fields r) (omega arith) k

-- steps are of no other group
pub steps_not : (g : ℕ) → (5 ≡ g → ⊥) → (ss : List StepRow) → All IsKnown (map step_row ss) → All (λ a. row_group (step_row a) ≡ g → ⊥) ss
steps_not g n = of_rows IsKnown step_row (λ a. row_group (step_row a) ≡ g → ⊥) (λ a f e. n (sym (step_of a f) ∙ e))

module _ {X : Type 0} (g : ℕ) (at : List ℕ → ℕ → X) (view : Row → List Row → X) where
  steps_other : (5 ≡ g → ⊥) → (ss : List StepRow) → All IsKnown (map step_row ss) → seen g at view (map step_row ss) ≡ []
  unfolding seen
  steps_other n ss h = ap (seen g at view) (sym (append-nil (map step_row ss))) ∙ seen_other g at view step_row ss [] (steps_not g n ss h)

  blocks_other : (4 ≡ g → ⊥) → (5 ≡ g → ⊥) → (bs : List BlockRow) (ss : List StepRow) → All IsKnown (block_rows bs ss) → seen g at view (block_rows bs ss) ≡ []
  unfolding block_rows
  blocks_other m n [] ss h = steps_other n ss h
  blocks_other m n (b ∷ bs) ss h =
      let front = take b.steps ss in
      let behind = drop b.steps ss in
      seen_miss g at view (block_row b) (map step_row front ++ block_rows bs behind) (λ e. m (sym (block_group_lem b) ∙ e))
      ∙ seen_other g at view step_row front (block_rows bs behind) (steps_not g n front (all_front IsKnown (map step_row front) (block_rows bs behind) h.1))
      ∙ blocks_other m n bs behind (all_behind IsKnown (map step_row front) (block_rows bs behind) h.1)

  -- how many are read
  pub seen_long : {A : Type 0} (row : A → Row) (l : List A) (rest : List Row) → All (λ a. row_group (row a) ≡ g) l
      → length (seen g at view (map row l ++ rest)) ≡ length l + length (seen g at view rest)
  seen_long row [] rest h = omega arith
  seen_long row (a ∷ l) rest h =
      let e = ap length (seen_hit g at view (row a) (map row l ++ rest) h.0) in
      let i = seen_long row l rest h.1 in
      omega arith

module _ {X : Type 0} (at : List ℕ → ℕ → X) (view : Row → List Row → X) where
  pub blocks_long : (bs : List BlockRow) (ss : List StepRow) → All IsKnown (block_rows bs ss) → length (seen 4 at view (block_rows bs ss)) ≡ length bs
  unfolding block_rows
  blocks_long [] ss h = ap length (steps_other 4 at view (λ e. omega arith) ss h)
  blocks_long (b ∷ bs) ss h =
      let front = take b.steps ss in
      let behind = drop b.steps ss in
      let rest = block_rows bs behind in
      let e = ap length (seen_hit 4 at view (block_row b) (map step_row front ++ rest) (block_group_lem b)) in
      let f = ap length (seen_other 4 at view step_row front rest (steps_not 4 (λ e. omega arith) front (all_front IsKnown (map step_row front) rest h.1))) in
      let i = blocks_long bs behind (all_behind IsKnown (map step_row front) rest h.1) in
      omega arith

module _ (t : BookTables) (known : unknown_fault (rows t) ≡ None) where
  all_known : All IsKnown (c_row t.c ∷ shape_part t)
  unfolding rows
  all_known = all_map (λ r n. not-false _ n) (rows t) (none_bad (λ r. not r.known) 0 (rows t) known)

  pub shapes_known : All IsKnown (map shape_row t.shapes)
  shapes_known = all_front IsKnown (map shape_row t.shapes) (cell_part t) all_known.1

  pub blocks_known : All IsKnown (block_part t)
  blocks_known = all_behind IsKnown (map cell_row t.cells) (block_part t) (all_behind IsKnown (map shape_row t.shapes) (cell_part t) all_known.1)

  module _ {X : Type 0} (g : ℕ) (at : List ℕ → ℕ → X) (view : Row → List Row → X) where
    -- what is read of a group's records
    pub read : Views g at view → (1 ≡ g → ⊥) → map (at (bytes_of t)) (group_of (bytes_of t) g) ≡ seen g at view (shape_part t)
    unfolding group_of rows
    read v n =
        seen_is g at view v (rows t) [] (rows_sized t known) ∙ seen_miss g at view (c_row t.c) (shape_part t) (λ e. n (sym (c_group_lem t.c) ∙ e))

    -- which are none of the shapes' and of the cells', where it is another group
    pub past_shapes : (2 ≡ g → ⊥) → seen g at view (shape_part t) ≡ seen g at view (cell_part t)
    past_shapes n =
        seen_other g at view shape_row t.shapes (cell_part t)
        (of_rows IsKnown shape_row (λ a. row_group (shape_row a) ≡ g → ⊥) (λ a f e. n (sym (shape_of a f) ∙ e)) t.shapes shapes_known)

    pub past_cells : (3 ≡ g → ⊥) → seen g at view (cell_part t) ≡ seen g at view (block_part t)
    past_cells n =
        seen_other g at view cell_row t.cells (block_part t) (all_each (λ a. row_group (cell_row a) ≡ g → ⊥) (λ a e. n (sym (cell_group_lem a) ∙ e)) t.cells)

    pub past_blocks : (4 ≡ g → ⊥) → (5 ≡ g → ⊥) → seen g at view (block_part t) ≡ []
    past_blocks m n = blocks_other g at view m n t.blocks t.steps blocks_known
