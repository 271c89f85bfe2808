-- A row that is sound is at fault in no stage: a case for each kind.
--     Sits                        what is said of a row alone, of group g, after m shapes
--     c_sits, shape_sits, ..      a row of each table
-- Assumes nothing.
use mathlib.Core.Path.{◌≡◌, refl}
use mathlib.Core.Bool.{Bool, true, false}
use mathlib.Core.List.{List, [], ◌∷◌, ◌++◌, map}
use Prim.Native.Nat.{ℕ, zero, suc, ◌+◌, ◌*◌, ◌/◌, ◌%◌, ◌<◌, ◌≤◌}
use native.Mathlib.Omega.{arith}
use lib.Dec.{ltb}
use lib.ListN.{length, get_or, length-map}
use borrow.Author.Tests.{le-ltb, lt-ltb, lt-leb}
use Rattle.labels.specs.declared.Label.{Label}
use Rattle.book.specs.Control.{both, either}
use Rattle.book.specs.Kinds.{span, group, limits}
use Rattle.book.specs.Records.{number_at}
use Rattle.book.specs.Book.{value_of, declared_at, step_at}
use Rattle.book.specs.Refusals.{above, out_of_range, value_named, cell_named, step_named, dangling}
use Rattle.rows.specs.Rows.{ShapeRow, CellRow, BlockRow, StepRow, Row, row_of, c_row, shape_row, cell_row, block_row, step_row}
use Rattle.rows.proofs.Seen.{row_group}
use Rattle.vetting.specs.Asked.{CellShape, ShapeSound, plain_shape, code_shape, cell_shape, ValueSound, plain, cell, code, CellSound, BlockSound, StepSound}
use Rattle.vetting.specs.Asked.{put_step, name_step, code_step, add_step, new_step, read_step, write_step, relabel_step, lower_step, start_step, exec_step, choose_step}

-- the fields of a row: none is above its largest value
one : (a l : ℕ) → a ≤ l → either (ltb l a) false ≡ false
unfolding either
one a l h = simp (le-ltb l a h)

more : (a l : ℕ) (b : Bool) → a ≤ l → b ≡ false → either (ltb l a) b ≡ false
unfolding either
more a l b h e = simp (le-ltb l a h, e)

-- the bytes of a number are bytes
number_narrow : (n : ℕ) → either (ltb 255 (n % 256)) (either (ltb 255 (n / 256 % 256)) (either (ltb 255 (n / 65536 % 256)) (either (ltb 255 (n / 16777216 % 256)) false))) ≡ false
number_narrow n =
    more (n % 256) 255 _ (omega arith) (more (n / 256 % 256) 255 _ (omega arith) (more (n / 65536 % 256) 255 _ (omega arith) (one (n / 16777216 % 256) 255 (omega arith))))

-- a number that names is small: its bytes make it
small : (n : ℕ) → n < 256 → n % 256 + 256 * (n / 256 % 256) + 65536 * (n / 65536 % 256) + 16777216 * (n / 16777216 % 256) ≡ n
small n h = omega arith

-- a shape row that is a cell shape is one of the rows
kind_there : (l : List ℕ) (i : ℕ) → 0 < get_or l i 0 → i < length l
kind_there [] i h = absurd (omega arith)
kind_there (x ∷ l) zero h = omega arith
kind_there (x ∷ l) (suc i) h = let k = kind_there l i h in omega arith

-- in a book of these cell shapes, and of so many cells and blocks
module _ (is_cell_shape : ℕ → Bool) (cells blocks : ℕ) where
  pub record Sits (g m : ℕ) (r : Row) : Type 0 where
    pub of : row_group r ≡ g
    pub known : r.known ≡ true
    pub narrow : (behind : List ℕ) → out_of_range (r.bytes ++ behind) 0 ≡ false
    pub named : (behind : List ℕ) → dangling is_cell_shape cells blocks (r.bytes ++ behind) m 0 ≡ false

  pub c_sits : (c : Label) → c.0 ≤ 14 → Sits 1 0 (c_row c)
  unfolding row_of group span out_of_range above limits dangling
  c_sits c h = record { of = refl; known = refl; narrow = λ b. one c.0 14 h; named = λ b. refl }

  shape_kind : (i k x y : ℕ) → i ≤ 32 → ShapeSound i k x y → Sits 2 i (row_of 2 k (x ∷ y ∷ []))
  unfolding row_of group span out_of_range above limits dangling
  shape_kind i k x y h (plain_shape e) = rw e (record { of = refl; known = refl; narrow = λ b. refl; named = λ b. refl })
  shape_kind i k x y h (code_shape e l) = rw e (record { of = refl; known = refl; narrow = λ b. one x 15 l; named = λ b. refl })
  shape_kind i k x y h (cell_shape e l m) =
      rw e (record { of = refl; known = refl; narrow = λ b. more x 255 _ (omega arith) (one y 15 m); named = λ b. lt-leb i x l })

  pub shape_sits : (i : ℕ) (r : ShapeRow) → i ≤ 32 → ShapeSound i r.kind r.x r.y → Sits 2 i (shape_row r)
  shape_sits i r h s = shape_kind i r.kind r.x r.y h s

  pub block_sits : (m : ℕ) (r : BlockRow) → BlockSound r → Sits 4 m (block_row r)
  unfolding row_of group span out_of_range above limits dangling
  block_sits m r h = record { of = refl; known = refl; narrow = λ b. one r.bound 15 h.bounded; named = λ b. refl }

  module _ (shapes : List ShapeRow) (shaped : (i : ℕ) → CellShape shapes i → is_cell_shape i ≡ true) (few_shapes : length shapes ≤ 32) (few_cells : cells ≤ 32)
      (few_blocks : blocks ≤ 64) where
    shape_there : (i : ℕ) → CellShape shapes i → i ≤ 255
    shape_there i h =
        let kinds = map (λ (r : ShapeRow). r.kind) shapes in
        let k = kind_there kinds i (omega (arith, h.is)) in
        omega (arith, length-map shapes (λ (r : ShapeRow). r.kind))

    value_kind : (k n : ℕ) → ValueSound cells blocks k n → k ≤ 2
    value_kind k n (plain e) = omega arith
    value_kind k n (cell e l) = omega arith
    value_kind k n (code e l) = omega arith

    value_named_lem : (k n : ℕ) → ValueSound cells blocks k n
        → value_named cells blocks (value_of k (n % 256 + 256 * (n / 256 % 256) + 65536 * (n / 65536 % 256) + 16777216 * (n / 16777216 % 256))) ≡ true
    unfolding value_named value_of
    value_named_lem k n (plain e) = rw e refl
    value_named_lem k n (cell e l) = rw (e, small n (omega arith)) (lt-ltb n cells l)
    value_named_lem k n (code e l) = rw (e, small n (omega arith)) (lt-ltb n blocks l)

    pub cell_sits : (m : ℕ) (r : CellRow) → CellSound shapes cells blocks r → Sits 3 m (cell_row r)
    unfolding row_of group span out_of_range above limits dangling cell_named declared_at number_at both
    cell_sits m r h =
        record {
          of = refl;
          known = refl;
          narrow =
              λ b. more r.shape 255 _ (shape_there r.shape h.shaped) (more r.label 15 _ h.labelled
              (more r.kind 2 _ (value_kind r.kind r.number h.valued) (number_narrow r.number)));
          named = λ b. simp (shaped r.shape h.shaped, value_named_lem r.kind r.number h.valued);
        }

    step_kind : (m k x y z n : ℕ) → StepSound shapes cells blocks k x y z → Sits 5 m (step_row (record { kind = k; x = x; y = y; z = z; number = n }))
    unfolding row_of group span out_of_range above limits dangling step_named step_at number_at both
    step_kind m k x y z n (put_step e a) = rw e (record { of = refl; known = refl; narrow = λ b. more x 7 _ a (number_narrow n); named = λ b. refl })
    step_kind m k x y z n (name_step e a h) =
        rw e (record { of = refl; known = refl; narrow = λ b. more x 7 _ a (one y 255 (omega arith)); named = λ b. simp (lt-ltb y cells h) })
    step_kind m k x y z n (code_step e a h) =
        rw e (record { of = refl; known = refl; narrow = λ b. more x 7 _ a (one y 255 (omega arith)); named = λ b. simp (lt-ltb y blocks h) })
    step_kind m k x y z n (add_step e a c d) =
        rw e (record { of = refl; known = refl; narrow = λ b. more x 7 _ a (more y 7 _ c (one z 7 d)); named = λ b. refl })
    step_kind m k x y z n (new_step e a h d) =
        rw e (record { of = refl; known = refl; narrow = λ b. more x 7 _ a (more y 255 _ (shape_there y h) (one z 7 d)); named = λ b. simp (shaped y h) })
    step_kind m k x y z n (read_step e a c) = rw e (record { of = refl; known = refl; narrow = λ b. more x 7 _ a (one y 7 c); named = λ b. refl })
    step_kind m k x y z n (write_step e a c) = rw e (record { of = refl; known = refl; narrow = λ b. more x 7 _ a (one y 7 c); named = λ b. refl })
    step_kind m k x y z n (relabel_step e a c) = rw e (record { of = refl; known = refl; narrow = λ b. more x 7 _ a (one y 15 c); named = λ b. refl })
    step_kind m k x y z n (lower_step e a) = rw e (record { of = refl; known = refl; narrow = λ b. one x 15 a; named = λ b. refl })
    step_kind m k x y z n (start_step e h) =
        rw e (record { of = refl; known = refl; narrow = λ b. one x 255 (omega arith); named = λ b. simp (lt-ltb x blocks h) })
    step_kind m k x y z n (exec_step e a) = rw e (record { of = refl; known = refl; narrow = λ b. one x 7 a; named = λ b. refl })
    step_kind m k x y z n (choose_step e a h i) =
        rw e
        (record {
          of = refl;
          known = refl;
          narrow = λ b. more x 7 _ a (more y 255 _ (omega arith) (one z 255 (omega arith)));
          named = λ b. simp (lt-ltb y blocks h, lt-ltb z blocks i);
        })

    pub step_sits : (m : ℕ) (r : StepRow) → StepSound shapes cells blocks r.kind r.x r.y r.z → Sits 5 m (step_row r)
    step_sits m r h = step_kind m r.kind r.x r.y r.z r.number h
