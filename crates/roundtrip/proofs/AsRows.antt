-- What a record says, as a row of its table, is the record: its bytes, known, and with no spare field.
--     c_row_lem, shape_row_lem, cell_row_lem, block_row_lem, step_row_lem     one for each group
-- Assumes nothing.
use mathlib.Core.Path.{◌≡◌, refl, sym, ap, ◌∙◌}
use mathlib.Core.Bool.{Bool, true, false}
use mathlib.Core.List.{List, [], ◌∷◌}
use Prim.Native.Nat.{ℕ, suc, ◌+◌, ◌≤◌}
use native.Mathlib.Omega.{arith}
use lib.Dec.{eqb, ltb}
use borrow.Author.Tests.{eqb-true, eqb-false, ltb-false}
use Rattle.labels.specs.Labels.{label}
use Rattle.book.specs.declared.Shape.{Shape}
use Rattle.book.specs.declared.Step.{Step}
use Rattle.book.specs.Control.{either}
use Rattle.book.specs.Kinds.{span, group, limits}
use Rattle.book.specs.Spans.{Bytes}
use Rattle.book.specs.Records.{byte_at, number_at, number_bytes, cut}
use Rattle.book.specs.Book.{shape_at, declared_at, block_at, step_at, value_of, kind_of}
use Rattle.book.specs.Refusals.{above, out_of_range}
use Rattle.book.proofs.Decoded.{number_is}
use Rattle.book.proofs.Tests.{either_left, either_right}
use Rattle.book.proofs.Digits.{digits}
use Rattle.book.proofs.Groups.{is_c, is_shape, is_cell, is_block, is_step}
use Rattle.book.proofs.Part.{up}
use Rattle.book.proofs.Decoded.{is_code_shape_lem, is_cell_shape_lem, is_plain_shape_lem}
use Rattle.book.proofs.Decoded.{is_put, is_name, is_code, is_add, is_new, is_read, is_write, is_relabel, is_lower, is_start, is_exec, choose_past}
use Rattle.rows.specs.Rows.{Row, row_of, some_nonzero, c_row, shape_row, cell_row, block_row, step_row}
use Rattle.rows.specs.Parsed.{shape_row_of, cell_row_of, block_row_of, step_row_of}
use Rattle.roundtrip.proofs.RecordRows.{row_at, bytes_from, bytes_are}

-- a row of these bytes that is not at fault
abbrev fine : List ℕ → Row
fine l = record { bytes = l; known = true; spare = false }

-- "0 plain, 1 cell, 2 code"
kind_of_lem : (k n : ℕ) → k ≤ 2 → kind_of (value_of k n) ≡ k
unfolding value_of
kind_of_lem k n h = go (eqb k 0) refl (eqb k 1) refl
  where
    go : (a : Bool) → eqb k 0 ≡ a → (b : Bool) → eqb k 1 ≡ b → kind_of (value_of k n) ≡ k
    go true p b q = simp p (sym (eqb-true _ _ p))
    go false p true q = simp (p, q) (sym (eqb-true _ _ q))
    go false p false q =
        let x : (k ≡ 0 → ⊥) = eqb-false _ _ p in
        let y : (k ≡ 1 → ⊥) = eqb-false _ _ q in
        let z : 2 ≡ k = omega arith in
        simp (p, q) z

module _ (s : List ℕ) (o : ℕ) where
  -- "a number is 4 bytes": from the m-th on of the record
  number_in : Bytes s → (m : ℕ) → number_bytes (number_at s (o + m)) ≡ bytes_from s o 4 m
  number_in b m =
      let x : o + m + 1 ≡ o + suc m = omega arith in
      let y : o + m + 2 ≡ o + suc (suc m) = omega arith in
      let z : o + m + 3 ≡ o + suc (suc (suc m)) = omega arith in
      digits s b (o + m) ∙ rw (x, y, z) refl

  -- refusal 5: the kind of a cell's value
  value_kind : byte_at s o ≡ 32 → out_of_range s o ≡ false → byte_at s (o + 3) ≤ 2
  unfolding out_of_range above limits
  value_kind h r =
      let a : above s (o + 1) (255 ∷ 15 ∷ 2 ∷ 255 ∷ 255 ∷ 255 ∷ 255 ∷ []) ≡ false = rw h at r in
      let b = either_right (ltb 255 (byte_at s (o + 1))) _ a in
      let c = either_right (ltb 15 (byte_at s (o + 1 + 1))) _ b in
      let d : byte_at s (o + 1 + 1 + 1) ≤ 2 = ltb-false _ _ (either_left _ _ c) in
      let e : o + 1 + 1 + 1 ≡ o + 3 = omega arith in
      rw e at d

module _ (s : List ℕ) (o : ℕ) (c : cut s o ≡ false) where
  -- x stands in a record of kind k, and its row has these bytes
  told : {A : Type 0} (row : A → Row) (x y : A) → x ≡ y → (k n : ℕ) → byte_at s o ≡ k → span k ≡ suc n → row x ≡ fine (k ∷ bytes_from s o n 1)
      → row y ≡ row_at s o
  unfolding row_at
  told row x y e k n h w r = ap row (sym e) ∙ r ∙ ap fine (sym (bytes_are s o k n h w c))

  pub c_row_lem : group (byte_at s o) ≡ 1 → c_row (label (byte_at s (o + 1))) ≡ row_at s o
  unfolding row_of some_nonzero span group
  c_row_lem g = told c_row _ _ refl 1 1 (is_c _ g) refl refl

  pub block_row_lem : group (byte_at s o) ≡ 4 → block_row (block_row_of (block_at s o)) ≡ row_at s o
  unfolding row_of some_nonzero span group block_at
  block_row_lem g = told (λ b. block_row (block_row_of b)) (block_at s o) _ refl 48 1 (is_block _ g) refl refl

  abbrev as_shape : Shape → Row
  as_shape x = shape_row (shape_row_of x)

  plain_shape_lem : byte_at s o ≡ 16 → as_shape (shape_at s o) ≡ row_at s o
  unfolding row_of some_nonzero either span group shape_row_of
  plain_shape_lem h = told as_shape _ _ (is_plain_shape_lem s o (λ z. omega arith) (λ z. omega arith)) 16 0 h refl refl

  code_shape_lem : byte_at s o ≡ 17 → as_shape (shape_at s o) ≡ row_at s o
  unfolding row_of some_nonzero either span group shape_row_of
  code_shape_lem h = told as_shape _ _ (is_code_shape_lem s o _ refl h) 17 1 h refl refl

  cell_shape_lem : byte_at s o ≡ 18 → as_shape (shape_at s o) ≡ row_at s o
  unfolding row_of some_nonzero either span group shape_row_of
  cell_shape_lem h = told as_shape _ _ (is_cell_shape_lem s o _ _ refl refl h) 18 2 h refl refl

  pub shape_row_lem : group (byte_at s o) ≡ 2 → shape_row (shape_row_of (shape_at s o)) ≡ row_at s o
  shape_row_lem g =
      let k = byte_at s o in
      let r = is_shape k g in
      up k 16 r.0 plain_shape_lem (λ l. up k 17 l code_shape_lem (λ l. cell_shape_lem (omega (arith, r.1))))

  pub cell_row_lem : Bytes s → out_of_range s o ≡ false → group (byte_at s o) ≡ 3 → cell_row (cell_row_of (declared_at s o)) ≡ row_at s o
  unfolding row_of some_nonzero span group cell_row_of declared_at
  cell_row_lem b r g =
      let h = is_cell _ g in
      let k = byte_at s (o + 3) in
      let n = number_at s (o + 4) in
      told (λ d. cell_row (cell_row_of d)) (declared_at s o) _ refl 32 7 h refl
      (rw (number_is k n, kind_of_lem k n (value_kind s o h r)) (ap (λ l. fine (32 ∷ byte_at s (o + 1) ∷ byte_at s (o + 2) ∷ k ∷ l)) (number_in s o b 4)))

  abbrev as_step : Step → Row
  as_step p = step_row (step_row_of p)

  put_row : Bytes s → byte_at s o ≡ 64 → as_step (step_at s o) ≡ row_at s o
  unfolding row_of some_nonzero either span group step_row_of
  put_row b h = told as_step _ _ (is_put s o _ refl _ refl h) 64 5 h refl (ap (λ l. fine (64 ∷ byte_at s (o + 1) ∷ l)) (number_in s o b 2))

  name_row : byte_at s o ≡ 65 → as_step (step_at s o) ≡ row_at s o
  unfolding row_of some_nonzero either span group step_row_of
  name_row h = told as_step _ _ (is_name s o _ refl _ refl h) 65 2 h refl refl

  code_row : byte_at s o ≡ 66 → as_step (step_at s o) ≡ row_at s o
  unfolding row_of some_nonzero either span group step_row_of
  code_row h = told as_step _ _ (is_code s o _ refl _ refl h) 66 2 h refl refl

  add_row : byte_at s o ≡ 67 → as_step (step_at s o) ≡ row_at s o
  unfolding row_of some_nonzero either span group step_row_of
  add_row h = told as_step _ _ (is_add s o _ refl _ refl _ refl h) 67 3 h refl refl

  new_row : byte_at s o ≡ 68 → as_step (step_at s o) ≡ row_at s o
  unfolding row_of some_nonzero either span group step_row_of
  new_row h = told as_step _ _ (is_new s o _ refl _ refl _ refl h) 68 3 h refl refl

  read_row : byte_at s o ≡ 69 → as_step (step_at s o) ≡ row_at s o
  unfolding row_of some_nonzero either span group step_row_of
  read_row h = told as_step _ _ (is_read s o _ refl _ refl h) 69 2 h refl refl

  write_row : byte_at s o ≡ 70 → as_step (step_at s o) ≡ row_at s o
  unfolding row_of some_nonzero either span group step_row_of
  write_row h = told as_step _ _ (is_write s o _ refl _ refl h) 70 2 h refl refl

  relabel_row : byte_at s o ≡ 71 → as_step (step_at s o) ≡ row_at s o
  unfolding row_of some_nonzero either span group step_row_of
  relabel_row h = told as_step _ _ (is_relabel s o _ refl _ refl h) 71 2 h refl refl

  lower_row : byte_at s o ≡ 72 → as_step (step_at s o) ≡ row_at s o
  unfolding row_of some_nonzero either span group step_row_of
  lower_row h = told as_step _ _ (is_lower s o _ refl h) 72 1 h refl refl

  start_row : byte_at s o ≡ 73 → as_step (step_at s o) ≡ row_at s o
  unfolding row_of some_nonzero either span group step_row_of
  start_row h = told as_step _ _ (is_start s o _ refl h) 73 1 h refl refl

  exec_row : byte_at s o ≡ 74 → as_step (step_at s o) ≡ row_at s o
  unfolding row_of some_nonzero either span group step_row_of
  exec_row h = told as_step _ _ (is_exec s o _ refl h) 74 1 h refl refl

  choose_row : byte_at s o ≡ 75 → as_step (step_at s o) ≡ row_at s o
  unfolding row_of some_nonzero either span group step_row_of
  choose_row h = told as_step _ _ (choose_past s o _ refl _ refl _ refl (omega arith)) 75 3 h refl refl

  pub step_row_lem : Bytes s → group (byte_at s o) ≡ 5 → step_row (step_row_of (step_at s o)) ≡ row_at s o
  step_row_lem b g =
      let k = byte_at s o in
      let r = is_step k g in
      up k 64 r.0 (put_row b) (λ l. up k 65 l name_row (λ l. up k 66 l code_row (λ l. up k 67 l add_row (λ l. up k 68 l new_row
      (λ l. up k 69 l read_row (λ l. up k 70 l write_row (λ l. up k 71 l relabel_row (λ l. up k 72 l lower_row
      (λ l. up k 73 l start_row (λ l. up k 74 l exec_row (λ l. choose_row (omega (arith, r.1)))))))))))))
