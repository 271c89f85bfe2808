-- What is read of a row's record is the row: a case for each kind.
--     all_zero                             no field is spare: those that the kind does not use are 0
--     shape_back, cell_back, step_back     of a row of each table
-- Assumes nothing.
use mathlib.Core.Path.{◌≡◌, refl, sym, ap}
use mathlib.Core.Bool.{Bool, true, false, not}
use mathlib.Core.List.{List, [], ◌∷◌, ◌++◌}
use Prim.Native.Nat.{ℕ, ◌+◌, ◌*◌, ◌/◌, ◌%◌, ◌<◌, ◌≤◌}
use native.Mathlib.Omega.{arith}
use lib.Dec.{eqb, ltb}
use lib.ListN.{take, drop}
use borrow.Author.Tests.{eqb-true, eqb-false, ltb-false, not-false}
use Rattle.book.specs.Kinds.{span, group, limits}
use Rattle.book.specs.Records.{number_at, number_bytes}
use Rattle.book.specs.Book.{shape_at, kind_of, number_of, value_of, declared_at, step_at}
use Rattle.book.specs.Refusals.{above, out_of_range}
use Rattle.book.proofs.Tests.{either_left, either_right}
use Rattle.book.proofs.Every.{All}
use Rattle.rows.specs.Rows.{some_nonzero, step_fields}
use Rattle.rows.specs.Parsed.{shape_row_of, cell_row_of, step_row_of, step_of}
use Rattle.rows.proofs.ByKind.{by_kind}
use Rattle.roundtrip.proofs.Numbers.{four_bytes}

pub all_zero : (xs : List ℕ) → some_nonzero xs ≡ false → All (λ x. x ≡ 0) xs
unfolding some_nonzero
all_zero [] e = tt
all_zero (x ∷ xs) e = (eqb-true _ _ (not-false _ (either_left (not (eqb x 0)) _ e)), all_zero xs (either_right (not (eqb x 0)) _ e))

-- a shape's row
abbrev ShapeBack : ℕ → Type 0
ShapeBack k =
    (x y : ℕ) (rest : List ℕ) → All (λ x. x ≡ 0) (drop (span k) (k ∷ x ∷ y ∷ []))
    → shape_row_of (shape_at (take (span k) (k ∷ x ∷ y ∷ []) ++ rest) 0) ≡ record { kind = k; x = x; y = y }

pub shape_back : (k : ℕ) → group k ≡ 2 → ShapeBack k
unfolding span shape_at shape_row_of
shape_back =
    by_kind ShapeBack 2 (omega arith) (
      λ x y rest z. rw (z.0, z.1.0),
      (
        λ x y rest z. rw z.0,
        (λ x y rest z. refl, tt),
      ),
    )

-- a cell's row, whose value kind is in its range
value_kind : (k m : ℕ) → k ≤ 2 → kind_of (value_of k m) ≡ k
unfolding value_of
value_kind k m h = go (eqb k 0) refl (eqb k 1) refl
  where
    go : (a : Bool) → eqb k 0 ≡ a → (b : Bool) → eqb k 1 ≡ b → kind_of (value_of k m) ≡ k
    go true p b q = simp p (sym (eqb-true k 0 p))
    go false p true q = simp (p, q) (sym (eqb-true k 1 q))
    go false p false q =
        let x = eqb-false k 0 p in
        let y = eqb-false k 1 q in
        simp (p, q) (omega arith)

value_number : (k m : ℕ) → number_of (value_of k m) ≡ m
unfolding value_of
value_number k m = go (eqb k 0) refl (eqb k 1) refl
  where
    go : (a : Bool) → eqb k 0 ≡ a → (b : Bool) → eqb k 1 ≡ b → number_of (value_of k m) ≡ m
    go true p b q = simp p
    go false p true q = simp (p, q)
    go false p false q = simp (p, q)

module _ (x l k n : ℕ) (rest : List ℕ) where
  abbrev cell : List ℕ
  cell = 32 ∷ x ∷ l ∷ k ∷ (number_bytes n ++ rest)

  pub cell_range : out_of_range cell 0 ≡ false → k ≤ 2
  unfolding out_of_range above limits
  cell_range e = ltb-false 2 k (either_left (ltb 2 k) _ (either_right (ltb 15 l) _ (either_right (ltb 255 x) _ e)))

  pub cell_back : n < 4294967296 → k ≤ 2 → cell_row_of (declared_at cell 0) ≡ record { shape = x; label = l; kind = k; number = n }
  unfolding declared_at cell_row_of number_at
  cell_back h r = rw (value_kind k _ r, value_number k _) (ap (λ m. record { shape = x; label = l; kind = k; number = m }) (four_bytes n h))

-- a step's row: the fields that its kind does not use, behind one, two or three that it does
module _ (k x y z n : ℕ) (rest : List ℕ) (h : n < 4294967296) where
  no_number : All (λ x. x ≡ 0) (number_bytes n) → 0 ≡ n
  no_number e = rw (e.0, e.1.0, e.1.1.0, e.1.1.1.0) at (four_bytes n h)

  three : All (λ x. x ≡ 0) (number_bytes n) → step_of k x y z 0 ≡ step_of k x y z n
  three e = ap (step_of k x y z) (no_number e)

  two : All (λ x. x ≡ 0) (z ∷ number_bytes n) → step_of k x y 0 0 ≡ step_of k x y z n
  two e = rw e.0 (ap (step_of k x y 0) (no_number e.1))

  one : All (λ x. x ≡ 0) (y ∷ z ∷ number_bytes n) → step_of k x 0 0 0 ≡ step_of k x y z n
  one e = rw (e.0, e.1.0) (ap (step_of k x 0 0) (no_number e.1.1))

  -- put uses one, and the number
  put : All (λ x. x ≡ 0) (y ∷ z ∷ []) → step_of k x 0 0 (n % 256 + 256 * (n / 256 % 256) + 65536 * (n / 65536 % 256) + 16777216 * (n / 16777216 % 256)) ≡ step_of k x y z n
  put e = rw (e.0, e.1.0) (ap (step_of k x 0 0) (four_bytes n h))

abbrev StepBack : ℕ → Type 0
StepBack k =
    (x y z n : ℕ) (rest : List ℕ) → n < 4294967296 → All (λ x. x ≡ 0) (drop (span k) (k ∷ step_fields (step_of k x y z n)))
    → step_row_of (step_at (take (span k) (k ∷ step_fields (step_of k x y z n)) ++ rest) 0) ≡ step_of k x y z n

pub step_back : (k : ℕ) → group k ≡ 5 → StepBack k
unfolding span step_at step_row_of number_at
step_back =
    by_kind StepBack 5 (omega arith)
    (put 64, (two 65, (two 66, (three 67, (three 68, (two 69, (two 70, (two 71, (one 72, (one 73, (one 74, (three 75, tt))))))))))))
