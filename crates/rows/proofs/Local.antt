-- What a record says depends on the bytes from its own on, wherever it stands.
--     shape_local, cell_local, step_local     what is read there
--     range_local, name_local                 whether a field is out of its range; whether it names what does not exist
-- Assumes nothing.
use mathlib.Core.Path.{◌≡◌, refl, ap, ◌∙◌}
use mathlib.Core.Bool.{Bool}
use mathlib.Core.List.{List, [], ◌∷◌, ◌++◌}
use Prim.Native.Nat.{ℕ, ◌+◌}
use native.Mathlib.Omega.{arith}
use lib.Dec.{ltb}
use lib.ListN.{length}
use lib.Seq.{get_or-append-add}
use Rattle.book.specs.Control.{either}
use Rattle.book.specs.Kinds.{limits}
use Rattle.book.specs.Records.{byte_at, number_at}
use Rattle.book.specs.Book.{shape_at, declared_at, step_at}
use Rattle.book.specs.Refusals.{above, out_of_range, dangling}

module _ (pre l : List ℕ) where
  abbrev s : List ℕ
  s = pre ++ l

  abbrev o : ℕ
  o = length pre

  pub byte_local : (i : ℕ) → byte_at s (o + i) ≡ byte_at l i
  byte_local i = get_or-append-add pre l i 0

  pub kind_local : byte_at s o ≡ byte_at l 0
  kind_local = let z : o ≡ o + 0 = omega arith in ap (byte_at s) z ∙ byte_local 0

  number_local : (i : ℕ) → number_at s (o + i) ≡ number_at l i
  unfolding number_at
  number_local i =
      let a : byte_at s (o + i + 1) ≡ byte_at l (i + 1) = ap (byte_at s) (omega arith) ∙ byte_local (i + 1) in
      let b : byte_at s (o + i + 2) ≡ byte_at l (i + 2) = ap (byte_at s) (omega arith) ∙ byte_local (i + 2) in
      let c : byte_at s (o + i + 3) ≡ byte_at l (i + 3) = ap (byte_at s) (omega arith) ∙ byte_local (i + 3) in
      rw (byte_local i, a, b, c)

  pub shape_local : shape_at s o ≡ shape_at l 0
  unfolding shape_at
  shape_local = simp (kind_local, byte_local 1, byte_local 2)

  pub cell_local : declared_at s o ≡ declared_at l 0
  unfolding declared_at
  cell_local = simp (byte_local 1, byte_local 2, byte_local 3, number_local 4)

  pub step_local : step_at s o ≡ step_at l 0
  unfolding step_at
  step_local = simp (kind_local, byte_local 1, byte_local 2, byte_local 3, number_local 2)

  above_local : (ls : List ℕ) (i : ℕ) → above s (o + i) ls ≡ above l i ls
  unfolding above
  above_local [] i = refl
  above_local (m ∷ ls) i =
      let z : o + i + 1 ≡ o + (i + 1) = omega arith in
      rw (byte_local i, z) (ap (either (ltb m (byte_at l i))) (above_local ls (i + 1)))

  pub range_local : out_of_range s o ≡ out_of_range l 0
  unfolding out_of_range
  range_local = rw kind_local (above_local (limits (byte_at l 0)) 1)

  pub name_local : (is_cell_shape : ℕ → Bool) (cells blocks n : ℕ) → dangling is_cell_shape cells blocks s n o ≡ dangling is_cell_shape cells blocks l n 0
  unfolding dangling
  name_local is_cell_shape cells blocks n = simp (kind_local, byte_local 1, cell_local, step_local)
