-- The cases of the machine: on a test, on the kind of a value.
-- Assumes nothing.
use Rattle.std.specs.Prelude.{ℕ, Bool, true, false}
use Rattle.book.specs.declared.Value.{Value}
use Rattle.book.specs.declared.Value.TheVariants.{Plain, CellName, CodeName}

module _ {X : Type 0} where
  -- on a test: what it gives where it holds, what else; opened by name, so that a law can be about it
  unfoldable pub given : Bool → X → X → X
  given true x y = x
  given false x y = y

  -- on a value that is plain, a cell, a block: what else, what its number gives
  unfoldable pub on_plain : Value → X → (ℕ → X) → X
  on_plain (Plain n) x f = f n
  on_plain (CellName n) x f = x
  on_plain (CodeName n) x f = x

  unfoldable pub on_cell : Value → X → (ℕ → X) → X
  on_cell (Plain n) x f = x
  on_cell (CellName n) x f = f n
  on_cell (CodeName n) x f = x

  unfoldable pub on_code : Value → X → (ℕ → X) → X
  on_code (Plain n) x f = x
  on_code (CellName n) x f = x
  on_code (CodeName n) x f = f n
