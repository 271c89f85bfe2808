-- What holds of both branches of a case of the machine holds of the case; a branch is told what its test gave.
--     given_both, some_both, plain_both, cell_both, code_both
--     chosen_both     what holds of both blocks of a choice holds of the one that is chosen
-- Assumes nothing.
use mathlib.Core.Path.{◌≡◌, refl}
use mathlib.Core.Bool.{Bool, true, false}
use mathlib.Core.Option.{Option, none, some}
use Prim.Native.Nat.{ℕ}
use Rattle.book.specs.declared.Value.{Value}
use Rattle.book.specs.declared.Value.TheVariants.{Plain, CellName, CodeName}
use Rattle.book.specs.Control.{on_some}
use Rattle.machine.specs.Control.{given, on_plain, on_cell, on_code}
use Rattle.machine.specs.Steps.{chosen}

-- of the branch x, where no test holds, and of the other
module _ {X : Type 0} (P : X → Type 0) {x : X} (p : P x) where
  pub given_both : {b : Bool} {y : X} → (b ≡ true → P y) → P (given b y x)
  unfolding given
  given_both {b = true} g = g refl
  given_both {b = false} g = p

  pub some_both : {A : Type 0} {m : Option A} {f : A → X} → ((a : A) → m ≡ some a → P (f a)) → P (on_some m x f)
  unfolding on_some
  some_both {m = none} g = p
  some_both {m = some a} g = g a refl

  pub plain_both : {v : Value} {f : ℕ → X} → ((n : ℕ) → v ≡ Plain n → P (f n)) → P (on_plain v x f)
  unfolding on_plain
  plain_both {v = Plain n} g = g n refl
  plain_both {v = CellName n} g = p
  plain_both {v = CodeName n} g = p

  pub cell_both : {v : Value} {f : ℕ → X} → ((n : ℕ) → v ≡ CellName n → P (f n)) → P (on_cell v x f)
  unfolding on_cell
  cell_both {v = Plain n} g = p
  cell_both {v = CellName n} g = g n refl
  cell_both {v = CodeName n} g = p

  pub code_both : {v : Value} {f : ℕ → X} → ((n : ℕ) → v ≡ CodeName n → P (f n)) → P (on_code v x f)
  unfolding on_code
  code_both {v = Plain n} g = p
  code_both {v = CellName n} g = p
  code_both {v = CodeName n} g = g n refl

pub chosen_both : (P : ℕ → Type 0) (n a b : ℕ) → P a → P b → P (chosen n a b)
unfolding chosen
chosen_both P n a b p q = given_both P p (λ e. q)
