-- What may be missing, by what it is. Each is the library's `Option`.
--     Fault              where the first record at fault stands, if one does
--     StepAt, CellAt     the step at an offset and the offset past it, the declared cell at an offset
-- Assumes nothing.
use Rattle.std.specs.Prelude.{ℕ, Option}
use Rattle.book.specs.declared.Declared.{Declared}
use Rattle.book.specs.declared.Step.{Step}

abbrev pub Fault : Type 0
Fault = Option ℕ

abbrev pub StepAt : Type 0
StepAt = Option (Step × ℕ)

abbrev pub CellAt : Type 0
CellAt = Option Declared
