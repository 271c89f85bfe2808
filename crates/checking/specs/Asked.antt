-- A block's stretch, as the checker asks for it.
--     stretch_fault         the first step of a stretch that breaks its rule
-- Assumes nothing.
use Rattle.std.specs.Prelude.{List, ℕ, ◌+◌}
use Rattle.labels.specs.declared.Label.{Label}
use Rattle.book.specs.Missing.{Fault}
use Rattle.std.specs.Prelude.{None, Some}
use Rattle.book.specs.Book.{step_at, steps_from}
use Rattle.typing.specs.Shapes.{View}
use Rattle.typing.specs.Rules.{fresh, fault}

-- a fault of a stretch that starts at a
unfoldable pub shifted : ℕ → Fault → Fault
shifted a None = None
shifted a (Some o) = Some (a + o)

-- the first step of a stretch w that breaks its rule, by its offset in the book, where w starts at a
unfoldable pub stretch_fault : View → List ℕ → ℕ → Label → Fault
stretch_fault B w a b = shifted a (fault B (step_at w) (fresh b) (steps_from w 0))
