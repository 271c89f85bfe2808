-- The cells behind are those that were declared.
use Rattle.std.proofs.Common.{◌≡◌, length, take}
use Rattle.tables.specs.Opening.{opened_cells}
use Rattle.tables.proofs.opening.open_cells.Given as goal

abbrev pub invariant-loop-i : goal.invariant-loop-i
invariant-loop-i l = (length l.cells ≡ 64) × (take l.i l.cells ≡ opened_cells l.book (take l.i l.offsets))
