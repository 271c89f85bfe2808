-- The records behind are steps, and the count is their number. Assumes nothing.
use mathlib.Core.Path.{◌≡◌}
use Rattle.records.specs.Readers.{records_left}
use Rattle.records.proofs.Skips.{Passing}
use Rattle.records.proofs.walk.skip_steps.Given as goal

abbrev pub invariant-loop-o : goal.invariant-loop-o
invariant-loop-o l = (l.o-iterator.book.now ≡ l.s) × Passing l.s l.fn.from l.n (records_left l.o-iterator)
