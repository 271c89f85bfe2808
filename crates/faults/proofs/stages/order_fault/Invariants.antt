-- The records behind are in order, and the group is that of the last. Assumes nothing.
use mathlib.Core.Path.{◌≡◌}
use Rattle.book.specs.Refusals.{misplaced, order_fault}
use Rattle.records.specs.Readers.{records_left}
use Rattle.faults.proofs.stages.order_fault.Given as goal

abbrev pub invariant-loop-o : goal.invariant-loop-o
invariant-loop-o l = (l.o-iterator.book.now ≡ l.s) × (misplaced l.s l.p (records_left l.o-iterator) ≡ order_fault l.s)
