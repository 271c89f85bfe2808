-- The records behind are not too many, and the tally is theirs. Assumes nothing.
use mathlib.Core.Bool.{false}
use mathlib.Core.Path.{◌≡◌}
use Rattle.book.specs.Refusals.{too_many, beyond, count_fault}
use Rattle.records.specs.Readers.{records_left}
use Rattle.faults.proofs.stages.count_fault.Given as goal

abbrev pub invariant-loop-o : goal.invariant-loop-o
invariant-loop-o l = (l.o-iterator.book.now ≡ l.s) × (too_many l.n ≡ false) × (beyond l.s l.n (records_left l.o-iterator) ≡ count_fault l.s)
