-- The records behind name what exists; n shapes stand among them. Assumes nothing.
use Prim.Native.Nat.{◌+◌, ◌≤◌}
use mathlib.Core.Path.{◌≡◌}
use lib.ListN.{length}
use Rattle.book.specs.Asked.{is_cell_shape_in}
use Rattle.book.specs.Refusals.{dangles, name_fault}
use Rattle.records.specs.Readers.{records_left}
use Rattle.faults.proofs.naming.name_fault.Given as goal

abbrev pub invariant-loop-o : goal.invariant-loop-o
invariant-loop-o l =
    (l.o-iterator.book.now ≡ l.s)
    × (l.n + length (records_left l.o-iterator) ≤ length l.s)
    × (dangles (is_cell_shape_in l.shapes) l.cells l.blocks l.s l.n (records_left l.o-iterator) ≡ name_fault l.s)
