-- What the walk finds from here on is what it finds from the start; every register stays.
use Rattle.std.proofs.Common.{length, ◌-◌, ◌≡◌, ◌≤◌}
use Rattle.book.specs.Asked.{Whole}
use Rattle.book.specs.Book.{step_at, steps_from}
use Rattle.typing.specs.Asked.{viewed}
use Rattle.typing.specs.Rules.{fault}
use Rattle.checking.proofs.blocks.check_block.Given as goal

abbrev pub invariant-loop-o : goal.invariant-loop-o
invariant-loop-o l =
    let B = viewed l.tables in
    (l.o ≤ length l.stretch) × Whole l.stretch l.o × (length l.t.registers ≡ 8)
    × (fault B (step_at l.stretch) l.t (steps_from l.stretch l.o) ≡ fault B (step_at l.stretch) l.initial.t (steps_from l.stretch l.initial.o))

abbrev pub decreases-loop-o : goal.decreases-loop-o
decreases-loop-o l = length l.stretch - l.o
