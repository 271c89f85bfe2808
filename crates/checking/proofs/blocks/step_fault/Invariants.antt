-- The blocks behind have no step that breaks its rule.
use Rattle.std.proofs.Common.{◌≡◌, drop}
use Rattle.book.specs.Book.{blocks_of}
use Rattle.typing.specs.Asked.{viewed}
use Rattle.typing.specs.Verdict.{step_fault}
use Rattle.checking.proofs.blocks.step_fault.Given as goal

abbrev pub invariant-loop-i : goal.invariant-loop-i
invariant-loop-i l =
    let B = viewed l.tables in
    step_fault B l.book (drop l.i (blocks_of l.book)) ≡ step_fault B l.book (blocks_of l.book)
