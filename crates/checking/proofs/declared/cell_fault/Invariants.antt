-- The cells behind break no rule.
use Rattle.std.proofs.Common.{◌≡◌, drop}
use Rattle.typing.specs.Asked.{viewed}
use Rattle.typing.specs.Verdict.{cell_fault}
use Rattle.checking.proofs.declared.cell_fault.Given as goal

abbrev pub invariant-loop-offset : goal.invariant-loop-offset
invariant-loop-offset l =
    let B = viewed l.tables in
    cell_fault B l.book (drop l.offset-index l.offsets) ≡ cell_fault B l.book l.offsets
