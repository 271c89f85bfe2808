-- `write` meets its contract. Assumes nothing.
use borrow.Author.Rules.{rules}
use Rattle.turns.proofs.Taking.{throughs}
use Rattle.turns.proofs.write.Goals as goal
use Rattle.turns.proofs.write.Goals.{else-u-eq-CELL-via-then-u-eq-CELL+else-is_open, else-u-eq-CELL-via-else-u-eq-CELL}

pub returns-then-is_open : goal.returns-then-is_open
returns-then-is_open c = search (throughs, rules)

pub returns : goal.returns
returns c =
    elim c.else-u-eq-CELL.branch [
      | else-u-eq-CELL-via-then-u-eq-CELL+else-is_open w ↦ search (throughs, rules)
      | else-u-eq-CELL-via-else-u-eq-CELL w ↦ search (throughs, rules)
    ]
