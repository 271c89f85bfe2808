-- `read` meets its contract. Assumes nothing.
use borrow.Author.Rules.{rules}
use Rattle.turns.proofs.Taking.{reads}
use Rattle.turns.proofs.read.Goals as goal
use Rattle.turns.proofs.read.Goals.{else-u-eq-CELL-via-then-u-eq-CELL+else-u-near, else-u-eq-CELL-via-else-u-eq-CELL}

pub returns-then-u-near : goal.returns-then-u-near
returns-then-u-near c = search (reads, rules)

pub returns : goal.returns
returns c =
    elim c.else-u-eq-CELL.branch [
      | else-u-eq-CELL-via-then-u-eq-CELL+else-u-near w ↦ search (reads, rules)
      | else-u-eq-CELL-via-else-u-eq-CELL w ↦ search (reads, rules)
    ]
