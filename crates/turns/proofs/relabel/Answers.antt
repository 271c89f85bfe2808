-- `relabel` meets its contract. Assumes nothing.
use borrow.Author.Rules.{rules}
use Rattle.turns.proofs.Taking.{throughs}
use Rattle.turns.proofs.relabel.Goals as goal

pub returns-then-u-ne-CELL : goal.returns-then-u-ne-CELL
returns-then-u-ne-CELL c = search (throughs, rules)

pub returns : goal.returns
returns c = search (throughs, rules)
