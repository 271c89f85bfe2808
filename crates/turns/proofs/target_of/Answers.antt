-- `target_of` meets its contract. Assumes nothing.
use borrow.Author.Rules.{rules}
use Rattle.turns.proofs.Telling.{targets}
use Rattle.turns.proofs.target_of.Goals as goal

pub returns-then-k-eq-READ : goal.returns-then-k-eq-READ
returns-then-k-eq-READ c = search (targets, rules)

pub returns-then-k-lt-WRITE : goal.returns-then-k-lt-WRITE
returns-then-k-lt-WRITE c = search (targets, rules)

pub returns-then-k-lt-LOWER : goal.returns-then-k-lt-LOWER
returns-then-k-lt-LOWER c = search (targets, rules)

pub returns-then-k-eq-EXEC : goal.returns-then-k-eq-EXEC
returns-then-k-eq-EXEC c = search (targets, rules)

pub returns : goal.returns
returns c = search (targets, rules)
