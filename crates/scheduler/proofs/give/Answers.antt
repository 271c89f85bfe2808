-- `give` meets its contract, by the laws of `turns`. Assumes nothing.
use borrow.Author.Rules.{rules}
use Rattle.turns.proofs.Telling.{tells, throughs}
use Rattle.scheduler.proofs.give.Goals as goal

pub returns-then-k-eq-PUT : goal.returns-then-k-eq-PUT
returns-then-k-eq-PUT c = search (tells, rules)

pub returns-then-k-eq-NAME : goal.returns-then-k-eq-NAME
returns-then-k-eq-NAME c = search (tells, rules)

pub returns-then-k-eq-CODE : goal.returns-then-k-eq-CODE
returns-then-k-eq-CODE c = search (tells, rules)

pub returns-then-k-eq-ADD : goal.returns-then-k-eq-ADD
returns-then-k-eq-ADD c = search (tells, rules)

pub read-requires : goal.read-requires
read-requires c = search (throughs, rules)

pub returns : goal.returns
returns c = search (tells, rules)
