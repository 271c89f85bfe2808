-- `launch` meets its contract. Assumes nothing.
use borrow.Author.Rules.{rules}
use Rattle.turns.proofs.Taking.{start_is}
use Rattle.turns.proofs.Telling.{tells, throughs}
use Rattle.turns.proofs.launch.Goals as goal

pub returns-then-starts : goal.returns-then-starts
returns-then-starts c = search (tells, start_is, rules)

pub exec-requires : goal.exec-requires
exec-requires c = search (throughs, rules)

pub returns-then-kind-eq-EXEC : goal.returns-then-kind-eq-EXEC
returns-then-kind-eq-EXEC c = search (tells, rules)

pub returns : goal.returns
returns c = search (tells, rules)
