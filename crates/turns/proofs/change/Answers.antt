-- `change` meets its contract. Assumes nothing.
use borrow.Author.Rules.{rules}
use Rattle.turns.proofs.Telling.{tells, throughs}
use Rattle.turns.proofs.change.Goals as goal

pub write-requires : goal.write-requires
write-requires c = search (throughs, rules)

pub returns-then-writes : goal.returns-then-writes
returns-then-writes c = search (tells, rules)

pub relabel-requires : goal.relabel-requires
relabel-requires c = search (throughs, rules)

pub returns : goal.returns
returns c = search (tells, rules)
