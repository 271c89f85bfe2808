-- `new` meets its contract. Assumes nothing.
use borrow.Author.Rules.{rules}
use Rattle.turns.proofs.Taking.{new_is}
use Rattle.turns.proofs.new.Goals as goal

pub returns : goal.returns
returns c = search (new_is, rules)
