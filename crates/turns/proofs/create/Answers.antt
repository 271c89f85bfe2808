-- `create` meets its contract. Assumes nothing.
use borrow.Author.Rules.{rules}
use Rattle.turns.proofs.Telling.{tell_new}
use Rattle.turns.proofs.create.Goals as goal

pub returns : goal.returns
returns c = search (tell_new, rules)
