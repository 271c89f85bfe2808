-- `choose` meets its contract. Assumes nothing.
use borrow.Author.Rules.{rules}
use Rattle.turns.proofs.Taking.{chooses}
use Rattle.turns.proofs.choose.Goals as goal

pub returns-then-v-ne-PLAIN : goal.returns-then-v-ne-PLAIN
returns-then-v-ne-PLAIN c = search (chooses, rules)

pub returns-then-zero : goal.returns-then-zero
returns-then-zero c = search (chooses, rules)

pub returns : goal.returns
returns c = search (chooses, rules)
