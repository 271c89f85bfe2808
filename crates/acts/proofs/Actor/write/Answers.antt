-- `Actor::write` meets its contract. Assumes nothing.
use borrow.Author.Rules.{rules}
use Rattle.acts.proofs.Acting.{writes}
use Rattle.acts.proofs.Actor.write.Goals as goal

pub returns-then-is_open : goal.returns-then-is_open
returns-then-is_open c = search (writes, rules)

pub returns : goal.returns
returns c = search (writes, rules)
