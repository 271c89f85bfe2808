-- `Actor::make` meets its contract. Assumes nothing.
use borrow.Author.Rules.{rules}
use Rattle.acts.proofs.Acting.{makes}
use Rattle.acts.proofs.Actor.make.Goals as goal

pub returns-then-free : goal.returns-then-free
returns-then-free c = search (makes, rules)

pub returns : goal.returns
returns c = search (makes, rules)
