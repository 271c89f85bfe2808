-- `Actor::start` meets its contract. Assumes nothing.
use borrow.Author.Rules.{rules}
use Rattle.acts.proofs.Acting.{starts}
use Rattle.acts.proofs.Actor.start.Goals as goal

pub returns-then-free : goal.returns-then-free
returns-then-free c = search (starts, rules)

pub returns : goal.returns
returns c = search (starts, rules)
