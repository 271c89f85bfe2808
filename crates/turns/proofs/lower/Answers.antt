-- `lower` meets its contract. Assumes nothing.
use borrow.Author.Rules.{rules}
use Rattle.turns.proofs.Taking.{lowers}
use Rattle.turns.proofs.Telling.{tell_lower}
use Rattle.turns.proofs.lower.Goals as goal

pub returns-then-reaches : goal.returns-then-reaches
returns-then-reaches c = search (tell_lower, lowers, rules)

pub returns : goal.returns
returns c = search (tell_lower, lowers, rules)
