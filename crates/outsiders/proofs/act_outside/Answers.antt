-- `act_outside` meets its contract. Assumes nothing.
use borrow.Author.Rules.{rules}
use Rattle.outsiders.proofs.Such.{outsides}
use Rattle.outsiders.proofs.act_outside.Goals as goal

pub returns-in-StepOf : goal.returns-in-StepOf
returns-in-StepOf c = search (outsides, rules)

pub returns-in-WriteBy : goal.returns-in-WriteBy
returns-in-WriteBy c = search (outsides, rules)

pub returns-in-RelabelBy : goal.returns-in-RelabelBy
returns-in-RelabelBy c = search (outsides, rules)

pub returns-in-NewBy : goal.returns-in-NewBy
returns-in-NewBy c = search (outsides, rules)

pub returns-in-ExecBy : goal.returns-in-ExecBy
returns-in-ExecBy c = search (outsides, rules)

pub returns-in-StartBy : goal.returns-in-StartBy
returns-in-StartBy c = search (outsides, rules)
