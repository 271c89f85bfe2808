-- `deliver` meets its contract. Assumes nothing.
use Rattle.std.proofs.Common.{tests}
use borrow.Author.Rules.{rules}
use Rattle.writing.proofs.Judged.{deliver_done}
use Rattle.writing.proofs.deliver.Goals as goal

pub returns : goal.returns
returns c = deliver_done _ _ _ _ c.in_ok-refusal.was _ (search (rules, tests)) c.copy_long.ensures
