-- `stages::range_fault` meets its contract. Assumes nothing.
use borrow.Author.Rules.{rules}
use Rattle.std.proofs.Common.{tests}
use Rattle.book.specs.Refusals.{range_fault}
use Rattle.records.proofs.Readers.{serves_reads, first_read}
use Rattle.faults.proofs.stages.range_fault.Goals as goal

pub find-requires-clause-callable : goal.find-requires-clause-callable
find-requires-clause-callable c = serves_reads _ _ (λ o q k. search (rules, tests)) _ _ _ _ c.new.ensures (λ o h. search rules)

pub returns : goal.returns
unfolding range_fault
returns c = first_read _ _ _ _ _ _ _ c.new.ensures c.find.ensures.ran (λ o b q k. search (rules, tests))
