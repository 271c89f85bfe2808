-- A round takes the law past one block, whose stretch is the book's. Assumes nothing.
use Rattle.std.proofs.Common.{rules}
use Rattle.book.proofs.Stretches.{laids}
use Rattle.checking.proofs.BookRules.{rounds}
use Rattle.checking.proofs.blocks.step_fault.Goals as goal

pub slice_bounds-stretch-end : goal.slice_bounds-stretch-end
slice_bounds-stretch-end c = search laids

pub check_block-requires : goal.check_block-requires
check_block-requires c = search (laids, rules)

pub returns-in-Some : goal.returns-in-Some
returns-in-Some c = search rounds

pub loop-i-preserved : goal.loop-i-preserved
loop-i-preserved c = search rounds

pub returns : goal.returns
returns c = search rounds
