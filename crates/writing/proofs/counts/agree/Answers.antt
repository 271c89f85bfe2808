-- `counts::agree` meets its contract. Assumes nothing.
use Rattle.writing.proofs.Counted.{counts}
use Rattle.writing.proofs.counts.agree.Goals as goal

pub loop-i-init : goal.loop-i-init
loop-i-init c = search counts

pub loop-i-preserved : goal.loop-i-preserved
loop-i-preserved c = search counts

-- more than is left
pub returns-then-left-count : goal.returns-then-left-count
returns-then-left-count c = search counts

-- all blocks
pub returns : goal.returns
returns c = search counts
