-- `laying::lay_block` meets its contract. Assumes nothing.
use Rattle.writing.proofs.BlockDrafts.{block_lays}
use Rattle.writing.proofs.laying.lay_block.Goals as goal

pub returns : goal.returns
returns c = search block_lays
