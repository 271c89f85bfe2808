-- `laying::lay_blocks` meets its contract. Assumes nothing.
use native.Mathlib.Omega.{arith}
use Rattle.writing.proofs.BlockDrafts.{blocking_over, blockings}
use Rattle.writing.proofs.laying.lay_blocks.Goals as goal

pub loop-i-preserved : goal.loop-i-preserved
loop-i-preserved c = search blockings

-- the draft is full
pub returns-then-limit-pen : goal.returns-then-limit-pen
returns-then-limit-pen c = blocking_over _ _ _ _ _ _ _ _ c.loop-i.invariant (omega arith)

-- no row is left
pub returns-then-j-m : goal.returns-then-j-m
returns-then-j-m c = search blockings

-- rows that no block counts
pub returns : goal.returns
returns c = search blockings
