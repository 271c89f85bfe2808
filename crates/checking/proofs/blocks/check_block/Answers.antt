-- `walks` has a law for each way on. Assumes nothing.
use native.Mathlib.Omega.{arith}
use Rattle.std.proofs.Common.{rules, refl}
use Rattle.checking.proofs.Walks.{walks}
use Rattle.checking.proofs.blocks.check_block.Goals as goal

pub loop-o-init : goal.loop-o-init
loop-o-init c = (omega arith, search rules, search walks, refl)

pub returns-in_default : goal.returns-in_default
returns-in_default c = search walks

pub loop-o-smaller-in-Passes : goal.loop-o-smaller-in-Passes
loop-o-smaller-in-Passes c = search walks

pub loop-o-preserved-in-Passes : goal.loop-o-preserved-in-Passes
loop-o-preserved-in-Passes c = search walks

pub loop-o-smaller-then-i-lt8 : goal.loop-o-smaller-then-i-lt8
loop-o-smaller-then-i-lt8 c = search walks

pub loop-o-preserved-then-i-lt8 : goal.loop-o-preserved-then-i-lt8
loop-o-preserved-then-i-lt8 c = search walks

pub loop-o-smaller-else-i-lt8 : goal.loop-o-smaller-else-i-lt8
loop-o-smaller-else-i-lt8 c = search walks

pub loop-o-preserved-else-i-lt8 : goal.loop-o-preserved-else-i-lt8
loop-o-preserved-else-i-lt8 c = search walks

pub loop-o-smaller : goal.loop-o-smaller
loop-o-smaller c = search walks

pub loop-o-preserved : goal.loop-o-preserved
loop-o-preserved c = search walks

pub returns-in-Stuck : goal.returns-in-Stuck
returns-in-Stuck c = search walks

pub returns-in-Breaks : goal.returns-in-Breaks
returns-in-Breaks c = search walks

pub returns : goal.returns
returns c = search walks
