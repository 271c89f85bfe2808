-- The blocks before the index are sound, and their counts and what is left make the steps.
use Rattle.vetting.proofs.Vetted.{BlocksUpto}
use Rattle.vetting.proofs.are_blocks_sound.Given as goal

abbrev pub invariant-loop-bound : goal.invariant-loop-bound
invariant-loop-bound l = BlocksUpto l.blocks l.steps l.left l.bound-index
