-- `are_blocks_sound` meets its contract. Assumes nothing.
use Rattle.std.proofs.Common.{rules, arith, eqb-true}
use Rattle.book.specs.Records.{number_at}
use Rattle.vetting.proofs.Vetted.{blocks_start, blocks_on, blocks_sound}
use Rattle.vetting.proofs.are_blocks_sound.Goals as goal

pub loop-bound-init : goal.loop-bound-init
loop-bound-init c = blocks_start _ _

pub loop-bound-preserved : goal.loop-bound-preserved
unfolding number_at
loop-bound-preserved c =
    blocks_on _ _ _ _ c.loop-bound.invariant _ c.loop-bound-test.true (omega arith) c.if-bound-gt-LABEL.false c.if-count-gt-MOST_STEPS.false c.if-left-count.false

pub returns : goal.returns
returns c =
    λ e. blocks_sound _ _ _ _ c.loop-bound.invariant (search rules) c.if-blocks-gt-MOST_BLOCKS.false c.loop-bound-test.false (omega arith) (eqb-true _ _ e)
