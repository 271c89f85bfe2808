-- `are_steps_sound` meets its contract. Assumes nothing.
use Rattle.std.proofs.Common.{rules}
use Rattle.std.proofs.lemmas.Iterator.{YieldsList-from_slice}
use Rattle.rows.specs.Rows.{step_row_in}
use Rattle.vetting.specs.Asked.{shapes_of}
use Rattle.vetting.proofs.Vetted.{StepPasses, all_passed, steps_sound}
use Rattle.vetting.proofs.are_steps_sound.Goals as goal

pub returns : goal.returns
unfolding step_row_in
returns c =
    let passes = StepPasses (shapes_of c.args.shapes.now) c.args.cells c.args.blocks in
    λ e. steps_sound _ _ _ _ (all_passed _ _ _ passes c.all.ensures.ran (YieldsList-from_slice _ c.iter.ensures.rest) (λ x q k. search rules) e)
