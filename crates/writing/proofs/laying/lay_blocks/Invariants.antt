-- The blocks up to one index are laid, with the step rows up to another. Assumes nothing.
use Rattle.writing.proofs.BlockDrafts.{Blocking}
use Rattle.writing.proofs.laying.lay_blocks.Given as goal

abbrev pub invariant-loop-i : goal.invariant-loop-i
invariant-loop-i l = Blocking l.blocks l.steps l.initial.draft l.initial.pen l.draft l.pen l.i l.j
