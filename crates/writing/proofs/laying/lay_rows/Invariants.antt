-- The rows up to the index are laid. Assumes nothing.
use Rattle.writing.specs.Asked.{LaysEach}
use Rattle.writing.proofs.laying.lay_rows.Given as goal

abbrev pub invariant-loop-i : goal.invariant-loop-i
invariant-loop-i g l = LaysEach (goal.F-post g l.entry) l.i l.initial.draft l.initial.pen l.draft l.pen
