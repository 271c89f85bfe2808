-- The rows up to the index are laid. Assumes nothing.
use Rattle.std.proofs.Common.{◌-◌}
use Rattle.writing.specs.Asked.{Lays, steps_laid}
use Rattle.writing.proofs.laying.lay_steps.Given as goal

abbrev pub invariant-loop-i : goal.invariant-loop-i
invariant-loop-i l = Lays (steps_laid l.steps (l.i - l.from) l.from) l.initial.draft l.initial.pen l.draft l.pen
