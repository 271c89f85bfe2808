-- From block i on, the counts have to make what is left. Assumes nothing.
use Rattle.writing.proofs.Counted.{Counting}
use Rattle.writing.proofs.counts.agree.Given as goal

abbrev pub invariant-loop-i : goal.invariant-loop-i
invariant-loop-i l = Counting l.blocks l.steps l.left l.i
