-- A fault is refused at its place, and without one nothing is. Assumes nothing.
use Rattle.book.specs.Refusals.{or_refuse}
use Rattle.book.proofs.Ground.refuse.Goals as goal

pub returns-in-Some : goal.returns-in-Some
unfolding or_refuse
returns-in-Some c = simp (c.at.ensures, c.in-Some.is)

pub returns-in-None : goal.returns-in-None
unfolding or_refuse
returns-in-None c = simp c.in-None.is
