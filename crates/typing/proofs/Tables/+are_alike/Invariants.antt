-- The number falls, since contents are lower-numbered.
use Rattle.typing.proofs.Tables.+are_alike.Given as goal

abbrev pub decreases-are_alike : goal.decreases-are_alike
decreases-are_alike l = l.i
