-- `draft_by` meets its contract. Assumes nothing.
use mathlib.Core.Path.{refl}
use lib.ListN.{length-replicate}
use Rattle.writing.proofs.Wholes.{whole_draft, past_draft}
use Rattle.writing.proofs.draft_by.Goals as goal

-- the book is longer
pub returns-then-n : goal.returns-then-n
returns-then-n g c = (past_draft _ _ _ _ _ c.requires.0 (length-replicate _ _) c.lay_tables-pen.ensures c.if-n.true, refl)

pub finish-requires : goal.finish-requires
finish-requires g c = whole_draft _ _ _ _ _ c.requires.0 (length-replicate _ _) c.lay_tables-pen.ensures c.if-n.false c.requires.1
