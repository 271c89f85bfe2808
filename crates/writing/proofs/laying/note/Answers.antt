-- `laying::note` meets its contract. Assumes nothing.
use Rattle.writing.proofs.Drafts.{notes}
use Rattle.writing.proofs.laying.note.Goals as goal

pub returns-then-bad : goal.returns-then-bad
returns-then-bad c = search notes

pub returns-else-bad : goal.returns-else-bad
returns-else-bad c = search notes
