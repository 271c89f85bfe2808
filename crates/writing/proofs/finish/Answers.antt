-- `finish` meets its contract. Assumes nothing.
use Rattle.writing.proofs.Judged.{finish_is}
use Rattle.writing.proofs.finish.Goals as goal

pub returns : goal.returns
returns c = search finish_is
