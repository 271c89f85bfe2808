-- `judge` meets its contract. Assumes nothing.
use Rattle.writing.proofs.Judged.{judge_is}
use Rattle.writing.proofs.judge.Goals as goal

pub returns : goal.returns
returns c = judge_is _ _ _ _ _ c.requires.0 c.requires.1 c.read.ensures c.and-read.ensures c.with_spare.ensures
