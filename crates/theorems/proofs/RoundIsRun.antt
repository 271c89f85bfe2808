use Rattle.rounds.specs.RoundIsRun as stated
use Rattle.rounds.proofs.RoundIsRun as proved

pub theorem : stated.RoundIsRun
theorem = proved.round_is_run
