use Rattle.rounds.specs.RoundStages as stated
use Rattle.rounds.proofs.RoundStages as proved

pub theorem : stated.RoundCalls
theorem = proved.round_calls
