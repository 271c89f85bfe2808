use Rattle.rounds.specs.RoundStages as stated
use Rattle.rounds.proofs.RoundStages as proved

pub theorem : stated.RoundStages
theorem = proved.round_stages
