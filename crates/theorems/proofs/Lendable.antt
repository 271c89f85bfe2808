use Rattle.rounds.specs.RoundIsRun as stated
use Rattle.rounds.proofs.RoundIsRun as proved

pub theorem : stated.Lendable
theorem = proved.lendable
