use Rattle.rotation.specs.Samples as stated
use Rattle.rotation.proofs.Samples as proved

pub theorem : stated.LaunchedRound
theorem = proved.launched_round
