use Rattle.rotation.specs.Samples as stated
use Rattle.rotation.proofs.Samples as proved

pub theorem : stated.SmallRounds
theorem = proved.small_rounds
