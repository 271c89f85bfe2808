use Rattle.rotation.specs.Samples as stated
use Rattle.rotation.proofs.Samples as proved

pub theorem : stated.SampleRound
theorem = proved.sample_round_lem
