use Rattle.running.specs.Launches as stated
use Rattle.running.proofs.Launched as proved

pub theorem : stated.AtBound
theorem = proved.at_bound
