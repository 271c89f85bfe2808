use Rattle.machine.specs.Samples as stated
use Rattle.machine.proofs.Runs as proved

pub theorem : stated.TopSums
theorem = proved.top_sums
