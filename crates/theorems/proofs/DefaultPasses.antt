use Rattle.running.specs.Launches as stated
use Rattle.running.proofs.Launched as proved

pub theorem : stated.DefaultPasses
theorem = proved.default_passes
