use Rattle.machine.specs.Samples as stated
use Rattle.machine.proofs.Runs as proved

pub theorem : stated.SampleRuns
theorem = proved.sample_runs
