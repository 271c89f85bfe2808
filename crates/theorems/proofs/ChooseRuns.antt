use Rattle.machine.specs.Samples as stated
use Rattle.machine.proofs.Runs as proved

pub theorem : stated.ChooseRuns
theorem = proved.choose_runs
