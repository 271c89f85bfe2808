use Rattle.machine.specs.Samples as stated
use Rattle.machine.proofs.Runs as proved

pub theorem : stated.HistoryRun
theorem = proved.history_run
