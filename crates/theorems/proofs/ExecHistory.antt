use Rattle.integrity.specs.Laws as stated
use Rattle.integrity.proofs.Laws as proved

pub theorem : stated.ExecHistory
theorem = proved.exec_history
