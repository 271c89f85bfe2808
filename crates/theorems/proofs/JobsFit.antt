use Rattle.integrity.specs.Tables as stated
use Rattle.integrity.proofs.JobsFit as proved

pub theorem : stated.JobsFit
theorem = proved.jobs_fit
