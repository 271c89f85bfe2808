use Rattle.rotation.specs.Fairness as stated
use Rattle.rotation.proofs.Fairness as proved

pub theorem : stated.Fair
theorem = proved.fair
