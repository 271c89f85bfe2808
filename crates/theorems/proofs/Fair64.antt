use Rattle.rotation.specs.Fairness as stated
use Rattle.rotation.proofs.Fairness as proved

pub theorem : stated.Fair64
theorem = proved.fair_64
