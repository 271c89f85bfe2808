use Rattle.rotation.specs.Fairness as stated
use Rattle.rotation.proofs.Fairness as proved

pub theorem : stated.ChosenCan
theorem = proved.chosen_can
