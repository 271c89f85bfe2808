use Rattle.rotation.specs.Order as stated
use Rattle.rotation.proofs.Order as proved

pub theorem : stated.StepLeft
theorem = proved.step_left
