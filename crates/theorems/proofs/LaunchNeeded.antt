use Rattle.integrity.specs.EachNeeded as stated
use Rattle.integrity.proofs.EachNeeded as proved

pub theorem : stated.LaunchNeeded
theorem = proved.launch_needed
