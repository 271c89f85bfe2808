use Rattle.rotation.specs.Order as stated
use Rattle.rotation.proofs.Order as proved

pub theorem : stated.FirstInRing
theorem = proved.first_in_ring
