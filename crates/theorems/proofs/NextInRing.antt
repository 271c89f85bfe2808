use Rattle.rotation.specs.Order as stated
use Rattle.rotation.proofs.Order as proved

pub theorem : stated.NextInRing
theorem = proved.next_in_ring
