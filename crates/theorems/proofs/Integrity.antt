use Rattle.integrity.specs.Integrity as stated
use Rattle.integrity.proofs.Integrity as proved

pub theorem : stated.Integrity
theorem = proved.integrity
