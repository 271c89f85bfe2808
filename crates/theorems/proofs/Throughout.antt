use Rattle.integrity.specs.Integrity as stated
use Rattle.integrity.proofs.Integrity as proved

pub theorem : stated.Throughout
theorem = proved.throughout
