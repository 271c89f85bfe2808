use Rattle.integrity.specs.Laws as stated
use Rattle.integrity.proofs.Laws as proved

pub theorem : stated.AboveC
theorem = proved.above_c
