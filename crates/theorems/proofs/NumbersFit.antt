use Rattle.integrity.specs.Tables as stated
use Rattle.integrity.proofs.NumbersFit as proved

pub theorem : stated.NumbersFit
theorem = proved.numbers_fit
