use Rattle.integrity.specs.Tables as stated
use Rattle.integrity.proofs.Tables as proved

pub theorem : stated.Tables
theorem = proved.tables
