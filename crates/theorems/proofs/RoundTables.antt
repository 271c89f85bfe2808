use Rattle.integrity.specs.Rounds as stated
use Rattle.integrity.proofs.Rounds as proved

pub theorem : stated.RoundTables
theorem = proved.round_tables
