use Rattle.machine.specs.Images as stated
use Rattle.machine.proofs.Sources as proved

pub theorem : stated.SourceLaw
theorem = proved.source_law
