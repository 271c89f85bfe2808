use Rattle.integrity.specs.Weakened as stated
use Rattle.integrity.proofs.ByRules as proved

pub theorem : stated.SameRules
theorem = proved.same_rules
