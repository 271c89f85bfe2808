use Rattle.integrity.specs.Loosened as stated
use Rattle.integrity.proofs.ByMachine as proved

pub theorem : stated.SameMachine
theorem = proved.same_machine
