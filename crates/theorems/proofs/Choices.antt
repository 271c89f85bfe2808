use Rattle.typing.specs.Samples as stated
use Rattle.typing.proofs.Joint as proved

pub theorem : stated.Choices
theorem = proved.choices
