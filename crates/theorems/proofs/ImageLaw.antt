use Rattle.machine.specs.Images as stated
use Rattle.machine.proofs.Images as proved

pub theorem : stated.ImageLaw
theorem = proved.images
