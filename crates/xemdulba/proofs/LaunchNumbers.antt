use Rattle.xemdulba.specs.Launching as stated
use Rattle.xemdulba.proofs.Launching as proved

pub theorem : stated.LaunchNumbers
theorem = proved.launch_numbers
