use Rattle.roundtrip.specs.RoundTrip as stated
use Rattle.roundtrip.proofs.LentNumbers as proved

pub theorem : stated.LentNumbersHold
theorem = proved.lent_numbers_hold
