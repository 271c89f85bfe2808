use Rattle.roundtrip.specs.RoundTrip as stated
use Rattle.roundtrip.proofs.WrittenAgain as proved

pub theorem : stated.WrittenAgain
theorem = proved.written_again
