use Rattle.roundtrip.specs.RoundTrip as stated
use Rattle.roundtrip.proofs.ReadBack as proved

pub theorem : stated.ReadBack
theorem = proved.read_back
