use Rattle.roundtrip.specs.RoundTrip as stated
use Rattle.roundtrip.proofs.TakenApart as proved

pub theorem : stated.TakenApart
theorem = proved.taken_apart
