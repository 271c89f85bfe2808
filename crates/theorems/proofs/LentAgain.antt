use Rattle.roundtrip.specs.RoundTrip as stated
use Rattle.roundtrip.proofs.TakenApart as proved

pub theorem : stated.LentAgain
theorem = proved.lent_again
