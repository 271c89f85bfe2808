use Rattle.listing.specs.Samples as stated
use Rattle.listing.proofs.Rows as proved

pub theorem : stated.Rows
theorem = proved.rows
