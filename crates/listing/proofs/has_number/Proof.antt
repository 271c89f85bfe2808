-- `has_number` meets its contract. Assumes nothing.
use Rattle.listing.specs.Fields.{has_number}
use Rattle.listing.proofs.Told.{kinds}
use Rattle.listing.proofs.has_number.Statement.{statement}
use Rattle.listing.proofs.has_number.Tie as tie

pub has_number_spec : {M : Type 1} → statement M
unfolding has_number
has_number_spec = tie.close (tie.spec (λ c. search kinds) (λ c. search kinds))
