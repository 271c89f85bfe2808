-- `fields_end` meets its contract. Assumes nothing.
use Rattle.listing.proofs.Told.{ends}
use Rattle.listing.proofs.fields_end.Statement.{statement}
use Rattle.listing.proofs.fields_end.Tie as tie

pub fields_end_spec : {M : Type 1} → statement M
fields_end_spec = tie.close (tie.spec (λ c. search ends) (λ c. search ends) (λ c. search ends))
