-- `field_at` meets its contract. Assumes nothing.
use borrow.Author.Rules.{rules}
use Rattle.listing.proofs.Told.{fields}
use Rattle.listing.proofs.field_at.Statement.{statement}
use Rattle.listing.proofs.field_at.Tie as tie

pub field_at_spec : {M : Type 1} → statement M
field_at_spec = tie.close (tie.spec (λ c κs. search rules) (λ c. search fields) (λ c. search fields))
