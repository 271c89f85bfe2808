-- `number_at` meets its contract. Assumes nothing.
use borrow.Author.Rules.{rules}
use Rattle.listing.proofs.Told.{numbers}
use Rattle.listing.proofs.number_at.Statement.{statement}
use Rattle.listing.proofs.number_at.Tie as tie

pub number_at_spec : {M : Type 1} → statement M
number_at_spec = tie.close (tie.spec (λ c κs. search rules) (λ c. search numbers) (λ c. search numbers))
