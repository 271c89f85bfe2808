-- `fields_to` meets its contract. Assumes nothing.
use borrow.Author.Rules.{rules}
use Rattle.listing.proofs.Told.{ends_inside, whole_told}
use Rattle.listing.proofs.fields_to.Statement.{statement}
use Rattle.listing.proofs.fields_to.Tie as tie

pub fields_to_spec : {M : Type 1} → statement M
fields_to_spec =
    tie.close
    (tie.spec
    (λ c κs. search rules)
    (λ c. search rules)
    (λ c. search rules) (λ c κs. search rules)
    (λ c. search rules) (λ c κs. search rules)
    (λ c. search rules) (λ c κs. search rules)
    (λ c κs. search ends_inside)
    (λ c. search whole_told))
