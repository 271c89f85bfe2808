-- `record` meets its contract. Assumes nothing.
use borrow.Author.Rules.{rules}
use Rattle.listing.proofs.Told.{no_record, untold, told}
use Rattle.listing.proofs.record.Statement.{statement}
use Rattle.listing.proofs.record.Tie as tie

pub record_spec : {M : Type 1} → statement M
record_spec =
    tie.close
    (tie.spec
    (λ c κs. search rules)
    (λ c. search no_record)  -- book.len() <= offset
    (λ c κs. search rules)
    (λ c κs. search rules)
    (λ c. search untold)  -- next == offset
    (λ c κs. search rules)
    (λ c. search untold)  -- book.len() < next
    (λ c. search rules) (λ c κs. search rules) (λ c κs. search rules)
    (λ c. search told))  -- none of these
