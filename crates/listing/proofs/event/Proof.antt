-- `event` meets its contract. Assumes nothing.
use borrow.Author.Rules.{rules}
use Rattle.listing.proofs.Told.{no_event, untold, told}
use Rattle.listing.proofs.event.Statement.{statement}
use Rattle.listing.proofs.event.Tie as tie

pub event_spec : {M : Type 1} → statement M
event_spec =
    tie.close
    (tie.spec
    (λ c κs. search rules)
    (λ c. search no_event)  -- list.len() <= offset
    (λ c κs. search rules)
    (λ c κs. search rules)
    (λ c. search untold)  -- past == offset
    (λ c κs. search rules)
    (λ c. search untold)  -- list.len() < past
    (λ c. search rules) (λ c κs. search rules) (λ c κs. search rules)
    (λ c. search told))  -- none of these
