-- `decode_step` meets its contract. Assumes nothing.
use borrow.Author.Rules.{rules}
use Rattle.book.proofs.Decoded.{steps}
use Rattle.decode.proofs.decode_step.Tie as tie
use Rattle.decode.proofs.decode_step.Statement.{statement}

pub decode_step_spec : {M : Type 1} → statement M
decode_step_spec =
    tie.close
    (tie.spec
    (λ c. search rules) (λ c. search rules) (λ c κs. search rules) (λ c. search rules) (λ c κs. search rules)
    (λ c. search rules) (λ c κs. search rules) (λ c. search rules) (λ c κs. search rules)
    (λ c. search steps)  -- kind::PUT
    (λ c. search steps)  -- kind::NAME
    (λ c. search steps)  -- kind::CODE
    (λ c. search steps)  -- kind::ADD
    (λ c. search steps)  -- kind::NEW
    (λ c. search steps)  -- kind::READ
    (λ c. search steps)  -- kind::WRITE
    (λ c. search steps)  -- kind::RELABEL
    (λ c. search steps)  -- kind::LOWER
    (λ c. search steps)  -- kind::START
    (λ c. search steps)  -- kind::EXEC
    (λ c. search steps))  -- _
