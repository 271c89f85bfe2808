-- `step_at` meets its contract. Assumes nothing.
use borrow.Author.Rules.{rules}
use Rattle.book.proofs.Decoded.{found}
use Rattle.decode.proofs.step_at.Statement.{statement}
use Rattle.decode.proofs.step_at.Tie as tie

pub step_at_spec : {M : Type 1} → statement M
step_at_spec = tie.close
    (tie.spec
    (λ c κs. search rules)
    (λ c. search found)  -- end == 0
    (λ c κs. search (found, rules))
    (λ c. search found))  -- not (end == 0)
