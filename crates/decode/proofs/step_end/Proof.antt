-- `step_end` meets its contract. Assumes nothing.
use borrow.Author.Rules.{rules}
use Rattle.book.proofs.Decoded.{found}
use Rattle.decode.proofs.step_end.Statement.{statement}
use Rattle.decode.proofs.step_end.Tie as tie

pub step_end_spec : {M : Type 1} → statement M
step_end_spec =
    tie.close
    (tie.spec
    (λ c. search rules) (λ c κs. search rules)
    (λ c. search found)  -- records::group_of(k) != group::STEPS
    (λ c κs. search rules)
    (λ c. search found)  -- stretch.len() < end
    (λ c. search found)  -- none of these
    (λ c. search found))  -- not (offset < stretch.len())
