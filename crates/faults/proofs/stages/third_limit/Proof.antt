-- `stages::third_limit` meets its contract: antt computes the limit at every kind. Assumes nothing.
use native.Mathlib.Omega.{arith}
use borrow.Author.Rules.{rules}
use Rattle.book.proofs.Layouts.{limit_between}
use Rattle.faults.proofs.stages.third_limit.Tie as tie
use Rattle.faults.proofs.stages.third_limit.Statement.{statement}

pub third_limit_spec : {M : Type 1} → statement M
third_limit_spec =
    tie.close
    (tie.spec
    (λ c. limit_between 2 69 255 255 tt _ (search rules) (omega arith) (omega arith))
    (λ c. limit_between 2 67 68 7 tt _ (search rules) (omega arith) (omega arith))
    (λ c. limit_between 2 33 66 255 tt _ (search rules) (omega arith) (omega arith))
    (λ c. limit_between 2 32 32 2 tt _ (search rules) (omega arith) (omega arith))
    (λ c. limit_between 2 0 31 255 tt _ (search rules) (omega arith) (omega arith)))
