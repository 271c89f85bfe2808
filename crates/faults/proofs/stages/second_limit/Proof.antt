-- `stages::second_limit` meets its contract: antt computes the limit at every kind. Assumes nothing.
use native.Mathlib.Omega.{arith}
use borrow.Author.Rules.{rules}
use Rattle.book.proofs.Layouts.{limit_between}
use Rattle.faults.proofs.stages.second_limit.Tie as tie
use Rattle.faults.proofs.stages.second_limit.Statement.{statement}

pub second_limit_spec : {M : Type 1} → statement M
second_limit_spec =
    tie.close
    (tie.spec
    (λ c. limit_between 1 72 255 255 tt _ (search rules) (omega arith) (omega arith))
    (λ c. limit_between 1 71 71 15 tt _ (search rules) (omega arith) (omega arith))
    (λ c. limit_between 1 69 70 7 tt _ (search rules) (omega arith) (omega arith))
    (λ c. limit_between 1 68 68 255 tt _ (search rules) (omega arith) (omega arith))
    (λ c. limit_between 1 67 67 7 tt _ (search rules) (omega arith) (omega arith))
    (λ c. limit_between 1 33 66 255 tt _ (search rules) (omega arith) (omega arith))
    (λ c. limit_between 1 32 32 15 tt _ (search rules) (omega arith) (omega arith))
    (λ c. limit_between 1 19 31 255 tt _ (search rules) (omega arith) (omega arith))
    (λ c. limit_between 1 18 18 15 tt _ (search rules) (omega arith) (omega arith))
    (λ c. limit_between 1 0 17 255 tt _ (search rules) (omega arith) (omega arith)))
