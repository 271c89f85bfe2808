-- `stages::first_limit` meets its contract: antt computes the limit at every kind. Assumes nothing.
use native.Mathlib.Omega.{arith}
use borrow.Author.Rules.{rules}
use Rattle.book.proofs.Layouts.{limit_between}
use Rattle.faults.proofs.stages.first_limit.Tie as tie
use Rattle.faults.proofs.stages.first_limit.Statement.{statement}

pub first_limit_spec : {M : Type 1} → statement M
first_limit_spec =
    tie.close
    (tie.spec
    (λ c. limit_between 0 76 255 255 tt _ (search rules) (omega arith) (omega arith))
    (λ c. limit_between 0 74 75 7 tt _ (search rules) (omega arith) (omega arith))
    (λ c. limit_between 0 73 73 255 tt _ (search rules) (omega arith) (omega arith))
    (λ c. limit_between 0 72 72 15 tt _ (search rules) (omega arith) (omega arith))
    (λ c. limit_between 0 64 71 7 tt _ (search rules) (omega arith) (omega arith))
    (λ c. limit_between 0 49 63 255 tt _ (search rules) (omega arith) (omega arith))
    (λ c. limit_between 0 48 48 15 tt _ (search rules) (omega arith) (omega arith))
    (λ c. limit_between 0 18 47 255 tt _ (search rules) (omega arith) (omega arith))
    (λ c. limit_between 0 17 17 15 tt _ (search rules) (omega arith) (omega arith))
    (λ c. limit_between 0 2 16 255 tt _ (search rules) (omega arith) (omega arith))
    (λ c. limit_between 0 1 1 14 tt _ (search rules) (omega arith) (omega arith))
    (λ c. limit_between 0 0 0 255 tt _ (search rules) (omega arith) (omega arith)))
