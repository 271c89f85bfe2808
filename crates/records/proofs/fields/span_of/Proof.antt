-- `fields::span_of` meets its contract: antt computes the span at every kind. Assumes nothing.
use native.Mathlib.Omega.{arith}
use borrow.Author.Rules.{rules}
use Rattle.book.proofs.Layouts.{span_between}
use Rattle.records.proofs.fields.span_of.Tie as tie
use Rattle.records.proofs.fields.span_of.Statement.{statement}

pub span_of_spec : {M : Type 1} → statement M
span_of_spec =
    tie.close
    (tie.spec
    (λ c κs. search rules) (λ c. search rules)
    (λ c. span_between 49 63 0 tt _ (search rules) (omega arith) (omega arith))
    (λ c. span_between 48 48 2 tt _ (search rules) (omega arith) (omega arith))
    (λ c. span_between 33 47 0 tt _ (search rules) (omega arith) (omega arith))
    (λ c. span_between 32 32 8 tt _ (search rules) (omega arith) (omega arith))
    (λ c. span_between 19 31 0 tt _ (search rules) (omega arith) (omega arith))
    (λ c. span_between 18 18 3 tt _ (search rules) (omega arith) (omega arith))
    (λ c. span_between 17 17 2 tt _ (search rules) (omega arith) (omega arith))
    (λ c. span_between 16 16 1 tt _ (search rules) (omega arith) (omega arith))
    (λ c. span_between 2 15 0 tt _ (search rules) (omega arith) (omega arith))
    (λ c. span_between 1 1 2 tt _ (search rules) (omega arith) (omega arith))
    (λ c. span_between 0 0 0 tt _ (search rules) (omega arith) (omega arith)))
