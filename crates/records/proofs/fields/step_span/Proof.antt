-- `fields::step_span` meets its contract: antt computes the span at every kind. Assumes nothing.
use native.Mathlib.Omega.{arith}
use borrow.Author.Rules.{rules}
use Rattle.book.proofs.Layouts.{span_between}
use Rattle.records.proofs.fields.step_span.Tie as tie
use Rattle.records.proofs.fields.step_span.Statement.{statement}

pub step_span_spec : {M : Type 1} → statement M
step_span_spec =
    tie.close
    (tie.spec
    (λ c. span_between 64 64 6 tt _ (search rules) (omega arith) (omega arith))
    (λ c. span_between 72 74 2 tt _ (search rules) (omega arith) (omega arith))
    (λ c. span_between 75 75 4 tt _ (search rules) (omega arith) (omega arith))
    (λ c. span_between 76 255 0 tt _ (search rules) (omega arith) (omega arith))
    (λ c. span_between 69 71 3 tt _ (search rules) (omega arith) (omega arith))
    (λ c. span_between 67 68 4 tt _ (search rules) (omega arith) (omega arith))
    (λ c. span_between 65 66 3 tt _ (search rules) (omega arith) (omega arith)))
