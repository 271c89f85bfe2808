-- `value_named` meets its contract. Assumes nothing.
use borrow.Author.Rules.{rules}
use Rattle.book.proofs.NameFaults.{values}
use Rattle.decode.proofs.value_named.Tie as tie
use Rattle.decode.proofs.value_named.Statement.{statement}

pub value_named_spec : {M : Type 1} → statement M
value_named_spec =
    tie.close
    (tie.spec
    (λ c. search rules) (λ c. search rules) (λ c. search rules) (λ c. search rules) (λ c. search rules)
    (λ c. search values)  -- Value::Plain(_)
    (λ c. search values)  -- Value::CellName(n)
    (λ c. search values))  -- Value::CodeName(n)
