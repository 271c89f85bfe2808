-- `value_of` meets its contract. Assumes nothing.
use Rattle.book.proofs.Decoded.{values}
use Rattle.decode.proofs.value_of.Tie as tie
use Rattle.decode.proofs.value_of.Statement.{statement}

pub value_of_spec : {M : Type 1} → statement M
value_of_spec = tie.close
    (tie.spec
    (λ c. search values)  -- kind == value_kind::PLAIN
    (λ c. search values)  -- kind == value_kind::CELL
    (λ c. search values))  -- none of these
