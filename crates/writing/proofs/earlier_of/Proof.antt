-- `earlier_of` meets its contract. Assumes nothing.
use Rattle.writing.proofs.Judged.{earliers}
use Rattle.writing.proofs.earlier_of.Tie as tie
use Rattle.writing.proofs.earlier_of.Statement.{statement}

pub earlier_of_spec : {M : Type 1} → statement M
earlier_of_spec =
    tie.close
    (tie.spec
    (λ c. search earliers)  -- the reader's
    (λ c. search earliers)  -- the spare field's
    (λ c. search earliers))  -- by a number behind 5
