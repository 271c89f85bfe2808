-- `stages::too_many` meets its contract. Assumes nothing.
use Rattle.book.proofs.Stages.{crowds}
use Rattle.faults.proofs.stages.too_many.Tie as tie
use Rattle.faults.proofs.stages.too_many.Statement.{statement}

pub too_many_spec : {M : Type 1} → statement M
too_many_spec = tie.close
    (tie.spec
    (λ c. search crowds)  -- 32 < n.shapes
    (λ c. search crowds)  -- 32 < n.cells
    (λ c. search crowds)  -- 64 < n.blocks
    (λ c. search crowds))  -- none of these
