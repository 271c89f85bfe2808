-- `naming::cell_named` meets its contract. Assumes nothing.
use borrow.Author.Rules.{rules}
use Rattle.book.proofs.NameFaults.{cells}
use Rattle.faults.proofs.naming.cell_named.Tie as tie
use Rattle.faults.proofs.naming.cell_named.Statement.{statement}

pub cell_named_spec : {M : Type 1} → statement M
cell_named_spec =
    tie.close
    (tie.spec
    (λ c κs. search rules) (λ c κs. search rules)
    (λ c. search cells)  -- is_cell_shape(shapes, cell.shape)
    (λ c. search cells))  -- not is_cell_shape(shapes, cell.shape)
