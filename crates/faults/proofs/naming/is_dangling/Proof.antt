-- `naming::is_dangling` meets its contract. Assumes nothing.
use borrow.Author.Rules.{rules}
use Rattle.book.proofs.NameFaults.{danglings}
use Rattle.faults.proofs.naming.is_dangling.Tie as tie
use Rattle.faults.proofs.naming.is_dangling.Statement.{statement}

pub is_dangling_spec : {M : Type 1} → statement M
is_dangling_spec =
    tie.close
    (tie.spec
    (λ c. search rules) (λ c. search rules) (λ c κs. search rules) (λ c. search rules)
    (λ c. search danglings)  -- k == kind::CELL_SHAPE
    (λ c κs. search rules) (λ c κs. search rules) (λ c κs. search rules)
    (λ c. search danglings)  -- g == group::CELLS
    (λ c κs. search rules) (λ c κs. search rules)
    (λ c. search danglings)  -- g == group::STEPS
    (λ c. search danglings))  -- none of these
