-- `cell_at` meets its contract. Assumes nothing.
use borrow.Author.Rules.{rules}
use Rattle.book.proofs.Decoded.{found}
use Rattle.decode.proofs.cell_at.Tie as tie
use Rattle.decode.proofs.cell_at.Statement.{statement}

pub cell_at_spec : {M : Type 1} → statement M
cell_at_spec =
    tie.close
    (tie.spec
    (λ c. search rules) (λ c κs. search rules)
    (λ c. search found)  -- records::group_of(k) != group::CELLS
    (λ c κs. search rules)
    (λ c. search found)  -- book.len() < end
    (λ c κs. search rules)
    (λ c. search found)  -- none of these
    (λ c. search found))  -- not (offset < book.len())
