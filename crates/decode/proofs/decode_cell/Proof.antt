-- `decode_cell` meets its contract. Assumes nothing.
use borrow.Author.Rules.{rules}
use Rattle.book.proofs.Decoded.{is_declared}
use Rattle.decode.proofs.decode_cell.Tie as tie
use Rattle.decode.proofs.decode_cell.Statement.{statement}

pub decode_cell_spec : {M : Type 1} → statement M
decode_cell_spec =
    tie.close
    (tie.spec
    (λ c. search rules) (λ c κs. search rules) (λ c. search rules) (λ c κs. search rules) (λ c. search rules)
    (λ c κs. search rules) (λ c. search rules) (λ c κs. search rules) (λ c κs. search rules)
    (λ c. search is_declared))
