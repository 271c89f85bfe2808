-- `shape_in` meets its contract. Assumes nothing.
use borrow.Author.Rules.{rules}
use Rattle.book.proofs.ShapeTable.{shape_read}
use Rattle.decode.proofs.shape_in.Tie as tie
use Rattle.decode.proofs.shape_in.Statement.{statement}

pub shape_in_spec : {M : Type 1} → statement M
shape_in_spec =
    tie.close
    (tie.spec
    (λ c. search rules) (λ c κs. search rules) (λ c. search rules) (λ c κs. search rules) (λ c. search rules)
    (λ c κs. search rules) (λ c. search rules) (λ c κs. search rules)
    (λ c. search shape_read))
