-- `gather::put_shape` meets its contract. Assumes nothing.
use borrow.Author.Rules.{rules}
use Rattle.book.proofs.ShapeTable.{shape_put}
use Rattle.reading.proofs.gather.put_shape.Tie as tie
use Rattle.reading.proofs.gather.put_shape.Statement.{statement}

pub put_shape_spec : {M : Type 1} → statement M
put_shape_spec =
    tie.close
    (tie.spec
    (λ c. search rules) (λ c. search rules) (λ c. search rules) (λ c. search rules) (λ c. search rules)
    (λ c. search rules) (λ c. search rules) (λ c. search rules)
    (λ c. search shape_put))
