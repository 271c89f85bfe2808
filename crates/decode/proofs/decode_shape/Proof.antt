-- `decode_shape` meets its contract. Assumes nothing.
use borrow.Author.Rules.{rules}
use Rattle.book.proofs.Decoded.{shapes}
use Rattle.decode.proofs.decode_shape.Tie as tie
use Rattle.decode.proofs.decode_shape.Statement.{statement}

pub decode_shape_spec : {M : Type 1} → statement M
decode_shape_spec =
    tie.close
    (tie.spec
    (λ c. search rules) (λ c. search rules) (λ c κs. search rules) (λ c. search rules) (λ c κs. search rules)
    (λ c. search shapes)  -- k == kind::CODE_SHAPE
    (λ c. search shapes)  -- k == kind::CELL_SHAPE
    (λ c. search shapes))  -- none of these
