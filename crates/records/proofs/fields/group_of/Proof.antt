-- `fields::group_of` meets its contract. Assumes nothing.
use Rattle.book.proofs.Groups.{groups}
use Rattle.records.proofs.fields.group_of.Tie as tie
use Rattle.records.proofs.fields.group_of.Statement.{statement}

pub group_of_spec : {M : Type 1} → statement M
group_of_spec =
    tie.close
    (tie.spec
    (λ c. search groups)  -- kind <= kind::CHOOSE
    (λ c. search groups)  -- not (kind <= kind::CHOOSE)
    (λ c. search groups)  -- kind == kind::BLOCK
    (λ c. search groups)  -- kind == kind::CELL
    (λ c. search groups)  -- kind <= kind::CELL_SHAPE
    (λ c. search groups)  -- not (kind <= kind::CELL_SHAPE)
    (λ c. search groups)  -- kind == kind::C
    (λ c. search groups))  -- none of these
