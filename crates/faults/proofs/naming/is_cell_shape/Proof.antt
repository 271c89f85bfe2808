-- `naming::is_cell_shape` meets its contract. Assumes nothing.
use mathlib.Core.Path.{ap}
use lib.Dec.{eqb}
use borrow.Author.Rules.{rules}
use Rattle.book.specs.declared.Shape.{Shape}
use Rattle.faults.proofs.naming.is_cell_shape.Tie as tie
use Rattle.faults.proofs.naming.is_cell_shape.Statement.{statement}

pub is_cell_shape_spec : {M : Type 1} → statement M
is_cell_shape_spec = tie.close
    (tie.spec (λ c κs. search rules) (λ c. ap (λ (x : Shape). eqb x.kind 18) c.before.shape_in-x.ensures))
