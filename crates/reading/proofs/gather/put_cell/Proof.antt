-- `gather::put_cell` meets its contract. Assumes nothing.
use mathlib.Core.Path.{refl}
use borrow.Author.Rules.{rules}
use Rattle.reading.proofs.gather.put_cell.Tie as tie
use Rattle.reading.proofs.gather.put_cell.Statement.{statement}

pub put_cell_spec : {M : Type 1} → statement M
put_cell_spec =
    tie.close
    (tie.spec
    (λ c. search rules) (λ c. search rules) (λ c. search rules) (λ c. search rules) (λ c κs. search rules)
    (λ c. search rules)
    (λ c. (refl, cc)))
