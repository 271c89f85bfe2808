-- `gather::put_block` meets its contract. Assumes nothing.
use mathlib.Core.Path.{refl}
use borrow.Author.Rules.{rules}
use Rattle.reading.proofs.gather.put_block.Tie as tie
use Rattle.reading.proofs.gather.put_block.Statement.{statement}

pub put_block_spec : {M : Type 1} → statement M
put_block_spec =
    tie.close
    (tie.spec
    (λ c. search rules) (λ c κs. search rules) (λ c. search rules) (λ c. search rules) (λ c. search rules)
    (λ c. search rules) (λ c. search rules) (λ c. search rules) (λ c. search rules) (λ c. search rules)
    (λ c. (cc, (refl, refl))))
