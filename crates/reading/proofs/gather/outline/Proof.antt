-- `gather::outline` meets its contract. Assumes nothing.
use borrow.Author.Rules.{rules}
use Rattle.book.proofs.Gathered.{outline_drawn}
use Rattle.reading.proofs.gather.outline.Tie as tie
use Rattle.reading.proofs.gather.outline.Statement.{statement}

pub outline_spec : {M : Type 1} → statement M
outline_spec = tie.close
    (tie.spec (λ c κs. search rules) (λ c κs. search rules) (λ c. search outline_drawn))
