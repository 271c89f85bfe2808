-- `label_of` meets its contract. Assumes nothing.
use borrow.Author.Rules.{rules}
use Rattle.xemdulba.proofs.Wrote.{labels}
use Rattle.xemdulba.proofs.label_of.Tie as tie
use Rattle.xemdulba.proofs.label_of.Statement.{statement}

pub label_of_spec : {M : Type 1} → statement M
label_of_spec =
    tie.close
    (tie.spec
    (λ c. search rules)
    (λ c. search labels)  -- a byte
    (λ c. search labels))  -- more
