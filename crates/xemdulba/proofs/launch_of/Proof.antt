-- `launch_of` meets its contract. Assumes nothing.
use borrow.Author.Rules.{rules}
use Rattle.xemdulba.proofs.Calling.{launches}
use Rattle.xemdulba.proofs.launch_of.Tie as tie
use Rattle.xemdulba.proofs.launch_of.Statement.{statement}

pub launch_of_spec : {M : Type 1} → statement M
launch_of_spec =
    tie.close
    (tie.spec
    (λ c. search launches)  -- none
    (λ c κs. search rules)
    (λ c. search launches))  -- a label
