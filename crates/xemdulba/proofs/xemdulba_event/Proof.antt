-- `xemdulba_event` meets its contract. Assumes nothing.
use borrow.Author.Rules.{rules}
use Rattle.xemdulba.proofs.Answers.{tells}
use Rattle.xemdulba.proofs.xemdulba_event.Tie as tie
use Rattle.xemdulba.proofs.xemdulba_event.Statement.{statement}

pub xemdulba_event_spec : {M : Type 1} → statement M
xemdulba_event_spec = tie.close (tie.spec (λ c κs. search rules) (λ c κs. search rules) (λ c. search tells))
