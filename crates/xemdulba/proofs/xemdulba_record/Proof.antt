-- `xemdulba_record` meets its contract. Assumes nothing.
use borrow.Author.Rules.{rules}
use Rattle.xemdulba.proofs.Answers.{tells}
use Rattle.xemdulba.proofs.xemdulba_record.Tie as tie
use Rattle.xemdulba.proofs.xemdulba_record.Statement.{statement}

pub xemdulba_record_spec : {M : Type 1} → statement M
xemdulba_record_spec = tie.close (tie.spec (λ c κs. search rules) (λ c κs. search rules) (λ c. search tells))
