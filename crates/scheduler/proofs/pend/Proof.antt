-- `pend` meets its contract. Assumes nothing.
use borrow.Author.Rules.{rules}
use Rattle.scheduler.proofs.Waiting.{past_fits}
use Rattle.scheduler.proofs.pend.Statement.{statement}
use Rattle.scheduler.proofs.pend.Tie as tie

pub pend_spec : {M : Type 1} → statement M
pend_spec = tie.close (tie.spec (λ c κs. search rules) (λ c. past_fits _ _ _ c.requires c.step_end-past.ensures) (λ c. search rules))
