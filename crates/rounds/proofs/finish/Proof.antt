-- `finish` meets its contract. Assumes nothing.
use borrow.Author.Rules.{rules}
use Rattle.rounds.proofs.Refusing.{lends}
use Rattle.rounds.proofs.finish.Statement.{statement}
use Rattle.rounds.proofs.finish.Tie as tie

pub finish_spec : {M : Type 1} → statement M
finish_spec =
    tie.close
    (tie.spec
    (λ c. search rules) (λ c. search rules) (λ c. search rules)
    (λ c. search (lends, rules))
    (λ c. search rules) (λ c. search rules)
    (λ c. search (lends, rules))
    (λ c κs. search (lends, rules))
    (λ c. search rules) (λ c. search rules) (λ c. search rules)
    (λ c. search (lends, rules)))
