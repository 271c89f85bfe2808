-- `is_cut` meets its contract. Assumes nothing.
use borrow.Author.Rules.{rules}
use Rattle.events.proofs.Scans.{cuts}
use Rattle.events.proofs.is_cut.Statement.{statement}
use Rattle.events.proofs.is_cut.Tie as tie

pub is_cut_spec : {M : Type 1} → statement M
is_cut_spec =
    tie.close
    (tie.spec
    (λ c. search rules) (λ c. search rules)
    (λ c. search cuts)  -- list.len() - o < 8
    (λ c. search cuts)  -- not (list.len() - o < 8)
    (λ c κs. search rules) (λ c. search rules)
    (λ c. search cuts)  -- w == 0
    (λ c. search rules)
    (λ c. search cuts)  -- list.len() - o < w
    (λ c. search cuts))  -- none of these
