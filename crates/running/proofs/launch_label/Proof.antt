-- `launch_label` meets its contract. Assumes nothing.
use borrow.Author.Rules.{rules}
use Rattle.running.proofs.Refusing.{low_fits, launch_labels}
use Rattle.running.proofs.launch_label.Statement.{statement}
use Rattle.running.proofs.launch_label.Tie as tie

pub launch_label_spec : {M : Type 1} → statement M
launch_label_spec =
    tie.close
    (tie.spec
    (λ c. search rules)
    (λ c. search (launch_labels, rules))  -- Launch::Given(l) = launch
    (λ c. search rules) (λ c κs. search rules)
    (λ c. search (low_fits, rules))
    (λ c. search (launch_labels, rules))  -- bound.is_above(c)
    (λ c. search (launch_labels, rules)))  -- neither
