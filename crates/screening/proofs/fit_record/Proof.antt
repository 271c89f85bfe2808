-- `fit_record` meets its contract: antt computes what each kind fixes. Assumes nothing.
use borrow.Author.Rules.{rules}
use Rattle.book.proofs.Layouts.{fixed}
use Rattle.book.proofs.Screens.{unfit}
use Rattle.screening.proofs.fit_record.Tie as tie
use Rattle.screening.proofs.fit_record.Statement.{statement}

pub fit_record_spec : {M : Type 1} → statement M
fit_record_spec =
    tie.close
    (tie.spec
    (λ c. search rules)
    (λ c κs. (search rules, fixed _ 1 _ _ _ _ (search rules) tt))
    (λ c κs. (search rules, fixed _ 16 _ _ _ _ (search rules) tt))
    (λ c κs. (search rules, fixed _ 17 _ _ _ _ (search rules) tt))
    (λ c κs. (search rules, fixed _ 18 _ _ _ _ (search rules) tt))
    (λ c κs. (search rules, fixed _ 32 _ _ _ _ (search rules) tt))
    (λ c κs. (search rules, fixed _ 48 _ _ _ _ (search rules) tt))
    (λ c κs. (search rules, fixed _ 64 _ _ _ _ (search rules) tt))
    (λ c κs. (search rules, fixed _ 65 _ _ _ _ (search rules) tt))
    (λ c κs. (search rules, fixed _ 66 _ _ _ _ (search rules) tt))
    (λ c κs. (search rules, fixed _ 67 _ _ _ _ (search rules) tt))
    (λ c κs. (search rules, fixed _ 68 _ _ _ _ (search rules) tt))
    (λ c κs. (search rules, fixed _ 69 _ _ _ _ (search rules) tt))
    (λ c κs. (search rules, fixed _ 70 _ _ _ _ (search rules) tt))
    (λ c κs. (search rules, fixed _ 71 _ _ _ _ (search rules) tt))
    (λ c κs. (search rules, fixed _ 72 _ _ _ _ (search rules) tt))
    (λ c κs. (search rules, fixed _ 73 _ _ _ _ (search rules) tt))
    (λ c κs. (search rules, fixed _ 74 _ _ _ _ (search rules) tt))
    (λ c κs. (search rules, fixed _ 75 _ _ _ _ (search rules) tt))
    -- what is handed back, kind by kind
    (λ c. search rules) (λ c. search rules) (λ c. search rules) (λ c. search rules) (λ c. search rules)
    (λ c. search rules) (λ c. search rules) (λ c. search rules) (λ c. search rules) (λ c. search rules)
    (λ c. search rules) (λ c. search rules) (λ c. search rules) (λ c. search rules) (λ c. search rules)
    (λ c. search rules) (λ c. search rules) (λ c. search rules)
    (λ c. unfit _ _))
