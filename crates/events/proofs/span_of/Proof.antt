-- `span_of` meets its contract. Assumes nothing.
use Rattle.events.proofs.Scans.{spans}
use Rattle.events.proofs.span_of.Tie as tie
use Rattle.events.proofs.span_of.Statement.{statement}

pub span_of_spec : {M : Type 1} → statement M
span_of_spec =
    tie.close
    (tie.spec
    (λ c. search spans)  -- kind == kind::STEP
    (λ c. search spans)  -- kind == kind::WRITE
    (λ c. search spans)  -- kind == kind::RELABEL
    (λ c. search spans)  -- kind == kind::NEW
    (λ c. search spans)  -- kind == kind::EXEC
    (λ c. search spans)  -- kind == kind::START
    (λ c. search spans))  -- none of these
