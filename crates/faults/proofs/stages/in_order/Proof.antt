-- `stages::in_order` meets its contract. Assumes nothing.
use Rattle.book.proofs.Stages.{places}
use Rattle.faults.proofs.stages.in_order.Tie as tie
use Rattle.faults.proofs.stages.in_order.Statement.{statement}

pub in_order_spec : {M : Type 1} → statement M
in_order_spec = tie.close
    (tie.spec
    (λ c. search places)  -- p == group::NONE
    (λ c. search places)  -- g == group::STEPS
    (λ c. search places)  -- group::C < g
    (λ c. search places))  -- none of these
