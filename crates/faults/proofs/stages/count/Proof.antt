-- `stages::count` meets its contract. A tally that is not too many has room for one more. Assumes nothing.
use native.Mathlib.Omega.{arith}
use Rattle.book.proofs.Stages.{few_shapes_lem, few_cells_lem, few_blocks_lem, few_steps, ones}
use Rattle.faults.proofs.stages.count.Tie as tie
use Rattle.faults.proofs.stages.count.Statement.{statement}

pub count_spec : {M : Type 1} → statement M
count_spec =
    tie.close
    (tie.spec
    (λ c. omega (arith, few_shapes_lem))
    (λ c. search ones)  -- g == group::SHAPES
    (λ c. omega (arith, few_cells_lem))
    (λ c. search ones)  -- g == group::CELLS
    (λ c. omega (arith, few_blocks_lem))
    (λ c. search ones)  -- g == group::BLOCKS
    (λ c. omega (arith, few_steps))
    (λ c. search ones)  -- g == group::STEPS
    (λ c. search ones))  -- none of these
