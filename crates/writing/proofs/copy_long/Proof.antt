-- `copy_long` meets its contract. The bytes up to the index are copied. Assumes nothing.
use Prim.Native.Nat.{◌-◌}
use borrow.Author.Rules.{rules}
use Rattle.writing.proofs.Copies.{Copying, copies}
use Rattle.writing.proofs.copy_long.Tie as tie
use Rattle.writing.proofs.copy_long.Statement.{statement}

abbrev invariant-loop : tie.invariant-loop-j
invariant-loop dst₀ at src j₀ j-end dst j = Copying dst₀ at src j-end dst j

abbrev decreases-loop : tie.decreases-loop-j
decreases-loop dst₀ at src j₀ j-end dst j = j-end - j

pub copy_long_spec : {M : Type 1} → statement M
copy_long_spec =
    tie.close
    (tie.spec
    invariant-loop
    decreases-loop
    (λ c. search copies)  -- the loop begins
    (λ c. search rules) (λ c. search rules) (λ c. search rules) (λ c. search rules) (λ c. search rules)
    (λ c. search copies)  -- the invariant holds again
    (λ c. search rules)
    (λ c. search copies))
