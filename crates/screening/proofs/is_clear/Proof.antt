-- `is_clear` meets its contract.
-- What each of the four stages gives from here on is what it gives of the book (`Screened`). An arm that answers false has nothing to show. Assumes nothing.
use Prim.Native.Nat.{◌-◌}
use lib.ListN.{length}
use borrow.Author.Rules.{rules}
use Rattle.book.proofs.Screens.{Screened, screens, screen_none}
use Rattle.screening.proofs.is_clear.Tie as tie
use Rattle.screening.proofs.is_clear.Statement.{statement}

abbrev invariant-loop : tie.invariant-loop-o
invariant-loop s o₀ p₀ n₀ o p n = Screened s o p n

abbrev decreases-loop : tie.decreases-loop-o
decreases-loop s o₀ p₀ n₀ o p n = length s - o

pub is_clear_spec : {M : Type 1} → statement M
is_clear_spec =
    tie.close
    (tie.spec
    invariant-loop
    decreases-loop
    (λ c. search screens)  -- the loop begins
    (λ c. search rules) (λ c κs. search rules) (λ c κs. search rules)
    (λ c. screen_none _)  -- w == 0
    (λ c κs. search rules) (λ c κs. search rules) (λ c κs. search rules)
    (λ c. screen_none _)  -- faults::too_many(m)
    (λ c κs. search rules) (λ c. search rules) (λ c. search rules)
    (λ c. search rules)  -- the measure falls
    (λ c. search screens)  -- the invariant holds again
    (λ c. screen_none _)  -- else
    (λ c. λ e. search screens))  -- at the end
