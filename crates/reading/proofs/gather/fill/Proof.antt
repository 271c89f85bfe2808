-- `gather::fill` meets its contract. Each table has the entries of the records behind, and zeros (`Gathered`); each group of records has its arm. Assumes nothing.
use Prim.Native.Nat.{◌-◌}
use borrow.Author.Rules.{rules}
use Rattle.book.proofs.Gathered.{Gathered, gathers, rooms}
use Rattle.book.proofs.Records.{falls}
use Rattle.book.proofs.Stages.{onward}
use Rattle.reading.proofs.gather.fill.Tie as tie
use Rattle.reading.proofs.gather.fill.Statement.{statement}

abbrev invariant-loop : tie.invariant-loop-o
invariant-loop s shape₀ cell₀ shaped₀ bound₀ start₀ size₀ n₀ o₀ shape cell shaped bound start size n o = Gathered s o shape cell shaped bound start size n

abbrev decreases-loop : tie.decreases-loop-o
decreases-loop s shape₀ cell₀ shaped₀ bound₀ start₀ size₀ n₀ o₀ shape cell shaped bound start size n o = lib.ListN.length s - o

pub fill_spec : {M : Type 1} → statement M
fill_spec =
    tie.close
    (tie.spec
    invariant-loop
    decreases-loop
    (λ c κs. search rules)
    (λ c. search gathers)  -- the loop begins
    (λ c. search rules) (λ c κs. search rules) (λ c κs. search rules) (λ c κs. search rules)
    (λ c κs. search rooms)
    (λ c. search rules)
    (λ c. search falls)  -- the measure falls
    (λ c. search gathers)  -- the invariant holds again
    (λ c κs. search (rooms, rules))
    (λ c. search rules)
    (λ c. search falls)  -- the measure falls
    (λ c. search gathers)  -- the invariant holds again
    (λ c κs. search onward)
    (λ c κs. search rooms)
    (λ c. search rules)
    (λ c. search rooms)
    (λ c. search rooms)  -- the measure falls
    (λ c. search gathers)  -- the invariant holds again
    (λ c. search falls)  -- the measure falls
    (λ c. search gathers)  -- the invariant holds again
    (λ c. search gathers))
