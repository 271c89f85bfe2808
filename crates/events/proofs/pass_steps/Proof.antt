-- `pass_steps` meets its contract. What was passed over are steps, two bytes each. Assumes nothing.
use Prim.Native.Nat.{◌-◌}
use lib.ListN.{length}
use borrow.Author.Rules.{rules}
use Rattle.events.specs.Asked.{Steps}
use Rattle.events.proofs.Scans.{passes, steps_few}
use Rattle.events.proofs.pass_steps.Tie as tie
use Rattle.events.proofs.pass_steps.Statement.{statement}

abbrev invariant-loop : tie.invariant-loop-o
invariant-loop list from o₀ n₀ o n = Steps list from o n

abbrev decreases-loop : tie.decreases-loop-o
decreases-loop list from o₀ n₀ o n = length list - o

pub pass_steps_spec : {M : Type 1} → statement M
pass_steps_spec =
    tie.close
    (tie.spec
    invariant-loop
    decreases-loop
    (λ c. search (passes, rules))  -- the loop begins
    (λ c. let f = steps_few _ _ _ _ c.loop-o.invariant c.before.requires.1 in search rules)
    (λ c. search rules) (λ c. search rules)
    (λ c. let l = c.before.before.before in let f = steps_few _ _ _ _ l.loop-o.invariant l.before.requires.1 in search rules)
    (λ c. let l = c.before.before.before in let f = steps_few _ _ _ _ l.loop-o.invariant l.before.requires.1 in search rules)
    (λ c. search rules)
    (λ c. search (passes, rules))  -- the invariant holds again
    (λ c. search rules))
