-- `scan` meets its contract. The events behind are whole, and their number is the count. Assumes nothing.
use Prim.Native.Nat.{◌-◌}
use lib.ListN.{length}
use borrow.Author.Rules.{rules}
use Rattle.events.proofs.Scans.{Scanning, scans, turn_room, turn_few}
use Rattle.events.proofs.scan.Tie as tie
use Rattle.events.proofs.scan.Statement.{statement}

abbrev invariant-loop : tie.invariant-loop-o
invariant-loop list o₀ n₀ o n = Scanning list o n

abbrev decreases-loop : tie.decreases-loop-o
decreases-loop list o₀ n₀ o n = length list - o

pub scan_spec : {M : Type 1} → statement M
scan_spec =
    tie.close
    (tie.spec
    invariant-loop
    decreases-loop
    (λ c κs. search rules)
    (λ c. search scans)  -- 65536 < list.len()
    (λ c κs. search rules)
    (λ c. search (scans, rules))  -- the loop begins
    (λ c κs. search rules) (λ c κs. search rules)
    (λ c. search scans)  -- is_cut(list, o)
    (λ c κs. search rules)
    (λ c κs.
    let l = c.before.before.before in
    turn_room _ _ _ l.before.loop-o.invariant _ c.before.before.is_cut.ensures l.loop-o-test.true c.before.if-is_cut.false _ c.next_event.ensures)
    (λ c.
    let l = c.before.before.before.before in
    let f = turn_few _ _ _ l.before.loop-o.invariant _ c.before.before.before.is_cut.ensures l.loop-o-test.true
    c.before.before.if-is_cut.false _ c.before.next_event.ensures _ _ c.pass_steps-r.ensures in
    search rules)
    (λ c.
    let l = c.before.before.before.before.before in
    let f = turn_few _ _ _ l.before.loop-o.invariant _ c.before.before.before.before.is_cut.ensures l.loop-o-test.true
    c.before.before.before.if-is_cut.false _ c.before.before.next_event.ensures _ _ c.before.pass_steps-r.ensures in
    search rules)
    (λ c. search scans)  -- the measure falls
    (λ c. search scans)  -- the invariant holds again
    (λ c. search scans))  -- at the end
