-- What is sought from the next place on is what was sought: past the places ahead of the first, and then past those behind it.
use Prim.Native.Nat.{◌+◌, ◌-◌}
use mathlib.Core.Path.{◌≡◌}
use Rattle.rotation.specs.Round.{first_place, scan}
use Rattle.rotation.specs.Scans.{is_pending}
use Rattle.rotation.proofs.next_job.Given as goal

abbrev pub invariant-loop-at : goal.invariant-loop-at
invariant-loop-at l =
    scan (is_pending l.jobs) l.count (l.count - l.at + l.from) (first_place l.at l.count) ≡ scan (is_pending l.jobs) l.count l.count l.from

abbrev pub invariant-loop-at-2 : goal.invariant-loop-at-2
invariant-loop-at-2 l = scan (is_pending l.jobs) l.count (l.from - l.at) l.at ≡ scan (is_pending l.jobs) l.count l.count l.from
