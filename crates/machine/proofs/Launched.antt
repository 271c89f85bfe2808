-- The label of job 0.
--     default_below     without a launch label it is not above the bound
-- Assumes nothing.
use mathlib.Core.Path.{◌≡◌}
use mathlib.Core.Bool.{true}
use Prim.Native.Nat.{min}
use native.Mathlib.Omega.{arith}
use borrow.Author.Tests.{le-leb}
use Rattle.labels.specs.declared.Label.{Label}
use Rattle.labels.specs.Labels.{lower, reaches}
use Rattle.book.specs.Book.{Book}
use Rattle.std.specs.Prelude.{None}
use Rattle.machine.specs.Events.{first_bound, launched_at, launch_label}

lower_below : (a b : Label) → reaches b (lower a b) ≡ true
unfolding lower
lower_below a b = le-leb (min a.0 b.0) b.0 (omega arith)

pub default_below : (K : Book) → reaches (first_bound K) (launch_label K None) ≡ true
unfolding launched_at
default_below K = lower_below _ (first_bound K)
