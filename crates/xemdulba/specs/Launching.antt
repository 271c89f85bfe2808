-- What include/xemdulba.h says of the number that a run is launched by. proofs/Launching.antt proves it.
--     LaunchNumbers
-- Assumes nothing.
use Rattle.std.specs.Prelude.{ℕ, ◌-◌, ◌<◌, ◌≤◌, ◌≡◌, List}
use Rattle.labels.specs.Labels.{label}
use Rattle.book.specs.Outcome.{Passed, Refused}
use Rattle.book.specs.Records.{byte_at}
use Rattle.book.specs.Book.{parse}
use Rattle.book.specs.Refusals.{unreadable}
use Rattle.book.specs.Stretch.{found_block}
use Rattle.std.specs.Prelude.{None, Some}
use Rattle.machine.specs.Events.{first_bound}
use Rattle.interpreter.specs.Run.{unlaunched}
use Rattle.xemdulba.specs.Calls.{launch_of}

pub record LaunchNumbers : Type 0 where
  -- 0xFFFFFFFF stands for none, and a byte for that label
  pub none : launch_of 4294967295 ≡ None
  pub given : (n : ℕ) → n ≤ 255 → launch_of n ≡ Some (label n)
  -- "Any other number above that bound is refused by 14."
  pub above : (book : List ℕ) → unreadable book ≡ Passed → (n : ℕ) → (first_bound (parse book)).0 < n → (n ≡ 4294967295 → ⊥)
      → unlaunched (first_bound (parse book)) (launch_of n) ≡ Refused 14 0
  -- of a book that xemdulba_block does not refuse, "the bound is the byte before the stretch of block 0"
  pub bound : (book : List ℕ) → unreadable book ≡ Passed → byte_at book ((found_block book 0).start - 1) ≡ (first_bound (parse book)).0
