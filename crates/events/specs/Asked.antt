-- What a function inside this crate says of the event list. No call that a user makes speaks of it.
--     Steps      steps that stand one after the other
-- Assumes nothing.
use Rattle.std.specs.Prelude.{◌≡◌, List, ℕ, ◌+◌, ◌*◌, ◌<◌, ◌≤◌, length}
use Rattle.book.specs.Records.{byte_at}
use Rattle.events.specs.Bytes.{step_event}

-- from an offset on stand n whole events of a step, and behind them the offset o
pub record Steps (l : List ℕ) (from o n : ℕ) : Type 0 where
  pub past : o ≡ from + 2 * n
  pub inside : o ≤ length l
  pub step : (i : ℕ) → i < n → byte_at l (from + 2 * i) ≡ step_event
