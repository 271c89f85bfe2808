-- What a round that is not refused has.
--     Roundable      a readable book and its outline, what is lent, and the turns
-- Assumes nothing.
use Rattle.std.specs.Prelude.{ℕ, ◌≤◌, ◌≡◌, List, length}
use Rattle.book.specs.declared.Outline.{Outline}
use Rattle.book.specs.Outcome.{Passed}
use Rattle.book.specs.Refusals.{unreadable}
use Rattle.book.specs.Outline.{outline_of}
use Rattle.tables.specs.Bytes.{cell_table_length, job_table_length}
use Rattle.scheduler.specs.Rounds.{most_turns}

-- what refusals 1 to 6, 10, 11 and 15 do not hold of
pub record Roundable (b : List ℕ) (t : Outline) (cells jobs answers : List ℕ) (turns : ℕ) : Type 0 where
  pub readable : unreadable b ≡ Passed
  pub outlined : t ≡ outline_of b
  pub cells_sized : length cells ≡ cell_table_length
  pub jobs_sized : length jobs ≡ job_table_length
  pub room : turns ≤ length answers
  pub few : turns ≤ most_turns
