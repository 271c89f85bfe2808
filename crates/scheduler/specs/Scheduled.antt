-- What the loop over the turns asks for and holds.
--     Schedulable      a readable book, and what is lent to a round that is not refused
--     Pends            beside each job stands whether it has a step left
-- Assumes nothing.
use Rattle.std.specs.Prelude.{ℕ, ◌<◌, ◌≤◌, ◌≡◌, List, length, get_or}
use Rattle.book.specs.Stretch.{step_end}
use Rattle.machine.specs.Events.{table_size}
use Rattle.acts.specs.declared.StoredJob.{StoredJob}
use Rattle.tables.specs.Bytes.{cell_table_length, job_table_length}
use Rattle.interpreter.specs.Loop.{Drawn}
use Rattle.rotation.specs.declared.Pending.{Pending}
use Rattle.scheduler.specs.Rounds.{most_turns}

-- the parts of the book's outline, memory for the tables and the answers, and a number of turns
pub record Schedulable (b shapes offsets starts cells jobs answers : List ℕ) (turns : ℕ) : Type 0 where
  pub drawn : Drawn b shapes offsets starts
  pub cells_sized : length cells ≡ cell_table_length
  pub jobs_sized : length jobs ≡ job_table_length
  pub room : turns ≤ length answers
  pub few : turns ≤ most_turns

-- entry i says where the next step of job i ends
pub record Pends (b : List ℕ) (jobs : List StoredJob) (m : ℕ) (pending : List Pending) : Type 0 where
  pub long : length pending ≡ table_size
  pub each : (i : ℕ) (p : Pending) (d : StoredJob) → i < m → (get_or pending i p).past ≡ step_end b (get_or jobs i d).at
