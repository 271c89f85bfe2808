-- What the loop over the events holds, as the machine's state over sources.
--     Placed        a job and the offset of its next step in the book
--     Holds         the arrays hold a state
--     opening       the state at the start
--     Drawn         a readable book, and what of its outline tells the cells, the shapes and the blocks
--     Lent          what is lent to a run that is not refused
--     Ready         what the loop asks for
-- Assumes nothing.
use Rattle.std.specs.Prelude.{ℕ, ◌<◌, ◌≤◌, ◌≡◌, List, map, length, take, drop, get_or}
use Rattle.labels.specs.declared.Label.{Label}
use Rattle.book.specs.Outcome.{Passed}
use Rattle.book.specs.Book.{parse, cells_of, blocks_of, step_at, steps_from}
use Rattle.book.specs.Refusals.{no_shape, unreadable}
use Rattle.book.specs.Outline.{shape_in, start_at}
use Rattle.book.specs.Asked.{Whole}
use Rattle.machine.specs.States.{State}
use Rattle.machine.specs.Histories.{sources}
use Rattle.machine.specs.Events.{table_size, block_of, fresh_state}
use Rattle.events.specs.Bytes.{events_in, unplayable}
use Rattle.tables.specs.Bytes.{cell_table_length, job_table_length}
use Rattle.acts.specs.declared.StoredCell.{StoredCell}
use Rattle.acts.specs.declared.StoredJob.{StoredJob}
use Rattle.acts.specs.Views.{cell_of, job_of}

-- in the book b the steps that are left of the job's block stand from j's offset on
pub record Placed (b : List ℕ) (j : StoredJob) : Type 0 where
  pub inside : j.at ≤ length b
  pub whole : Whole b j.at
  pub left : map (step_at b) (steps_from b j.at) ≡ drop j.position (block_of (parse b) j.block).steps
  pub behind : j.position ≤ j.at

-- n cells and m jobs at the front of the arrays are those of the state s
pub record Holds (b : List ℕ) (s : State Label) (cells : List StoredCell) (n : ℕ) (jobs : List StoredJob) (m : ℕ) : Type 0 where
  pub cells_are : map cell_of (take n cells) ≡ s.cells
  pub cells_long : length cells ≡ table_size
  pub cells_fit : n ≤ table_size
  pub jobs_are : map job_of (take m jobs) ≡ s.jobs
  pub jobs_long : length jobs ≡ table_size
  pub jobs_fit : m ≤ table_size
  pub some_job : 0 < m
  pub placed : (i : ℕ) (d : StoredJob) → i < m → Placed b (get_or jobs i d)

-- the machine's state at the start, over sources, with job 0 at this label
abbrev pub opening : List ℕ → Label → State Label
opening b l = fresh_state sources (parse b) l

-- a list of events, and memory for the tables and the answers: what refusals 9 to 11 do not hold of
pub record Lent (list cells jobs answers : List ℕ) : Type 0 where
  pub playable : unplayable list ≡ Passed
  pub room : length (events_in list) ≤ length answers
  pub cells_sized : length cells ≡ cell_table_length
  pub jobs_sized : length jobs ≡ job_table_length

-- a readable book, and the parts of its outline that the machine is played from
pub record Drawn (b shapes offsets starts : List ℕ) : Type 0 where
  pub readable : unreadable b ≡ Passed
  pub shapes_are : (i : ℕ) → shape_in shapes i ≡ get_or (parse b).shapes i no_shape
  pub offsets_are : offsets ≡ cells_of b
  pub starts_are : starts ≡ map start_at (blocks_of b)

-- a readable book, the parts of its outline that the loop is lent, and what is lent to the run
pub record Ready (b : List ℕ) (c : Label) (shapes offsets starts list cells jobs answers : List ℕ) : Type 0 where
  pub readable : unreadable b ≡ Passed
  pub c_is : c ≡ (parse b).c
  pub shapes_are : (i : ℕ) → shape_in shapes i ≡ get_or (parse b).shapes i no_shape
  pub offsets_are : offsets ≡ cells_of b
  pub starts_are : starts ≡ map start_at (blocks_of b)
  pub lent : Lent list cells jobs answers
