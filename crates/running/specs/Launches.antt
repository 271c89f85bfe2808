-- What a launch label means for a run, and what it leaves as it was: 02, Three. The run stands here once more, from the machine on.
--     earlier           refusals 1 to 6 and 9 to 11
--     ran_from           a run that is refused so, or whose job 0 begins at a label
--     Launched          a run with a launch label, and without one
--     AtBound           a run that is given the bound is the run as it was before runs took a launch label
--     DefaultPasses     a run that is given none is never refused by 14
-- proofs/Launched.antt proves them. Assumes nothing.
use Rattle.std.specs.Prelude.{ℕ, ◌+◌, ◌≡◌, true, List, ◌++◌, length, drop}
use Rattle.labels.specs.declared.Label.{Label}
use Rattle.labels.specs.Labels.{label, lower, reaches, is_above}
use Rattle.book.specs.Outcome.{Refusal, Passed, Refused}
use Rattle.book.specs.Book.{Book, parse}
use Rattle.book.specs.Refusals.{unreadable}
use Rattle.std.specs.Prelude.{None, Some}
use Rattle.machine.specs.Histories.{lists}
use Rattle.machine.specs.Events.{table_size, first_bound, launch_label, fresh_state, state_after, answers}
use Rattle.machine.specs.Records.{cell_records, job_records}
use Rattle.events.specs.Bytes.{events_in, unplayable}
use Rattle.tables.specs.Bytes.{cell_table, job_table}
use Rattle.interpreter.specs.Run.{or_next, memory_refusal, Run, ran}

-- 01: "running 1 to 6 and 9 to 11"
abbrev pub earlier : List ℕ → List ℕ → List ℕ → List ℕ → List ℕ → Refusal
earlier book list cells jobs room =
    or_next (unreadable book) (or_next (unplayable list) (memory_refusal (length (events_in list)) (length cells) (length jobs) (length room)))

-- what the lent memory holds after a run that is refused, and after one that is not, with job 0 at the label l
unfoldable pub ran_from : Refusal → Label → List ℕ → List ℕ → List ℕ → List ℕ → List ℕ → Run
ran_from (Refused n o) l book list cells jobs room =
    record { refusal = Refused n o; cell_count = 0; job_count = 0; cells = cells; jobs = jobs; answered = room }
ran_from Passed l book list cells jobs room =
    let K = parse book in
    let first = fresh_state lists K l in
    let s = state_after lists table_size K first (events_in list) in
    record {
      refusal = Passed;
      cell_count = length s.cells;
      job_count = length s.jobs;
      cells = cell_table (cell_records K s);
      jobs = job_table (job_records s);
      answered = answers lists table_size K first (events_in list) ++ drop (length (events_in list)) room;
    }

-- of every list of bytes
pub record Launched : Type 0 where
  -- "A run now takes a launch label for job 0, which is also its history."
  pub up_to : (book list cells jobs room : List ℕ) (l : Label) → reaches (first_bound (parse book)) l ≡ true
      → ran book (Some l) list cells jobs room ≡ ran_from (earlier book list cells jobs room) l book list cells jobs room
  -- "Errors: 14, after 11, when the launch label is above block 0's bound."
  pub above : (book list cells jobs room : List ℕ) (l : Label) → is_above l (first_bound (parse book)) ≡ true
      → ran book (Some l) list cells jobs room ≡ ran_from (or_next (earlier book list cells jobs room) (Refused 14 0)) l book list cells jobs room
  -- "Without one it is the smaller of C plus 1 and the bound."
  pub none : (book list cells jobs room : List ℕ)
      → ran book None list cells jobs room
      ≡ ran_from (earlier book list cells jobs room) (lower (label ((parse book).c.0 + 1)) (first_bound (parse book))) book list cells jobs room

-- "Existing tools and 01's sample runs relied on the bound, so each of them now passes it, and their recorded runs must give the same
-- answers". 01: "Job 0 runs block 0 at its bound, history that bound."
abbrev pub AtBound : Type 0
AtBound = (book list cells jobs room : List ℕ) → ran book (Some (first_bound (parse book))) list cells jobs room
    ≡ ran_from (earlier book list cells jobs room) (first_bound (parse book)) book list cells jobs room

-- the default is not above the bound, and 14 does not hold
pub record DefaultPasses : Type 0 where
  pub below : (K : Book) → reaches (first_bound K) (launch_label K None) ≡ true
  pub passes : (book list cells jobs room : List ℕ) (o : ℕ) → (ran book None list cells jobs room).refusal ≡ Refused 14 o → ⊥
