-- The run of a book, for every list of bytes: its refusals, and what the lent memory holds afterwards. 01, "The machine"; 02, Three.
--     unrunnable      refusals 1 to 6, 9 to 11 and 14
--     Run, run_by      the result, and the three lent lists after the call
--     ran             what they are
--     played          what they are after these events
-- Assumes nothing.
use Rattle.std.specs.Prelude.{ℕ, List, ◌++◌, ltb, eqb, length, drop}
use Rattle.labels.specs.declared.Label.{Label}
use Rattle.labels.specs.Labels.{is_above}
use Rattle.book.specs.Outcome.{Refusal, Passed, Refused, Given, outcome, given_or}
use Rattle.book.specs.Control.{when◌then◌else◌, both}
use Rattle.book.specs.Book.{parse}
use Rattle.book.specs.Refusals.{unreadable}
use Rattle.machine.specs.Launch.{Launch}
use Rattle.std.specs.Prelude.{None, Some}
use Rattle.machine.specs.declared.Event.{Event}
use Rattle.machine.specs.Histories.{History, lists}
use Rattle.machine.specs.States.{State}
use Rattle.machine.specs.Events.{table_size, first_bound, launch_label, fresh_state, state_after, answers}
use Rattle.machine.specs.Records.{cell_records, job_records}
use Rattle.events.specs.Bytes.{events_in, unplayable}
use Rattle.tables.specs.Bytes.{cell_table_length, job_table_length, cell_table, job_table}
use Rattle.interpreter.specs.declared.InUse.{InUse}

-- "a stage covers the whole book before the next begins"
unfoldable pub or_next : Refusal → Refusal → Refusal
or_next Passed r = r
or_next (Refused n o) r = Refused n o

-- 10: "The cell or job table has not exactly 64 entries."
unfoldable pub untabled : ℕ → ℕ → Refusal
untabled cells jobs = when both (eqb cells cell_table_length) (eqb jobs job_table_length) then Passed else Refused 10 0

-- 11: "The answer buffer has fewer bytes than the list has events."
unfoldable pub unanswered : ℕ → ℕ → Refusal
unanswered room events = when ltb room events then Refused 11 0 else Passed

-- 10, then 11
abbrev pub memory_refusal : ℕ → ℕ → ℕ → ℕ → Refusal
memory_refusal events cells jobs room = or_next (untabled cells jobs) (unanswered room events)

-- 02, Three: 14, "when the launch label is above block 0's bound"
unfoldable pub unlaunched : Label → Launch → Refusal
unlaunched bound None = Passed
unlaunched bound (Some l) = when is_above l bound then Refused 14 0 else Passed

-- "running 1 to 6 and 9 to 11"; 02, Three: "14, after 11". By the refusals of the book, of the list and of the launch label, with the number of events
unfoldable pub refusal_by : Refusal → Refusal → Refusal → ℕ → ℕ → ℕ → ℕ → Refusal
refusal_by read played launched events cells jobs room = or_next read (or_next played (or_next (memory_refusal events cells jobs room) launched))

abbrev pub unrunnable : List ℕ → Launch → List ℕ → ℕ → ℕ → ℕ → Refusal
unrunnable book launch list cells jobs room =
    refusal_by (unreadable book) (unplayable list) (unlaunched (first_bound (parse book)) launch) (length (events_in list)) cells jobs room

-- "The run's result gives the cells and jobs in use."
pub record Run : Type 0 where
  pub refusal : Refusal
  pub cell_count : ℕ
  pub job_count : ℕ
  pub cells : List ℕ
  pub jobs : List ℕ
  pub answered : List ℕ

-- what a call gave, and what it left in the cell table, the job table and the answer buffer
abbrev pub run_by : Given InUse → List ℕ → List ℕ → List ℕ → Run
run_by r cells jobs answered =
    let u = given_or (record { cells = 0; jobs = 0 }) r in
    record { refusal = outcome r; cell_count = u.cells; job_count = u.jobs; cells = cells; jobs = jobs; answered = answered }

-- the machine's state after the events, job 0 at the label l: "A run begins fresh"
abbrev pub final_state : List ℕ → Label → List ℕ → State History
final_state book l list = state_after lists table_size (parse book) (fresh_state lists (parse book) l) (events_in list)

-- the machine's answers, and "answer bytes beyond the events keep their contents"
abbrev pub final_answers : List ℕ → Label → List ℕ → List ℕ → List ℕ
final_answers book l list room =
    answers lists table_size (parse book) (fresh_state lists (parse book) l) (events_in list) ++ drop (length (events_in list)) room

-- "A refusal .. leaves all lent memory untouched."
unfoldable pub ran_of : Refusal → List ℕ → Label → List ℕ → List ℕ → List ℕ → List ℕ → Run
ran_of (Refused n o) book l list cells jobs room =
    record { refusal = Refused n o; cell_count = 0; job_count = 0; cells = cells; jobs = jobs; answered = room }
ran_of Passed book l list cells jobs room =
    let s = final_state book l list in
    record {
      refusal = Passed;
      cell_count = length s.cells;
      job_count = length s.jobs;
      cells = cell_table (cell_records (parse book) s);
      jobs = job_table (job_records s);
      answered = final_answers book l list room;
    }

-- of a book, a launch label or none, an event list, and what the cell table, the job table and the answer buffer held before
abbrev pub ran : List ℕ → Launch → List ℕ → List ℕ → List ℕ → List ℕ → Run
ran book launch list cells jobs room =
    ran_of (unrunnable book launch list (length cells) (length jobs) (length room)) book (launch_label (parse book) launch) list cells jobs room

-- the same where the events come from no list of bytes: the machine's state after these events
abbrev pub state_by : List ℕ → Label → List Event → State History
state_by book l es = state_after lists table_size (parse book) (fresh_state lists (parse book) l) es

-- the machine's answers to them, and what the answer buffer holds beyond
abbrev pub answers_by : List ℕ → Label → List Event → List ℕ → List ℕ
answers_by book l es room = answers lists table_size (parse book) (fresh_state lists (parse book) l) es ++ drop (length es) room

-- after a run of these events; room is what the answer buffer held before
unfoldable pub played : List ℕ → Label → List Event → List ℕ → Run
played book l es room =
    let s = state_by book l es in
    record {
      refusal = Passed;
      cell_count = length s.cells;
      job_count = length s.jobs;
      cells = cell_table (cell_records (parse book) s);
      jobs = job_table (job_records s);
      answered = answers_by book l es room;
    }
