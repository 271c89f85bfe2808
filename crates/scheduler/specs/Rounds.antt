-- A round of a book, for every list of bytes: its refusals, and what the lent memory holds afterwards. 02, Six.
--     unroundable       refusals 1 to 6, 10, 11, 14 and 15
--     Round, round_by    the result, and the three lent lists after the call
--     rounded           what they are
-- Assumes nothing.
use Rattle.std.specs.Prelude.{ℕ, List, map, ltb, length}
use Rattle.labels.specs.declared.Label.{Label}
use Rattle.book.specs.Outcome.{Refusal, Passed, Refused, Given, outcome, given_or}
use Rattle.book.specs.Control.{when◌then◌else◌}
use Rattle.book.specs.Book.{parse}
use Rattle.book.specs.Refusals.{unreadable}
use Rattle.machine.specs.Launch.{Launch}
use Rattle.machine.specs.declared.Event.TheVariants.{StepOf}
use Rattle.machine.specs.Histories.{lists}
use Rattle.machine.specs.Events.{table_size, first_bound, launch_label}
use Rattle.interpreter.specs.Run.{or_next, unlaunched, refusal_by, Run, played}
use Rattle.rotation.specs.Round.{round_of}
use Rattle.scheduler.specs.declared.TurnsUsed.{TurnsUsed}

-- "a number of turns up to 4,096"
abbrev pub most_turns : ℕ
most_turns = 4096

-- 15: "when the turns exceed 4,096"
unfoldable pub overlong : ℕ → Refusal
overlong turns = when ltb most_turns turns then Refused 15 0 else Passed

-- The refusals of a run, but for those of its list: "Refusal 11 here means fewer answer bytes than turns." "15, after 14". By the refusals of
-- the book and of the launch label
unfoldable pub round_refusal : Refusal → Refusal → ℕ → ℕ → ℕ → ℕ → Refusal
round_refusal read launched cells jobs room turns = or_next (refusal_by read Passed launched turns cells jobs room) (overlong turns)

abbrev pub unroundable : List ℕ → Launch → ℕ → ℕ → ℕ → ℕ → Refusal
unroundable book launch cells jobs room turns = round_refusal (unreadable book) (unlaunched (first_bound (parse book)) launch) cells jobs room turns

-- what a run has, "and reports the turns used"
pub record Round : Type 0 where
  pub run : Run
  pub turns : ℕ

-- what a call gave, and what it left in the cell table, the job table and the answer buffer
abbrev pub round_by : Given TurnsUsed → List ℕ → List ℕ → List ℕ → Round
round_by r cells jobs answered =
    let u = given_or (record { cells = 0; jobs = 0; turns = 0 }) r in
    record {
      run = record { refusal = outcome r; cell_count = u.cells; job_count = u.jobs; cells = cells; jobs = jobs; answered = answered };
      turns = u.turns;
    }

-- the jobs that a round of at most so many turns steps, job 0 at the label l; "job 0 is looked at first"
abbrev pub jobs_chosen : List ℕ → Label → ℕ → List ℕ
jobs_chosen book l turns = round_of lists table_size (parse book) l turns

-- "A refusal .. leaves all lent memory untouched." "The round equals the run on the list of steps that it chose."
unfoldable pub rounded_of : Refusal → List ℕ → Label → List ℕ → List ℕ → List ℕ → ℕ → Round
rounded_of (Refused n o) book l cells jobs room turns =
    record { run = record { refusal = Refused n o; cell_count = 0; job_count = 0; cells = cells; jobs = jobs; answered = room }; turns = 0 }
rounded_of Passed book l cells jobs room turns =
    record { run = played book l (map StepOf (jobs_chosen book l turns)) room; turns = length (jobs_chosen book l turns) }

-- of a book, a launch label or none, what the cell table, the job table and the answer buffer held before, and a number of turns
abbrev pub rounded : List ℕ → Launch → List ℕ → List ℕ → List ℕ → ℕ → Round
rounded book launch cells jobs room turns =
    rounded_of (unroundable book launch (length cells) (length jobs) (length room) turns) book (launch_label (parse book) launch) cells jobs room turns
