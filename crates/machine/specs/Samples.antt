-- Sample runs.
--     SampleRuns       those of 01, "Sample books"
--     HistoryRun       one that has nearly every act, with the histories that it leaves
--     TopSums          sums at the top: 02, Two
--     LaunchRuns       book A launched low, and the default label: 02, Three
--     ChooseRuns       a choice that hangs on an outsider's value: 02, Four
-- Assumes nothing.
use Rattle.std.specs.Prelude.{ℕ, ◌≡◌, List, [], ◌∷◌, map, replicate}
use Rattle.std.proofs.Math.Option.{some}
use Rattle.std.proofs.Math.ListN.{get_elem?}
use Rattle.labels.specs.declared.Label.{Label}
use Rattle.labels.specs.Labels.{label, trust}
use Rattle.book.specs.declared.Value.{Value}
use Rattle.book.specs.declared.Value.TheVariants.{Plain, CodeName}
use Rattle.book.specs.declared.Step.TheVariants.{Put, Add, Lower, Choose}
use Rattle.book.specs.Book.{Book, parse}
use Rattle.book.specs.Samples.{book_a, last_write, book_of_choice}
use Rattle.machine.specs.Launch.{Launch}
use Rattle.std.specs.Prelude.{None, Some}
use Rattle.machine.specs.declared.Event.{Event}
use Rattle.machine.specs.declared.Event.TheVariants.{StepOf, WriteBy, RelabelBy, NewBy, ExecBy, StartBy}
use Rattle.machine.specs.Histories.{History, hands, lists}
use Rattle.machine.specs.States.{Traced, Cell, Job, State}
use Rattle.machine.specs.Steps.{register}
use Rattle.machine.specs.Events.{table_size, first_bound, launched_at, launch_label, fresh_state, state_after, answers}
use Rattle.machine.specs.Records.{CellRecord, cell_records}

-- book A, with this bound
abbrev pub of_bound : ℕ → Book
of_bound b = parse (book_a 0x09 0x09 b last_write)

-- job 0 launched so
abbrev pub begun : Book → Launch → State History
begun K launch = fresh_state lists K (launch_label K launch)

-- 02, Three: "01's sample runs relied on the bound, so each of them now passes it"
abbrev pub at_bound : Book → Launch
at_bound K = Some (first_bound K)

abbrev pub answers_of : Book → List Event → List ℕ
answers_of K es = answers lists table_size K (begun K (at_bound K)) es

abbrev pub reached : Book → List Event → State History
reached K es = state_after lists table_size K (begun K (at_bound K)) es

abbrev pub cells_after : Book → List Event → List CellRecord
cells_after K es = cell_records K (reached K es)

-- "50 00 four times"
abbrev pub four_steps : List Event
four_steps = StepOf 0 ∷ StepOf 0 ∷ StepOf 0 ∷ StepOf 0 ∷ []

-- book A's cell, with this number of this source
abbrev pub sample_cell : ℕ → ℕ → List CellRecord
sample_cell n l =
    record { shape = 1; trust = trust 9; label = label 9; value = record { kind = 0; number = n; source = label l } } ∷ []

-- "51 03 00 00 07 00 00 00", with this label for 03
abbrev pub write_seven : ℕ → List Event
write_seven q = WriteBy (label q) 0 0 7 ∷ []

pub record SampleRuns : Type 0 where
  -- "Running A on 50 00 four times answers 0 0 0 2 and cell 0 is 7 with source 12"
  pub high_answers : answers_of (of_bound 0x0C) four_steps ≡ 0 ∷ 0 ∷ 0 ∷ 2 ∷ []
  pub high_cells : cells_after (of_bound 0x0C) four_steps ≡ sample_cell 7 12
  -- "with bound 08, 0 0 1 1 and 5"
  pub stuck_answers : answers_of (of_bound 0x08) four_steps ≡ 0 ∷ 0 ∷ 1 ∷ 1 ∷ []
  pub stuck_cells : cells_after (of_bound 0x08) four_steps ≡ sample_cell 5 15
  -- "Event 51 03 00 00 07 00 00 00 answers 1; with 04 for 03, 3."
  pub outsider_blocked : answers_of (of_bound 0x0C) (write_seven 3) ≡ 1 ∷ []
  pub outsider_refused : answers_of (of_bound 0x0C) (write_seven 4) ≡ 3 ∷ []

-- C 3; shapes: plain, a cell of it, code of bound 12, a cell of it; cells, of low trust and label 0: a number, block 1's code
abbrev pub book_of_acts : List ℕ
book_of_acts =
    0x01 ∷ 0x03
    ∷ 0x10
    ∷ 0x12 ∷ 0x00 ∷ 0x00
    ∷ 0x11 ∷ 0x0C
    ∷ 0x12 ∷ 0x02 ∷ 0x00
    ∷ 0x20 ∷ 0x01 ∷ 0x00 ∷ 0x00 ∷ 0x05 ∷ 0x00 ∷ 0x00 ∷ 0x00
    ∷ 0x20 ∷ 0x03 ∷ 0x00 ∷ 0x02 ∷ 0x01 ∷ 0x00 ∷ 0x00 ∷ 0x00
    ∷ 0x30 ∷ 0x0C
    ∷ 0x41 ∷ 0x00 ∷ 0x00  -- name 0, cell 0
    ∷ 0x45 ∷ 0x01 ∷ 0x00  -- read 1, 0
    ∷ 0x40 ∷ 0x02 ∷ 0x07 ∷ 0x00 ∷ 0x00 ∷ 0x00  -- put 2, 7
    ∷ 0x43 ∷ 0x03 ∷ 0x01 ∷ 0x02  -- add 3, 1, 2
    ∷ 0x44 ∷ 0x04 ∷ 0x01 ∷ 0x03  -- new 4, shape 1, 3
    ∷ 0x48 ∷ 0x05  -- lower 5
    ∷ 0x46 ∷ 0x00 ∷ 0x02  -- write 0, 2
    ∷ 0x49 ∷ 0x01  -- start block 1
    ∷ 0x41 ∷ 0x05 ∷ 0x01  -- name 5, cell 1
    ∷ 0x4A ∷ 0x05  -- exec 5
    ∷ 0x30 ∷ 0x0C
    ∷ []

-- an outsider writes 9 into cell 0; job 0 takes its ten steps; then an outsider runs cell 1, makes a cell, relabels cell 0, starts block 1
abbrev pub acts : List Event
acts =
    WriteBy (label 3) 0 0 9
    ∷ StepOf 0 ∷ StepOf 0 ∷ StepOf 0 ∷ StepOf 0 ∷ StepOf 0 ∷ StepOf 0 ∷ StepOf 0 ∷ StepOf 0 ∷ StepOf 0 ∷ StepOf 0
    ∷ ExecBy (label 2) 1 ∷ NewBy (label 1) 1 0 8 ∷ RelabelBy (label 3) 0 (label 2) ∷ StartBy (label 2) 1
    ∷ []

abbrev pub numbers : History → List ℕ
numbers h = map (λ (l : Label). l.0) (hands h)

-- a cell's label, value and the value's history; a job's block, position, label and history
abbrev pub shown_cell : Cell History → ℕ × Value × List ℕ
shown_cell c = (c.label.0, c.content.value, numbers c.content.history)

abbrev pub shown_job : Job History → ℕ × ℕ × ℕ × List ℕ
shown_job j = (j.block, j.position, j.label.0, numbers j.history)

abbrev pub after_acts : State History
after_acts = reached (parse book_of_acts) acts

pub record HistoryRun : Type 0 where
  pub cells : map shown_cell after_acts.cells
      ≡ (2, Plain 7, 12 ∷ 12 ∷ 5 ∷ []) ∷ (0, CodeName 1, 15 ∷ []) ∷ (12, Plain 16, 3 ∷ 3 ∷ 12 ∷ 12 ∷ 12 ∷ 12 ∷ []) ∷ (1, Plain 8, 1 ∷ 1 ∷ []) ∷ []
  pub jobs : map shown_job after_acts.jobs
      ≡ (0, 10, 5, 12 ∷ 5 ∷ [])
      ∷ (1, 0, 5, 12 ∷ 5 ∷ [])
      ∷ (1, 0, 0, 12 ∷ 5 ∷ 15 ∷ 0 ∷ [])
      ∷ (1, 0, 0, 2 ∷ 15 ∷ 0 ∷ [])
      ∷ (1, 0, 2, 2 ∷ [])
      ∷ []

-- put 0, x; put 1, y; put 2, 9; add 2, 0, 1
abbrev pub summing : ℕ → ℕ → Book
summing x y =
    record {
      c = label 3;
      shapes = [];
      cells = [];
      blocks = record { bound = label 12; steps = Put 0 x ∷ Put 1 y ∷ Put 2 9 ∷ Add 2 0 1 ∷ [] } ∷ [];
    }

-- up to the add
abbrev pub three_steps : List Event
three_steps = StepOf 0 ∷ StepOf 0 ∷ StepOf 0 ∷ []

-- 02, Two: "add is blocked"; 01: "\"Blocked\" changes nothing"
pub record SumBlocked (x y : ℕ) : Type 0 where
  pub answered : answers_of (summing x y) four_steps ≡ 0 ∷ 0 ∷ 0 ∷ 1 ∷ []
  pub state : reached (summing x y) four_steps ≡ reached (summing x y) three_steps

-- add is done, and register 2 has the sum
pub record SumDone (x y sum : ℕ) : Type 0 where
  pub answered : answers_of (summing x y) four_steps ≡ 0 ∷ 0 ∷ 0 ∷ 0 ∷ []
  pub value : map (λ (j : Job History). (register lists j 2).value) (reached (summing x y) four_steps).jobs ≡ Plain sum ∷ []

pub record TopSums : Type 0 where
  pub top_and_one : SumBlocked 4294967295 1
  pub two_halves : SumBlocked 2147483648 2147483648
  pub two_tops : SumBlocked 4294967295 4294967295
  pub top_and_none : SumDone 4294967295 0 4294967295
  pub nearly_halves : SumDone 2147483647 2147483648 4294967295

-- a job's label, its history, and the histories of its registers
abbrev pub hands_of : Job History → ℕ × List ℕ × List (List ℕ)
hands_of j = (j.label.0, numbers j.history, map (λ (v : Traced History). numbers v.history) j.registers)

-- a job that is launched at this label
abbrev pub hands_at : ℕ → ℕ × List ℕ × List (List ℕ)
hands_at l = (l, l ∷ [], replicate 8 (l ∷ []))

-- two blocks, of these bounds
abbrev pub of_bounds : ℕ → ℕ → Book
of_bounds a b =
    record { c = label 3; shapes = []; cells = []; blocks = record { bound = label a; steps = [] } ∷ record { bound = label b; steps = [] } ∷ [] }

-- the default label, by C and the bound
abbrev pub by_default : ℕ → ℕ → ℕ
by_default c b = (launched_at (label c) (label b) None).0

-- 02, Three. Book A has C 3 and the bound 12, and writes a cell of label 9.
pub record LaunchRuns : Type 0 where
  pub low_answers : answers lists table_size (of_bound 0x0C) (begun (of_bound 0x0C) None) four_steps ≡ 0 ∷ 0 ∷ 1 ∷ 1 ∷ []
  pub low_job : map hands_of (begun (of_bound 0x0C) None).jobs ≡ hands_at 4 ∷ []
  pub given_answers : answers lists table_size (of_bound 0x0C) (begun (of_bound 0x0C) (Some (label 9))) four_steps ≡ 0 ∷ 0 ∷ 0 ∷ 2 ∷ []
  pub given_job : map hands_of (begun (of_bound 0x0C) (Some (label 9))).jobs ≡ hands_at 9 ∷ []
  -- "block 0's bound", whatever that of block 1 is
  pub bounds : (first_bound (of_bounds 12 2)).0 ∷ (first_bound (of_bounds 2 12)).0 ∷ [] ≡ 12 ∷ 2 ∷ []
  -- "the smaller of C plus 1 and the bound": C plus 1 below the bound, at it, and above it
  pub defaults : by_default 3 5 ∷ by_default 3 4 ∷ by_default 3 3 ∷ by_default 3 0 ∷ by_default 14 15 ∷ [] ≡ 4 ∷ 4 ∷ 3 ∷ 0 ∷ 15 ∷ []

-- block 0, of bound 12, reads cell 0 into register 1, and chooses by it between blocks 1 and 2
abbrev pub choosing : Book
choosing = parse (book_of_choice 0x0C 0x01 0x01 0x02 0x0C 0x0C)

-- an outsider at 3 writes a value of this kind and number into cell 0; job 0 reads it
abbrev pub until_read : ℕ → ℕ → List Event
until_read k n = WriteBy (label 3) 0 k n ∷ StepOf 0 ∷ StepOf 0 ∷ []

-- and chooses
abbrev pub until_chosen : ℕ → ℕ → List Event
until_chosen k n = WriteBy (label 3) 0 k n ∷ StepOf 0 ∷ StepOf 0 ∷ StepOf 0 ∷ []

-- job 0, which has chosen, and the job that it started: "The started job has the chooser's label, and its history is the chooser's alone"
abbrev pub has_chosen : ℕ → List (ℕ × ℕ × ℕ × List ℕ)
has_chosen b = (0, 3, 12, 12 ∷ []) ∷ (b, 0, 12, 12 ∷ []) ∷ []

pub record ChooseDone (n b : ℕ) : Type 0 where
  pub answered : answers_of choosing (until_chosen 0 n) ≡ 0 ∷ 0 ∷ 0 ∷ 0 ∷ []
  pub jobs : map shown_job (reached choosing (until_chosen 0 n)).jobs ≡ has_chosen b

-- "is blocked otherwise"; 01: "\"Blocked\" changes nothing"
pub record ChooseBlocked (k n : ℕ) : Type 0 where
  pub answered : answers_of choosing (until_chosen k n) ≡ 0 ∷ 0 ∷ 0 ∷ 1 ∷ []
  pub state : reached choosing (until_chosen k n) ≡ reached choosing (until_read k n)

-- a job that lowers itself to 5, and then chooses by a register that is plain 0
abbrev pub lowered_choice : Book
lowered_choice =
    record {
      c = label 3;
      shapes = [];
      cells = [];
      blocks =
          record { bound = label 12; steps = Lower (label 5) ∷ Choose 0 1 2 ∷ [] }
          ∷ record { bound = label 12; steps = [] }
          ∷ record { bound = label 12; steps = [] }
          ∷ [];
    }

-- 02, Four
pub record ChooseRuns : Type 0 where
  -- "it starts the first block if r is plain and not 0", whichever of its bytes are 0
  pub one : ChooseDone 1 1
  pub second_byte : ChooseDone 256 1
  pub third_byte : ChooseDone 65536 1
  pub fourth_byte : ChooseDone 16777216 1
  pub largest : ChooseDone 4294967295 1
  -- "the second if r is plain 0"
  pub zero : ChooseDone 0 2
  -- The outsider's label is in the history of what the choice hangs on, and not in that of the job that is started, or of its registers.
  pub chooser_registers : map (λ (j : Job History). numbers (register lists j 1).history) (reached choosing (until_read 0 7)).jobs ≡ (3 ∷ 3 ∷ 12 ∷ []) ∷ []
  pub started_registers : get_elem? (map hands_of (reached choosing (until_chosen 0 7)).jobs) 1 ≡ some (hands_at 12)
  -- the name of cell 0, the code of block 1
  pub cell_name : ChooseBlocked 1 0
  pub code : ChooseBlocked 2 1
  -- "or when no job fits", in tables of one entry
  pub full : answers lists 1 choosing (begun choosing (at_bound choosing)) (until_chosen 0 7) ≡ 0 ∷ 0 ∷ 0 ∷ 1 ∷ []
  pub full_state : state_after lists 1 choosing (begun choosing (at_bound choosing)) (until_chosen 0 7) ≡ reached choosing (until_read 0 7)
  -- the chooser's label and history as they are then
  pub lowered : map shown_job (reached lowered_choice (StepOf 0 ∷ StepOf 0 ∷ [])).jobs ≡ (0, 2, 5, 12 ∷ 5 ∷ []) ∷ (2, 0, 5, 12 ∷ 5 ∷ []) ∷ []
