-- Sample rounds, with lists that were reckoned by hand from the words of 02, Six.
--     SampleRound       a job that stays blocked, jobs that all finish, a last job in use that starts another
--     LaunchedRound     launch labels at which a step is blocked, and is not
--     SmallRounds       tables in which a start is blocked
-- Each step is told beside its turn. Assumes nothing.
use Rattle.std.specs.Prelude.{ℕ, ◌≡◌, List, [], ◌∷◌, map, length}
use Rattle.labels.specs.declared.Label.{Label}
use Rattle.labels.specs.Labels.{label}
use Rattle.book.specs.declared.Step.{Step}
use Rattle.book.specs.declared.Step.TheVariants.{Put, Read, Lower, Start}
use Rattle.book.specs.Book.{Book, Block}
use Rattle.machine.specs.declared.Event.TheVariants.{StepOf}
use Rattle.machine.specs.Histories.{lists}
use Rattle.machine.specs.Events.{table_size, fresh_state, answers}
use Rattle.rotation.specs.Round.{round_of}

abbrev pub block_of_steps : List Step → Block
block_of_steps ps = record { bound = label 12; steps = ps }

abbrev pub book_of_blocks : List (List Step) → Book
book_of_blocks bs = record { c = label 3; shapes = []; cells = []; blocks = map block_of_steps bs }

-- the jobs of a round in tables of this size, job 0 launched at the label l
abbrev pub round_at : Label → ℕ → Book → ℕ → List ℕ
round_at l size K turns = round_of lists size K l turns

-- the answers to the steps that it chose
abbrev pub answers_at : Label → ℕ → Book → ℕ → List ℕ
answers_at l size K turns = answers lists size K (fresh_state lists K l) (map StepOf (round_at l size K turns))

-- launched at label 12, the bound of every block here
abbrev pub round_in : ℕ → Book → ℕ → List ℕ
round_in = round_at (label 12)

abbrev pub answers_in : ℕ → Book → ℕ → List ℕ
answers_in = answers_at (label 12)

-- Block 0 starts blocks 1 and 2, and then reads by a register that names no cell, which stays blocked. Block 1 has two steps, block 2 three.
abbrev pub stuck_book : Book
stuck_book =
    book_of_blocks
    ((Start 1 ∷ Start 2 ∷ Read 0 0 ∷ [])
    ∷ (Put 0 1 ∷ Put 0 2 ∷ [])
    ∷ (Put 0 1 ∷ Put 0 2 ∷ Put 0 3 ∷ [])
    ∷ [])

-- Block 0 starts block 1, and then has two more steps. Block 1 starts block 2, which has one step.
abbrev pub finishing_book : Book
finishing_book =
    book_of_blocks
    ((Start 1 ∷ Put 0 1 ∷ Put 0 2 ∷ [])
    ∷ (Start 2 ∷ [])
    ∷ (Put 0 1 ∷ [])
    ∷ [])

-- Block 0 starts block 1, which has three steps.
abbrev pub handing_book : Book
handing_book = book_of_blocks ((Start 1 ∷ []) ∷ (Put 0 1 ∷ Put 0 2 ∷ Put 0 3 ∷ []) ∷ [])

-- Block 0 starts blocks 2 and 1, so that job 1 runs block 2, of three steps, and job 2 block 1, of one.
abbrev pub swapped_book : Book
swapped_book =
    book_of_blocks
    ((Start 2 ∷ Start 1 ∷ [])
    ∷ (Put 0 1 ∷ [])
    ∷ (Put 0 1 ∷ Put 0 2 ∷ Put 0 3 ∷ [])
    ∷ [])

-- Block 0 starts block 1, and block 2 twice. Block 1 starts block 2 between two steps. Block 2 has two steps.
abbrev pub growing_book : Book
growing_book =
    book_of_blocks
    ((Start 1 ∷ Start 2 ∷ Start 2 ∷ [])
    ∷ (Put 0 1 ∷ Start 2 ∷ Put 0 2 ∷ [])
    ∷ (Put 0 1 ∷ Put 0 2 ∷ [])
    ∷ [])

-- Block 0 lowers to label 9, and has one step more.
abbrev pub lowering_book : Book
lowering_book = book_of_blocks ((Lower (label 9) ∷ Put 0 1 ∷ []) ∷ [])

pub record SampleRound : Type 0 where
  -- 0 starts job 1; 1; 0, across the end, starts job 2; 1, its last; 2; 0 is blocked; 2; 0 is blocked; 2, its last; then 0 alone, across the end
  pub stuck : round_in table_size stuck_book 12 ≡ 0 ∷ 1 ∷ 0 ∷ 1 ∷ 2 ∷ 0 ∷ 2 ∷ 0 ∷ 2 ∷ 0 ∷ 0 ∷ 0 ∷ []
  -- "A blocked step uses a turn."
  pub stuck_answers : answers_in table_size stuck_book 12 ≡ 0 ∷ 0 ∷ 0 ∷ 0 ∷ 0 ∷ 1 ∷ 0 ∷ 1 ∷ 0 ∷ 1 ∷ 1 ∷ 1 ∷ []
  -- 0 starts job 1; 1, the last in use, starts job 2, which is next; 0, across the end; then 0 alone, its last. "ends early only when no job has a step left"
  pub finishing : round_in table_size finishing_book 12 ≡ 0 ∷ 1 ∷ 2 ∷ 0 ∷ 0 ∷ []
  pub finishing_used : length (round_in table_size finishing_book 12) ≡ 5
  pub finishing_answers : answers_in table_size finishing_book 12 ≡ 0 ∷ 0 ∷ 0 ∷ 0 ∷ 0 ∷ []
  -- 0 starts job 1, its last step; then job 1 is found from behind itself, across the end
  pub handing : round_in table_size handing_book 12 ≡ 0 ∷ 1 ∷ 1 ∷ 1 ∷ []
  -- 0 starts job 1, of block 2; 1; 0, its last, starts job 2, of block 1; 1; 2, its last; 1, its last, past 0
  pub swapped : round_in table_size swapped_book 12 ≡ 0 ∷ 1 ∷ 0 ∷ 1 ∷ 2 ∷ 1 ∷ []
  pub swapped_answers : answers_in table_size swapped_book 12 ≡ 0 ∷ 0 ∷ 0 ∷ 0 ∷ 0 ∷ 0 ∷ []
  -- 0 starts job 1; 1; 0 starts job 2; 1, between 0 and 2, starts job 3; 2; 3; 0, its last, starts job 4; 1, 2 and 3, each its last; 4; 4, its
  -- last, past 0 to 3
  pub growing : round_in table_size growing_book 20 ≡ 0 ∷ 1 ∷ 0 ∷ 1 ∷ 2 ∷ 3 ∷ 0 ∷ 1 ∷ 2 ∷ 3 ∷ 4 ∷ 4 ∷ []
  pub growing_answers : answers_in table_size growing_book 20 ≡ 0 ∷ 0 ∷ 0 ∷ 0 ∷ 0 ∷ 0 ∷ 0 ∷ 0 ∷ 0 ∷ 0 ∷ 0 ∷ 0 ∷ []
  -- as many turns as it is given, where steps are left
  pub cut : round_in table_size finishing_book 4 ≡ 0 ∷ 1 ∷ 2 ∷ 0 ∷ []
  pub no_turn : round_in table_size finishing_book 0 ≡ []
  -- job 0 has no step from the start
  pub no_step : round_in table_size (book_of_blocks ([] ∷ [])) 12 ≡ []

-- 01: "lower Q: blocked if Q is above the job's label"
pub record LaunchedRound : Type 0 where
  pub low : round_at (label 5) table_size lowering_book 3 ≡ 0 ∷ 0 ∷ 0 ∷ []
  pub low_answers : answers_at (label 5) table_size lowering_book 3 ≡ 1 ∷ 1 ∷ 1 ∷ []
  pub high : round_at (label 12) table_size lowering_book 3 ≡ 0 ∷ 0 ∷ []
  pub high_answers : answers_at (label 12) table_size lowering_book 3 ≡ 0 ∷ 0 ∷ []

-- 01: "start: blocked when 64 jobs exist", here 1 and 2
pub record SmallRounds : Type 0 where
  pub one : round_in 1 stuck_book 4 ≡ 0 ∷ 0 ∷ 0 ∷ 0 ∷ []
  pub one_answers : answers_in 1 stuck_book 4 ≡ 1 ∷ 1 ∷ 1 ∷ 1 ∷ []
  -- 0 starts job 1, the last entry of the table, which is next; 0 is blocked; 1, its last; then 0 alone, blocked
  pub two : round_in 2 stuck_book 6 ≡ 0 ∷ 1 ∷ 0 ∷ 1 ∷ 0 ∷ 0 ∷ []
  pub two_answers : answers_in 2 stuck_book 6 ≡ 0 ∷ 0 ∷ 1 ∷ 0 ∷ 1 ∷ 1 ∷ []
