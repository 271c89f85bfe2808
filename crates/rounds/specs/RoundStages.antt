-- Which rounds are refused, and what they then leave: 02, Six, sentence by sentence. The round stands here once more, from its stages on.
--     refused_round      what a refusal reports and leaves
--     RoundStages       each stage, in its order
--     RoundCalls        rounds of book A, in bytes
-- proofs/RoundStages.antt proves them. Assumes nothing.
use Rattle.std.specs.Prelude.{ℕ, ◌<◌, ◌≤◌, ◌≡◌, List, [], ◌∷◌, map, length, take, replicate}
use Rattle.labels.specs.Labels.{label}
use Rattle.book.specs.Outcome.{Passed, Refused}
use Rattle.book.specs.Book.{parse}
use Rattle.book.specs.Refusals.{unreadable}
use Rattle.book.specs.Samples.{book_a, last_write}
use Rattle.machine.specs.Launch.{Launch}
use Rattle.std.specs.Prelude.{None, Some}
use Rattle.machine.specs.declared.Event.TheVariants.{StepOf}
use Rattle.machine.specs.Histories.{lists}
use Rattle.machine.specs.Events.{first_bound, launch_label}
use Rattle.interpreter.specs.Run.{unlaunched, played}
use Rattle.rotation.specs.Round.{round_of}
use Rattle.scheduler.specs.Rounds.{Round, rounded}

-- "A refusal .. leaves all lent memory untouched."
abbrev pub refused_round : ℕ → ℕ → List ℕ → List ℕ → List ℕ → Round
refused_round n o cells jobs room =
    record { run = record { refusal = Refused n o; cell_count = 0; job_count = 0; cells = cells; jobs = jobs; answered = room }; turns = 0 }

-- a book that can be read, and tables of 64 entries
pub record Tabled (book cells jobs : List ℕ) : Type 0 where
  pub readable : unreadable book ≡ Passed
  pub cells_sized : length cells ≡ 576
  pub jobs_sized : length jobs ≡ 3328

-- of every list of bytes and every number of turns
pub record RoundStages : Type 0 where
  -- 1 to 6, at the place of the book's
  pub book : (book : List ℕ) (launch : Launch) (cells jobs room : List ℕ) (turns n o : ℕ) → unreadable book ≡ Refused n o
      → rounded book launch cells jobs room turns ≡ refused_round n o cells jobs room
  -- 10: "The cell or job table has not exactly 64 entries."
  pub cells : (book : List ℕ) (launch : Launch) (cells jobs room : List ℕ) (turns : ℕ) → unreadable book ≡ Passed → (length cells ≡ 576 → ⊥)
      → rounded book launch cells jobs room turns ≡ refused_round 10 0 cells jobs room
  pub jobs : (book : List ℕ) (launch : Launch) (cells jobs room : List ℕ) (turns : ℕ) → unreadable book ≡ Passed → (length jobs ≡ 3328 → ⊥)
      → rounded book launch cells jobs room turns ≡ refused_round 10 0 cells jobs room
  -- "Refusal 11 here means fewer answer bytes than turns."
  pub room : (book : List ℕ) (launch : Launch) (cells jobs room : List ℕ) (turns : ℕ) → Tabled book cells jobs → length room < turns
      → rounded book launch cells jobs room turns ≡ refused_round 11 0 cells jobs room
  -- "a launch label as a run does": 14
  pub launch : (book : List ℕ) (launch : Launch) (cells jobs room : List ℕ) (turns n o : ℕ) → Tabled book cells jobs → turns ≤ length room
      → unlaunched (first_bound (parse book)) launch ≡ Refused n o → rounded book launch cells jobs room turns ≡ refused_round n o cells jobs room
  -- "15, after 14, when the turns exceed 4,096."
  pub turns : (book : List ℕ) (launch : Launch) (cells jobs room : List ℕ) (turns : ℕ) → Tabled book cells jobs → turns ≤ length room
      → unlaunched (first_bound (parse book)) launch ≡ Passed → 4096 < turns → rounded book launch cells jobs room turns ≡ refused_round 15 0 cells jobs room
  -- "a number of turns up to 4,096": no other round is refused, and it is the run of the steps of `round_of`, of which `Fair` and `EndsEarly` speak
  pub passes : (book : List ℕ) (launch : Launch) (cells jobs room : List ℕ) (turns : ℕ) → Tabled book cells jobs → turns ≤ length room
      → unlaunched (first_bound (parse book)) launch ≡ Passed → turns ≤ 4096
      → let js = round_of lists 64 (parse book) (launch_label (parse book) launch) turns in
      rounded book launch cells jobs room turns ≡ record { run = played book (launch_label (parse book) launch) (map StepOf js) room; turns = length js }

-- book A, whose C is 3 and whose block 0 has the bound 12 and three steps; tables and answers of other bytes
abbrev pub sample_book : List ℕ
sample_book = book_a 0x09 0x09 0x0C last_write

abbrev pub sample_round : Launch → ℕ → ℕ → Round
sample_round launch room turns = rounded sample_book launch (replicate 576 7) (replicate 3328 8) (replicate room 9) turns

-- C 3; shapes: plain, a cell of it, of low trust; cell 0 holds 5. Block 0 starts block 1, which puts 1 into register 0.
abbrev pub starting_book : List ℕ
starting_book =
    0x01 ∷ 0x03
    ∷ 0x10
    ∷ 0x12 ∷ 0x00 ∷ 0x00
    ∷ 0x20 ∷ 0x01 ∷ 0x00 ∷ 0x00 ∷ 0x05 ∷ 0x00 ∷ 0x00 ∷ 0x00
    ∷ 0x30 ∷ 0x0C
    ∷ 0x49 ∷ 0x01
    ∷ 0x30 ∷ 0x0C
    ∷ 0x40 ∷ 0x00 ∷ 0x01 ∷ 0x00 ∷ 0x00 ∷ 0x00
    ∷ []

abbrev pub starting_round : Round
starting_round = rounded starting_book None (replicate 576 7) (replicate 3328 8) (replicate 4 9) 4

-- reckoned by hand: at 12 the write is done, and the round ends early; at the default, 4, it is blocked for ever
pub record RoundCalls : Type 0 where
  pub bound_turns : (sample_round (Some (label 12)) 7 5).turns ≡ 3
  pub bound_cells : (sample_round (Some (label 12)) 7 5).run.cell_count ≡ 1
  pub bound_jobs : (sample_round (Some (label 12)) 7 5).run.job_count ≡ 1
  pub bound_answers : (sample_round (Some (label 12)) 7 5).run.answered ≡ 0 ∷ 0 ∷ 0 ∷ 9 ∷ 9 ∷ 9 ∷ 9 ∷ []
  pub bound_cell : take 10 (sample_round (Some (label 12)) 7 5).run.cells ≡ 1 ∷ 9 ∷ 9 ∷ 0 ∷ 7 ∷ 0 ∷ 0 ∷ 0 ∷ 12 ∷ 0 ∷ []
  pub bound_job : take 4 (sample_round (Some (label 12)) 7 5).run.jobs ≡ 0 ∷ 3 ∷ 12 ∷ 12 ∷ []
  pub low_turns : (sample_round None 7 5).turns ≡ 5
  pub low_answers : (sample_round None 7 5).run.answered ≡ 0 ∷ 0 ∷ 1 ∷ 1 ∷ 1 ∷ 9 ∷ 9 ∷ []
  pub low_cell : take 10 (sample_round None 7 5).run.cells ≡ 1 ∷ 9 ∷ 9 ∷ 0 ∷ 5 ∷ 0 ∷ 0 ∷ 0 ∷ 15 ∷ 0 ∷ []
  pub low_job : take 4 (sample_round None 7 5).run.jobs ≡ 0 ∷ 2 ∷ 4 ∷ 4 ∷ []
  -- one cell, two jobs, two turns of four
  pub starting_cells : starting_round.run.cell_count ≡ 1
  pub starting_jobs : starting_round.run.job_count ≡ 2
  pub starting_turns : starting_round.turns ≡ 2
  pub starting_answers : starting_round.run.answered ≡ 0 ∷ 0 ∷ 9 ∷ 9 ∷ []
  pub no_turn : (sample_round None 0 0).turns ≡ 0
  -- 11 by the turns, of which three would be used; 14 behind it; a refusal keeps all bytes
  pub short_room : sample_round (Some (label 12)) 4 5 ≡ refused_round 11 0 (replicate 576 7) (replicate 3328 8) (replicate 4 9)
  pub high_launch : sample_round (Some (label 13)) 5 5 ≡ refused_round 14 0 (replicate 576 7) (replicate 3328 8) (replicate 5 9)
