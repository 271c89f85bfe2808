-- A round is a run: 02, Six. Said of bytes, so that the list of steps is one that a caller could lend.
--     step_list          the event list of these steps
--     RoundIsRun        a round that is not refused is the run on the steps that it chose
--     Lendable          these are bytes, two for each turn
-- proofs/RoundIsRun.antt proves them. Assumes nothing.
use Rattle.std.specs.Prelude.{ℕ, ◌*◌, ◌≤◌, ◌≡◌, List, [], ◌∷◌, length}
use Rattle.book.specs.Outcome.{Passed}
use Rattle.book.specs.Spans.{Bytes}
use Rattle.book.specs.Book.{parse}
use Rattle.machine.specs.Launch.{Launch}
use Rattle.machine.specs.Events.{launch_label}
use Rattle.interpreter.specs.Run.{ran}
use Rattle.scheduler.specs.Rounds.{jobs_chosen, rounded}

-- 01: "80 step job"
abbrev pub step_list : List ℕ → List ℕ
step_list [] = []
step_list (j ∷ js) = 80 ∷ j ∷ step_list js

-- the steps that a round of a book chose
abbrev pub list_chosen : List ℕ → Launch → ℕ → List ℕ
list_chosen book launch turns = step_list (jobs_chosen book (launch_label (parse book) launch) turns)

-- "The round equals the run on the list of steps that it chose.": its refusal, counts, tables and answers. "reports the turns used"
pub record IsRun (book : List ℕ) (launch : Launch) (cells jobs room : List ℕ) (turns : ℕ) : Type 0 where
  pub same : (rounded book launch cells jobs room turns).run ≡ ran book launch (list_chosen book launch turns) cells jobs room
  pub used : 2 * (rounded book launch cells jobs room turns).turns ≡ length (list_chosen book launch turns)

abbrev pub RoundIsRun : Type 0
RoundIsRun = (book : List ℕ) (launch : Launch) (cells jobs room : List ℕ) (turns : ℕ) → (rounded book launch cells jobs room turns).run.refusal ≡ Passed
    → IsRun book launch cells jobs room turns

-- whatever the round was refused by
pub record Lendable : Type 0 where
  pub bytes : (book : List ℕ) (launch : Launch) (turns : ℕ) → Bytes (list_chosen book launch turns)
  pub short : (book : List ℕ) (launch : Launch) (turns : ℕ) → length (list_chosen book launch turns) ≤ 2 * turns
