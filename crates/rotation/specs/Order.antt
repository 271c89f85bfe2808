-- Which job a turn of a round steps, said without the scan, and what a step left is: 02, Six. For every book, label and size of the tables.
--     StepLeft        a job has a step left exactly when the machine answers a step of it by done or blocked
--     FirstInRing     the first turn is job 0's
--     NextInRing      between a turn's job and the next turn's, around the jobs in use, no job has a step left
-- With `ChosenCan`, `EndsEarly` and no more jobs than turns, the last two leave one list for a round (argued, not proved). proofs/Order.antt proves them.
-- Assumes nothing.
use Rattle.std.specs.Prelude.{ℕ, suc, ◌<◌, ◌≤◌, ◌≡◌, true, false}
use Rattle.std.proofs.Math.Option.{some}
use Rattle.std.proofs.Math.ListN.{get_elem?}
use Rattle.labels.specs.declared.Label.{Label}
use Rattle.book.specs.Book.{Book}
use Rattle.machine.specs.declared.Event.TheVariants.{StepOf}
use Rattle.machine.specs.Histories.{Histories}
use Rattle.machine.specs.States.{State}
use Rattle.machine.specs.Events.{blocked_answer, no_step_left, outcome_of}
use Rattle.rotation.specs.Round.{has_step, round_of}
use Rattle.rotation.specs.Fairness.{after_turns}

module _ (A : Histories) (size : ℕ) (K : Book) where
  open A use {H}

  -- 01: "Answer bytes: 0 done, 1 blocked, 2 no step left, 3 no such."
  pub record Answered (s : State H) (i : ℕ) : Type 0 where
    pub left : has_step K s i ≡ true → (outcome_of A size K s (StepOf i)).answer ≤ blocked_answer
    pub over : has_step K s i ≡ false → no_step_left ≤ (outcome_of A size K s (StepOf i)).answer

-- "with a step left", in every state
abbrev pub StepLeft : Type 1
StepLeft = (A : Histories) (size : ℕ) (K : Book) (s : State A.H) (i : ℕ) → Answered A size K s i

-- "job 0 is looked at first"
abbrev pub FirstInRing : Type 1
FirstInRing = (A : Histories) (size : ℕ) (K : Book) (l : Label) (turns i : ℕ) → get_elem? (round_of A size K l turns) 0 ≡ some i → i ≡ 0

-- No job that is passed over on the way from job a to job b has a step left. Where b is not behind a, the way goes across the end of the jobs
-- in use: past all behind a, and past all before b. Where b is a, these are all other jobs.
pub record PassedOver {H : Type 0} (K : Book) (s : State H) (a b : ℕ) : Type 0 where
  pub between : a < b → (i : ℕ) → a < i → i < b → has_step K s i ≡ false
  pub behind : b ≤ a → (i : ℕ) → a < i → has_step K s i ≡ false
  pub before : b ≤ a → (i : ℕ) → i < b → has_step K s i ≡ false

-- "The next job with a step left is found by scanning the job table from the one after the last stepped, wrapping at the jobs in use": jobs a and
-- b have turns p and p + 1 of a round
abbrev pub NextInRing : Type 1
NextInRing = (A : Histories) (size : ℕ) (K : Book) (l : Label) (turns p a b : ℕ) → get_elem? (round_of A size K l turns) p ≡ some a
    → get_elem? (round_of A size K l turns) (suc p) ≡ some b → PassedOver K (after_turns A size K l turns (suc p)) a b
