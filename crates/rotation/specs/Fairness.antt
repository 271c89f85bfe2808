-- What is promised of a round, for every book, label, number of turns and size of the tables (`Fair`: every size but 0): 02, Six.
--     after_turns              the state after the first turns of a round
--     Waits, Fair, Fair64     how long a job with a step left waits
--     EndsEarly               when a round ends early
--     ChosenCan               a job that is chosen has a step left
-- Which job is next, and what a step left is, is said in `Order`.
-- proofs/Fairness.antt proves them. Assumes nothing.
use Rattle.std.specs.Prelude.{ℕ, ◌+◌, ◌<◌, ◌≤◌, ◌≡◌, true, false, map, length, take}
use Rattle.std.proofs.Math.Option.{some}
use Rattle.std.proofs.Math.ListN.{get_elem?}
use Rattle.labels.specs.declared.Label.{Label}
use Rattle.book.specs.Book.{Book}
use Rattle.machine.specs.declared.Event.TheVariants.{StepOf}
use Rattle.machine.specs.Histories.{Histories}
use Rattle.machine.specs.States.{State}
use Rattle.machine.specs.Events.{table_size, fresh_state, state_after}
use Rattle.rotation.specs.Round.{has_step, round_of}

module _ (A : Histories) (size : ℕ) where
  open A use {H}

  -- the state after the first p turns of a round, job 0 launched at the label l
  abbrev pub after_turns : Book → Label → ℕ → ℕ → State H
  after_turns K l turns p = state_after A size K (fresh_state A K l) (map StepOf (take p (round_of A size K l turns)))

  -- job i has a step left after p turns, and the k turns that follow are others'
  pub record Waits (K : Book) (l : Label) (turns p k i : ℕ) : Type 0 where
    pub left : has_step K (after_turns K l turns p) i ≡ true
    pub taken : p + k ≤ length (round_of A size K l turns)
    pub others : (x : ℕ) → x < k → get_elem? (round_of A size K l turns) (p + x) ≡ some i → ⊥

-- "A job with a step left waits through at most 63 turns of others before its next.": at most the size of the tables less 1, of which 63 is
-- one case (`Fair64`). A fresh state has job 0 in any tables, so tables of no entry are left out.
abbrev pub Fair : Type 1
Fair = (A : Histories) (size : ℕ) → 0 < size → (K : Book) (l : Label) (turns p k i : ℕ) → Waits A size K l turns p k i → k < size

-- "at most 63 turns of others": in tables of 64 entries, those of a round call
abbrev pub Fair64 : Type 1
Fair64 = (A : Histories) (K : Book) (l : Label) (turns p k i : ℕ) → Waits A table_size K l turns p k i → k ≤ 63

-- "The call ends early only when no job has a step left"
abbrev pub EndsEarly : Type 1
EndsEarly = (A : Histories) (size : ℕ) (K : Book) (l : Label) (turns : ℕ) → length (round_of A size K l turns) < turns
    → (i : ℕ) → has_step K (after_turns A size K l turns (length (round_of A size K l turns))) i ≡ false

-- "The next job with a step left"
abbrev pub ChosenCan : Type 1
ChosenCan = (A : Histories) (size : ℕ) (K : Book) (l : Label) (turns p i : ℕ) → get_elem? (round_of A size K l turns) p ≡ some i
    → has_step K (after_turns A size K l turns p) i ≡ true
