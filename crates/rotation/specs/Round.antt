-- The jobs that a fair round steps: 02, Six.
--     first_place, after, scan             a ring of jobs, scanned from a place on
--     has_step, next_job                    a job with a step left; the next one
--     place_after, stepped, chosen_jobs     where the next turn looks first; the state after a turn; the jobs that are stepped, turn by turn
--     round_of                             the jobs that a round of a book steps
-- Every book and every state has an answer. Assumes nothing.
use Rattle.std.specs.Prelude.{ℕ, zero, suc, Bool, true, false, List, [], ◌∷◌, ltb, length}
use Rattle.std.proofs.Math.ListN.{get_elem?}
use Rattle.labels.specs.declared.Label.{Label}
use Rattle.book.specs.Control.{when◌then◌else◌, on_some}
use Rattle.book.specs.Book.{Book}
use Rattle.machine.specs.declared.Event.TheVariants.{StepOf}
use Rattle.machine.specs.Histories.{Histories}
use Rattle.machine.specs.States.{Job, State}
use Rattle.machine.specs.Events.{block_of, fresh_state, outcome_of}
use Rattle.rotation.specs.Found.{JobFound}
use Rattle.std.specs.Prelude.{Some, None}

-- the place of a ring of m at which a scan goes on that has come to number i: i itself, or 0 where i is past the last place. "wrapping at the
-- jobs in use"
unfoldable pub first_place : ℕ → ℕ → ℕ
first_place i m = when ltb i m then i else 0

-- the place that a scan looks at after place i
abbrev pub after : ℕ → ℕ → ℕ
after i m = first_place (suc i) m

-- of n places of a ring of m, the first from i on that passes the test
module _ (test : ℕ → Bool) (m : ℕ) where
  unfoldable pub scan : ℕ → ℕ → JobFound
  scan zero i = None
  scan (suc n) i = elim (test i) [ true ↦ Some i | false ↦ scan n (after i m) ]

module _ {H : Type 0} (K : Book) where
  -- "with a step left"
  abbrev pub unfinished : Job H → Bool
  unfinished j = ltb j.position (length (block_of K j.block).steps)

  unfoldable pub has_step : State H → ℕ → Bool
  has_step s i = on_some (get_elem? s.jobs i) false unfinished

  -- "The next job with a step left is found by scanning the job table from the one after the last stepped". `from` is one more than the
  -- number of the job that was stepped last, and 0 at the start; each job in use is looked at once.
  unfoldable pub next_job : State H → ℕ → JobFound
  next_job s from = scan (has_step s) (length s.jobs) (length s.jobs) (first_place from (length s.jobs))

-- "from the one after the last stepped": where j is the last job in use, `next_job` wraps
abbrev pub place_after : ℕ → ℕ
place_after j = suc j

module _ (A : Histories) (size : ℕ) (K : Book) where
  open A use {H}

  -- the state after a turn of job j; where its step is blocked, the state before it
  abbrev pub stepped : State H → ℕ → State H
  stepped s j = (outcome_of A size K s (StepOf j)).state

  -- The jobs that a round of at most so many turns steps, from this state and this place on: "The call ends early only when no job has a
  -- step left". A job is listed whatever its step is answered: "A blocked step uses a turn."
  unfoldable pub chosen_jobs : ℕ → State H → ℕ → List ℕ
  chosen_jobs zero s from = []
  chosen_jobs (suc n) s from = elim (next_job K s from) [ Some j ↦ j ∷ chosen_jobs n (stepped s j) (place_after j) | None ↦ [] ]

  -- the jobs that a round of at most so many turns steps, job 0 launched at the label l: "job 0 is looked at first"
  abbrev pub round_of : Label → ℕ → List ℕ
  round_of l turns = chosen_jobs turns (fresh_state A K l) 0
