-- The integrity theorem, demand 3: what is proved of every accepted book and every list of events. proofs/Integrity.antt proves it.
-- 01, "What demand 3 speaks of". All names here are of specs/, of this crate or of those below it. Assumes nothing.
use Rattle.std.specs.Prelude.{◌≡◌, true, ℕ}
use mathlib.Core.List.{List, [], ◌∷◌, Memᴰ}
use Rattle.labels.specs.declared.Label.{Label}
use Rattle.labels.specs.Labels.{reaches, is_above, is_met, is_high}
use Rattle.book.specs.Book.{Book, parse}
use Rattle.typing.specs.Verdict.{Accepted}
use Rattle.typing.specs.Verdict.{verdict}
use Rattle.machine.specs.declared.Event.{Event}
use Rattle.machine.specs.Histories.{History, hands, lists}
use Rattle.machine.specs.States.{Cell, Job, State}
use Rattle.machine.specs.Events.{stated_trust, first_bound, outcome_of, fresh_state, state_after}
use Rattle.machine.specs.Records.{CellRecord, JobRecord, cell_records, job_records}

-- "All cells and jobs in use are meant, finished jobs too." "A hand is a label that stands in a history".
infix 20 ◌is_in◌
abbrev pub ◌is_in◌ : {A : Type 0} → A → List A → Type 0
x is_in xs = Memᴰ x xs

-- The three sentences: no cell of trust above C holds a value with a label below that trust in its history; no such cell's label is
-- below its trust; no job above C has a label below its own in its history.
pub record Sentences (K : Book) (s : State History) : Type 0 where
  pub values : (c : Cell History) → c is_in s.cells → is_high (stated_trust K c.shape) K.c ≡ true
      → (hand : Label) → hand is_in hands c.content.history → is_met (stated_trust K c.shape) hand ≡ true
  pub labels : (c : Cell History) → c is_in s.cells → is_high (stated_trust K c.shape) K.c ≡ true → is_met (stated_trust K c.shape) c.label ≡ true
  pub jobs : (j : Job History) → j is_in s.jobs → is_above j.label K.c ≡ true
      → (hand : Label) → hand is_in hands j.history → reaches hand j.label ≡ true

-- "the tables say the same. Where a cell's trust is above C, its label and its value's source are at least that trust. Where a job's
-- label is above C, its source is at least that label."
pub record Recorded (c : Label) (cell_table : List CellRecord) (job_table : List JobRecord) : Type 0 where
  pub labels : (r : CellRecord) → r is_in cell_table → is_high r.trust c ≡ true → is_met r.trust r.label ≡ true
  pub sources : (r : CellRecord) → r is_in cell_table → is_high r.trust c ≡ true → is_met r.trust r.value.source ≡ true
  pub jobs : (r : JobRecord) → r is_in job_table → is_above r.label c ≡ true → reaches r.source r.label ≡ true

pub record Kept (K : Book) (s : State History) : Type 0 where
  pub sentences : Sentences K s
  pub recorded : Recorded K.c (cell_records K s) (job_records s)

-- Of every run: "A book is accepted when none of refusals 1 to 8 holds of it." "Events are 80 to 85, whatever they are answered". For
-- tables of every size. 02, Three: "The integrity guarantee has to cover every launch label up to the bound."
abbrev pub OfEveryRun : (Book → ℕ → Label → List Event → Type 0) → Type 0
OfEveryRun P = (bytes : List ℕ) (shapes cells blocks steps : ℕ) → verdict bytes ≡ Accepted shapes cells blocks steps
    → (size : ℕ) (launch : Label) → reaches (first_bound (parse bytes)) launch ≡ true → (events : List Event)
    → P (parse bytes) size launch events

-- The theorem. "A run begins fresh". "All this is a single claim about the list of events, not one for each kind of event."
abbrev pub Integrity : Type 0
Integrity = OfEveryRun (λ K size launch events. Kept K (state_after lists size K (fresh_state lists K launch) events))

-- the states that a list of events passes through, from this state on: before the first, and after each
abbrev pub passed : ℕ → Book → State History → List Event → List (State History)
passed size K s [] = s ∷ []
passed size K s (e ∷ es) = s ∷ passed size K (outcome_of lists size K s e).state es

-- "The empty list counts, and the beginning of a list is a list, so the three sentences hold after every event."
abbrev pub Throughout : Type 0
Throughout = OfEveryRun (λ K size launch events. (s : State History) → s is_in passed size K (fresh_state lists K launch) events → Kept K s)
