-- The records of the code, as the machine's over sources.
--     value_in, stored_of, cell_of, job_of    a value, a cell, a job
--     actor, register_in                   a job by what a step looks at; a register of it
--     nearby                              a state in which every cell is the one that an act reaches
--     stored_content, cell_with             the content of a cell; a cell of this content
--     effect_of, job_after, turn_taken       what an act is to the tables, where cell k is reached; to the job that acts; both
--     sort_of, Only                        the sort of an act; one that is blocked or of one sort
--     answer_of                            the answer to an event of this act
--     settled                             a turn, where the job waits if it is blocked
--     Does, Makes                         contracts: an act on a cell or of start; new
--     clamped                             an entry of a table
-- Assumes nothing.
use Rattle.std.specs.Prelude.{ℕ, suc, ◌≡◌, List, map, ltb, length, get_or, replicate}
use Rattle.labels.specs.declared.Label.{Label}
use Rattle.labels.specs.Labels.{label}
use Rattle.book.specs.declared.Value.{Value}
use Rattle.book.specs.declared.Value.TheVariants.{CellName}
use Rattle.book.specs.Control.{when◌then◌else◌}
use Rattle.book.specs.Book.{value_of}
use Rattle.machine.specs.Histories.{sources}
use Rattle.machine.specs.States.{Traced, State}
use Rattle.machine.specs.States as States
use Rattle.machine.specs.Acts.{blocked, keep, store, create, launch, zero_with, fresh_job}
use Rattle.machine.specs.Acts as Acts
use Rattle.machine.specs.Steps.{turn, moved, gets}
use Rattle.machine.specs.Steps as Steps
use Rattle.machine.specs.Events.{table_size, done, blocked_answer}
use Rattle.acts.specs.declared.Stored.{Stored}
use Rattle.acts.specs.declared.StoredCell.{StoredCell}
use Rattle.acts.specs.declared.StoredJob.{StoredJob}
use Rattle.acts.specs.declared.Near.{Near}
use Rattle.acts.specs.declared.Act.{Act}
use Rattle.acts.specs.declared.Act.TheVariants.{Blocked, Give, Lower, Store, Create, Launch}

-- "A stored value is kind, number and source": any kind is read, as in the book
abbrev pub value_in : Stored → Value
value_in v = value_of v.kind v.number

abbrev pub stored_of : Stored → Traced Label
stored_of v = record { value = value_in v; history = v.source }

abbrev pub stored_content : StoredCell → Stored
stored_content c = record { number = c.number; kind = c.kind; source = c.source }

abbrev pub cell_with : Stored → ℕ → Label → StoredCell
cell_with v i l = record { number = v.number; kind = v.kind; source = v.source; shape = i; label = l }

abbrev pub cell_of : StoredCell → States.Cell Label
cell_of c = record { shape = c.shape; label = c.label; content = stored_of (stored_content c) }

-- a job of this block and position, by what a step looks at
abbrev pub actor : Label → Label → List Stored → ℕ → ℕ → States.Job Label
actor l h rs b i = record { block = b; position = i; label = l; registers = map stored_of rs; history = h }

abbrev pub job_of : StoredJob → States.Job Label
job_of j = actor j.label j.source j.registers j.block j.position

abbrev pub register_in : Label → List Stored → ℕ → Traced Label
register_in h rs r = get_or (map stored_of rs) r (zero_with sources h)

-- an act looks at one cell, and at how many cells and jobs there are
abbrev pub nearby : Near → State Label
nearby x = record { cells = replicate x.cells (cell_of x.cell); jobs = replicate x.jobs (fresh_job sources 0 (label 0) (label 0)) }

-- what it does to the tables
unfoldable pub effect_of : ℕ → Act → Acts.Effect Label
effect_of k Blocked = blocked
effect_of k (Give r v) = keep
effect_of k (Lower q h) = keep
effect_of k (Store c) = store k (cell_of c)
effect_of k (Create r c) = create (cell_of c)
effect_of k (Launch b l h) = launch (fresh_job sources b l h)

-- the answer to it
unfoldable pub answer_of : Act → ℕ
answer_of Blocked = blocked_answer
answer_of (Give r v) = done
answer_of (Lower q h) = done
answer_of (Store c) = done
answer_of (Create r c) = done
answer_of (Launch b l h) = done

-- the step is done, and the job has this label and history
abbrev pub lowered : States.Job Label → Label → Label → States.Job Label
lowered j q h = record { block = j.block; position = suc j.position; label = q; registers = j.registers; history = h }

-- what it does to the job that acts, in a state s
unfoldable pub job_after : State Label → States.Job Label → Act → States.Job Label
job_after s j Blocked = j
job_after s j (Give r v) = gets sources j r (value_in v) v.source
job_after s j (Lower q h) = lowered j q h
job_after s j (Store c) = moved sources j
job_after s j (Create r c) = gets sources j r (CellName (length s.cells)) j.history
job_after s j (Launch b l h) = moved sources j

abbrev pub turn_taken : State Label → States.Job Label → ℕ → Act → Steps.Turn Label
turn_taken s j k x = record { job = job_after s j x; effect = effect_of k x }

-- "\"Blocked\" changes nothing": j is the job before, g the job after
unfoldable pub kept : States.Job Label → States.Job Label → Acts.Effect Label → States.Job Label
kept j g blocked = j
kept j g keep = g
kept j g (store k c) = g
kept j g (create c) = g
kept j g (launch i) = g

abbrev pub settled : States.Job Label → Steps.Turn Label → Steps.Turn Label
settled j t = record { job = kept j t.job t.effect; effect = t.effect }

-- a number in a table
abbrev pub clamped : ℕ → ℕ
clamped k = when ltb k table_size then k else 0

-- the sorts of acts, by the number of each in the enum
abbrev pub give_sort : ℕ
give_sort = 1

abbrev pub lower_sort : ℕ
lower_sort = 2

abbrev pub store_sort : ℕ
store_sort = 3

abbrev pub create_sort : ℕ
create_sort = 4

abbrev pub launch_sort : ℕ
launch_sort = 5

unfoldable pub sort_of : Act → ℕ
sort_of Blocked = 0
sort_of (Give r v) = give_sort
sort_of (Lower q h) = lower_sort
sort_of (Store c) = store_sort
sort_of (Create r c) = create_sort
sort_of (Launch b l h) = launch_sort

-- blocked, or of sort n
pub data Only (n : ℕ) (x : Act) : Type 0 where
  waits : sort_of x ≡ 0 → Only n x
  acts : sort_of x ≡ n → Only n x

-- act x has the effect e in the state s, where cell k is reached, whichever job acts; it is blocked or of sort n
pub record Does (n : ℕ) (s : State Label) (k : ℕ) (e : Acts.Effect Label) (x : Act) : Type 0 where
  pub does : (j : States.Job Label) → turn_taken s j k x ≡ settled j (turn sources (moved sources j) e)
  pub only : Only n x

-- the same of new, which names the cell in register r
pub record Makes (s : State Label) (r : ℕ) (e : Acts.Effect Label) (x : Act) : Type 0 where
  pub does : (j : States.Job Label) → turn_taken s j 0 x ≡ settled j (turn sources (gets sources j r (CellName (length s.cells)) j.history) e)
  pub only : Only create_sort x
