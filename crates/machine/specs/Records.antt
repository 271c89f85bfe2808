-- The records of the tables: 01, "The machine". They keep of each history its source.
--     ValueRecord, CellRecord, JobRecord     the records
--     cell_records, job_records                the entries in use
-- Assumes nothing.
use Rattle.std.specs.Prelude.{ℕ, List, map}
use Rattle.labels.specs.declared.Label.{Label}
use Rattle.labels.specs.declared.Trust.{Trust}
use Rattle.book.specs.Book.{Book}
pub use Rattle.book.specs.Book.{kind_of, number_of}
use Rattle.machine.specs.Histories.{History, source}
use Rattle.machine.specs.States.{Traced, Cell, Job, State}
use Rattle.machine.specs.Events.{stated_trust}

-- "A stored value is kind, number and source, the lowest label of its history."
pub record ValueRecord : Type 0 where
  pub kind : ℕ
  pub number : ℕ
  pub source : Label

-- "A cell record holds shape, trust, label and value": the trust as the book states it
pub record CellRecord : Type 0 where
  pub shape : ℕ
  pub trust : Trust
  pub label : Label
  pub value : ValueRecord

-- "a job record block, position (how many of the block's steps are done), label, registers and its own source"
pub record JobRecord : Type 0 where
  pub block : ℕ
  pub position : ℕ
  pub label : Label
  pub registers : List ValueRecord
  pub source : Label

abbrev pub value_record : Traced History → ValueRecord
value_record v = record { kind = kind_of v.value; number = number_of v.value; source = source v.history }

abbrev pub cell_record : Book → Cell History → CellRecord
cell_record K c = record { shape = c.shape; trust = stated_trust K c.shape; label = c.label; value = value_record c.content }

abbrev pub job_record : Job History → JobRecord
job_record j =
    record {
      block = j.block;
      position = j.position;
      label = j.label;
      registers = map value_record j.registers;
      source = source j.history;
    }

abbrev pub cell_records : Book → State History → List CellRecord
cell_records K s = map (cell_record K) s.cells

abbrev pub job_records : State History → List JobRecord
job_records s = map job_record s.jobs
