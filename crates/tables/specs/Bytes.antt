-- The records of a run as bytes: 01, "The machine". A table is lent memory of 64 records, one after the other, numbers little-endian.
--     value_bytes, cell_bytes, job_bytes                 each record; `number_bytes` is that of `book`
--     cell_length, .., job_table_length                  the bytes of a record, and of a table
--     cell_table, job_table                             the whole tables; `packed` is that of `book`
--     stored_record, cell_record_in, job_record_of         the records of what the code holds
--     saved_cells, saved_jobs                           the tables of what the code holds
-- Assumes nothing.
use Rattle.std.specs.Prelude.{ℕ, ◌*◌, List, [], ◌∷◌, ◌++◌, map}
use Rattle.labels.specs.declared.Trust.{Trust}
use Rattle.book.specs.Outline.{pad, shape_in}
pub use Rattle.book.specs.Records.{number_bytes}
pub use Rattle.book.specs.Spans.{packed}
use Rattle.machine.specs.Events.{table_size}
use Rattle.book.specs.Book.{kind_of}
use Rattle.machine.specs.Records.{ValueRecord, CellRecord, JobRecord}
use Rattle.acts.specs.declared.Stored.{Stored}
use Rattle.acts.specs.declared.StoredCell.{StoredCell}
use Rattle.acts.specs.declared.StoredJob.{StoredJob}
use Rattle.acts.specs.Views.{value_in, stored_content}

-- "A stored value is kind, number and source": 6 bytes
abbrev pub value_bytes : ValueRecord → List ℕ
value_bytes v = v.kind ∷ number_bytes v.number ++ v.source.0 ∷ []

-- "A cell record holds shape, trust, label and value": 9 bytes
abbrev pub cell_bytes : CellRecord → List ℕ
cell_bytes c = c.shape ∷ c.trust.0 ∷ c.label.0 ∷ value_bytes c.value

-- "a job record block, position .., label, registers and its own source": 52 bytes, the source before the registers. Block and position are
-- one byte each, and fit: `JobsFit` of `integrity`.
abbrev pub job_bytes : JobRecord → List ℕ
job_bytes j = j.block ∷ j.position ∷ j.label.0 ∷ j.source.0 ∷ packed value_bytes j.registers

-- the bytes of a record, and of a table
abbrev pub cell_length : ℕ
cell_length = 9

abbrev pub job_length : ℕ
job_length = 52

abbrev pub cell_table_length : ℕ
cell_table_length = table_size * cell_length

abbrev pub job_table_length : ℕ
job_table_length = table_size * job_length

-- "Unused table entries are all zero after a run"
unfoldable pub cell_table : List CellRecord → List ℕ
cell_table cells = pad cell_table_length 0 (packed cell_bytes cells)

unfoldable pub job_table : List JobRecord → List ℕ
job_table jobs = pad job_table_length 0 (packed job_bytes jobs)

-- the records of the code's values, cells and jobs
abbrev pub stored_record : Stored → ValueRecord
stored_record v = record { kind = kind_of (value_in v); number = v.number; source = v.source }

abbrev pub trusted_record : Trust → StoredCell → CellRecord
trusted_record t c = record { shape = c.shape; trust = t; label = c.label; value = stored_record (stored_content c) }

-- the trust "fixed by its shape", by the table of shapes
abbrev pub cell_record_in : List ℕ → StoredCell → CellRecord
cell_record_in shapes c = trusted_record (shape_in shapes c.shape).trust c

abbrev pub job_record_of : StoredJob → JobRecord
job_record_of j =
    record { block = j.block; position = j.position; label = j.label; registers = map stored_record j.registers; source = j.source }

-- the tables of the cells and jobs in use
unfoldable pub saved_cells : List ℕ → List StoredCell → List ℕ
saved_cells shapes cells = cell_table (map (cell_record_in shapes) cells)

unfoldable pub saved_jobs : List StoredJob → List ℕ
saved_jobs jobs = job_table (map job_record_of jobs)
