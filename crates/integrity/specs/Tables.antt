-- What the tables of a run say, demand 3: of every accepted book, every launch label, every event list and whatever the lent memory held. proofs/Tables.antt
-- proves it. 01, "What demand 3 speaks of". And that a job's block and position, and a value's number, fit their
-- bytes: proofs/JobsFit.antt, proofs/NumbersFit.antt. All names here are of specs/, of this crate or of those below it. Assumes nothing.
use Rattle.std.specs.Prelude.{◌≡◌, List, ℕ, ◌+◌, ◌*◌, ◌<◌, ◌≤◌, length}
use Rattle.labels.specs.declared.Label.{Label}
use Rattle.book.specs.Outcome.{Passed}
use Rattle.book.specs.Records.{byte_at}
pub use Rattle.book.specs.Spans.{Bytes}
use Rattle.book.specs.Book.{Book, parse}
use Rattle.book.specs.Refusals.{unreadable}
use Rattle.typing.specs.Verdict.{Accepted}
use Rattle.typing.specs.Verdict.{verdict}
use Rattle.machine.specs.Launch.{Launch}
use Rattle.machine.specs.Histories.{History}
use Rattle.machine.specs.States.{State}
use Rattle.machine.specs.Events.{block_of}
use Rattle.machine.specs.Records.{ValueRecord, CellRecord, JobRecord, cell_records, job_records}
use Rattle.tables.specs.Bytes.{cell_length, job_length}
use Rattle.interpreter.specs.Run.{Run, ran, final_state}
use Rattle.integrity.specs.Integrity.{◌is_in◌}

-- "A cell record holds shape, trust, label and value", 9 bytes; its last is the value's source. Of cell i:
abbrev pub trust_in : Run → ℕ → ℕ
trust_in r i = byte_at r.cells (cell_length * i + 1)

abbrev pub label_in : Run → ℕ → ℕ
label_in r i = byte_at r.cells (cell_length * i + 2)

abbrev pub source_in : Run → ℕ → ℕ
source_in r i = byte_at r.cells (cell_length * i + 8)

-- "a job record block, position .., label, registers and its own source", 52 bytes; the source stands before the registers. Of job i:
abbrev pub job_label_in : Run → ℕ → ℕ
job_label_in r i = byte_at r.jobs (job_length * i + 2)

abbrev pub job_source_in : Run → ℕ → ℕ
job_source_in r i = byte_at r.jobs (job_length * i + 3)

-- "Where a cell's trust is above C, its label and its value's source are at least that trust. Where a job's label is above C, its source
-- is at least that label." "All cells and jobs in use are meant, finished jobs too."
pub record TablesKept (c : ℕ) (r : Run) : Type 0 where
  pub labels : (i : ℕ) → i < r.cell_count → c < trust_in r i → trust_in r i ≤ label_in r i
  pub sources : (i : ℕ) → i < r.cell_count → c < trust_in r i → trust_in r i ≤ source_in r i
  pub jobs : (i : ℕ) → i < r.job_count → c < job_label_in r i → job_label_in r i ≤ job_source_in r i

-- "For a run that isn't refused, the tables say the same." "A book is accepted when none of refusals 1 to 8 holds of it." 02, Three: "The
-- integrity guarantee has to cover every launch label up to the bound": one above it is refused by 14, and one up to it, or none, is not.
abbrev pub Tables : Type 0
Tables = (book : List ℕ) (shapes cells blocks steps : ℕ) → verdict book ≡ Accepted shapes cells blocks steps
    → (launch : Launch) (list cells_before jobs_before room : List ℕ) → (ran book launch list cells_before jobs_before room).refusal ≡ Passed
    → TablesKept (parse book).c.0 (ran book launch list cells_before jobs_before room)

-- "a job record block, position (how many of the block's steps are done)": a block of the book, and no more steps than it has. "64 blocks or
-- 64 steps in a block": so each fits its byte.
pub record JobFits (K : Book) (r : JobRecord) : Type 0 where
  pub block : r.block < length K.blocks
  pub position : r.position ≤ length (block_of K r.block).steps
  pub block_small : r.block < 64
  pub position_small : r.position ≤ 64

-- "running 1 to 6": of every run of a book that can be read, accepted or not, at any launch label.
abbrev pub JobsFit : Type 0
JobsFit = (book : List ℕ) → unreadable book ≡ Passed → (launch : Label) (list : List ℕ) (r : JobRecord) → r is_in job_records (final_state book launch list)
    → JobFits (parse book) r

-- "A value is plain (32 bits), a cell or a block": so the four bytes of a number in the tables lose nothing.
pub record NumbersFitIn (K : Book) (s : State History) : Type 0 where
  pub cells : (r : CellRecord) → r is_in cell_records K s → r.value.number < 4294967296
  pub registers : (r : JobRecord) → r is_in job_records s → (v : ValueRecord) → v is_in r.registers → v.number < 4294967296

abbrev pub NumbersFit : Type 0
NumbersFit = (book : List ℕ) → Bytes book → unreadable book ≡ Passed → (launch : Label) (list : List ℕ) → Bytes list
    → NumbersFitIn (parse book) (final_state book launch list)
