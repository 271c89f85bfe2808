-- The round trip: 02, One.
--     ReadBack         "Reading the output gives those tables back."
--     WrittenAgain     "Any book that passes refusals 1 to 6, read and written again, has the same bytes."
--     TakenApart       the rows of such a book, packed into lent tables, are its rows
--     LentAgain        so a book taken apart into lent tables is written again too
-- Assumes nothing.
use Rattle.std.specs.Prelude.{ℕ, ◌<◌, ◌≤◌, ◌≡◌, length, take, drop}
use mathlib.Core.List.{List, ◌++◌, Memᴰ}
use Rattle.labels.specs.declared.Label.{Label}
use Rattle.book.specs.Outcome.{Passed}
use Rattle.book.specs.Spans.{Bytes, packed}
use Rattle.book.specs.Book.{parse}
use Rattle.book.specs.Refusals.{unreadable}
use Rattle.rows.specs.Rows.{BookTables, CellRow, StepRow, tables_in}
use Rattle.rows.specs.Parsed.{tables_of, shape_row_bytes, cell_row_bytes, block_row_bytes, step_row_bytes}
use Rattle.rows.specs.Write.{WriteResult, written}

-- "a number is 4 bytes": the numbers that are written have 32 bits; a step count is not written
pub record NumbersHold (t : BookTables) : Type 0 where
  pub cells : (r : CellRow) → Memᴰ r t.cells → r.number < 4294967296
  pub steps : (r : StepRow) → Memᴰ r t.steps → r.number < 4294967296

-- those of lent tables do
abbrev pub LentNumbersHold : Type 0
LentNumbersHold = (c : Label) (shapes cells blocks steps : List ℕ) → Bytes cells → Bytes steps → NumbersHold (tables_in c shapes cells blocks steps)

-- the book that a call wrote: as many bytes of the buffer as it reported
abbrev pub output : WriteResult → List ℕ
output w = take w.length w.out

-- "Reading the output gives those tables back."
abbrev pub ReadBack : Type 0
ReadBack = (t : BookTables) → NumbersHold t → (out : List ℕ) → (written t out).refusal ≡ Passed
    → (unreadable (output (written t out)) ≡ Passed) × (tables_of (parse (output (written t out))) ≡ t)

-- "Any book that passes refusals 1 to 6, read and written again, has the same bytes."
abbrev pub WrittenAgain : Type 0
WrittenAgain = (book : List ℕ) → Bytes book → unreadable book ≡ Passed → (out : List ℕ) → length book ≤ length out
    → written (tables_of (parse book)) out ≡ record { refusal = Passed; length = length book; out = book ++ drop (length book) out }

-- the rows of tables, packed into lent bytes
abbrev pub repacked : BookTables → BookTables
repacked t =
    tables_in t.c (packed shape_row_bytes t.shapes) (packed cell_row_bytes t.cells) (packed block_row_bytes t.blocks) (packed step_row_bytes t.steps)

-- the rows of such a book, packed, are lent tables that have these rows
abbrev pub TakenApart : Type 0
TakenApart = (book : List ℕ) → Bytes book → unreadable book ≡ Passed → repacked (tables_of (parse book)) ≡ tables_of (parse book)

-- the same sentence of the lent tables
abbrev pub LentAgain : Type 0
LentAgain = (book : List ℕ) → Bytes book → unreadable book ≡ Passed → (out : List ℕ) → length book ≤ length out
    → written (repacked (tables_of (parse book))) out ≡ record { refusal = Passed; length = length book; out = book ++ drop (length book) out }
