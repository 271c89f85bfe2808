-- What the writer answers: 02, One.
--     first_row, unknown_fault, spare_fault    the first row at fault, by the offset where its record would stand
--     earlier                               the first record at fault of two stages that count as one
--     unwritable                            the refusal of tables, if they have one
--     WriteResult, write_by, written        what is answered, and what the buffer holds after the call; what a call gave
-- Assumes nothing.
use Rattle.std.specs.Prelude.{ℕ, ◌+◌, min, Bool, true, false, not, List, [], ◌∷◌, ◌++◌, eqb, ltb, length, drop}
use Rattle.book.specs.Missing.{Fault}
use Rattle.std.specs.Prelude.{None, Some}
use Rattle.book.specs.Outcome.{Refusal, Passed, Refused, Given, outcome, given_or}
use Rattle.book.specs.Numbers.{max_book_bytes}
use Rattle.book.specs.Control.{when◌then◌else◌}
use Rattle.book.specs.Refusals.{order_fault, count_fault, range_fault, name_fault, or_refuse}
use Rattle.rows.specs.Rows.{BookTables, Row, rows, bytes_of, total}

-- the first row that is bad: "the place is the offset where the record would stand"
unfoldable pub first_row : (Row → Bool) → ℕ → List Row → Fault
first_row bad o [] = None
first_row bad o (r ∷ rs) = elim (bad r) [ true ↦ Some o | false ↦ first_row bad (o + length r.bytes) rs ]

-- "A shape row whose kind is no shape kind, or a step row whose kind is no step kind, gets refusal 2 at its place"
abbrev pub unknown_fault : List Row → Fault
unknown_fault rs = first_row (λ r. not r.known) 0 rs

-- "A nonzero field that its kind doesn't use gets refusal 5."
abbrev pub spare_fault : List Row → Fault
spare_fault rs = first_row (λ r. r.spare) 0 rs

-- the first record at fault of two stages that count as one
unfoldable pub earlier : Fault → Fault → Fault
earlier None f = f
earlier (Some o) None = Some o
earlier (Some o) (Some p) = Some (min o p)

-- "Tables that break a rule of refusals 1 to 6 get that rule's number": s is what would be written. "Counts that don't add up to the step rows
-- get refusal 2 at 0, ahead of any other 2." "Errors: 13, after 6, when the output buffer is too short", of `room` bytes.
unfoldable pub unwritable : BookTables → ℕ → Refusal
unwritable t room =
    let s = bytes_of t in
    when ltb max_book_bytes (length s) then Refused 1 0
    else when not (eqb (total t.blocks) (length t.steps)) then Refused 2 0
    else or_refuse 2 (unknown_fault (rows t))
    (or_refuse 3 (order_fault s)
    (or_refuse 4 (count_fault s)
    (or_refuse 5 (earlier (spare_fault (rows t)) (range_fault s))
    (or_refuse 6 (name_fault s)
    (when ltb room (length s) then Refused 13 0 else Passed)))))

-- the refusal, the length that is reported, and the buffer after the call
pub record WriteResult : Type 0 where
  pub refusal : Refusal
  pub length : ℕ
  pub out : List ℕ

-- what a call gave, and what it left in the buffer
abbrev pub write_by : Given ℕ → List ℕ → WriteResult
write_by r out = record { refusal = outcome r; length = given_or 0 r; out = out }

-- "fills a lent buffer with the records in group order, and reports their length." "Beyond the output the buffer is kept."
unfoldable pub written_of : Refusal → List ℕ → List ℕ → WriteResult
written_of (Refused n o) s out = record { refusal = Refused n o; length = 0; out = out }
written_of Passed s out = record { refusal = Passed; length = length s; out = s ++ drop (length s) out }

abbrev pub written : BookTables → List ℕ → WriteResult
written t out = written_of (unwritable t (length out)) (bytes_of t) out
