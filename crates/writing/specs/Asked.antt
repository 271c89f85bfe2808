-- What the functions inside the writer ask and give. No call that a user makes speaks of it.
--     Enters                        an entry of the code stands for a row
--     behind                        a spare field of a step
--     noted, penned, clear_pen       a fault found so far, with one row more; the pen past a row, and before the first
--     Laid, Lays                    of all rows some are done; rows laid into a draft
--     LaysEach                      rows laid by an entry for each index
--     steps_laid, blocks_laid         the rows of the steps, and of the blocks with their steps
--     Drafted                       a draft of all rows
--     earlier_of, joined             a refusal with the first spare field
--     judged, unsound               refusals 3 to 6, and 2 to 6
--     roomed                        with 13
-- Assumes nothing.
use Rattle.std.specs.Prelude.{ℕ, ◌+◌, ◌*◌, ◌≤◌, ◌<◌, min, ◌≡◌, Bool, true, false, not, List, ◌++◌, eqb, ltb, length, take}
use Rattle.book.specs.Missing.{Fault}
use Rattle.std.specs.Prelude.{None, Some}
use Rattle.book.specs.Outcome.{Refusal, Passed, Refused}
use Rattle.book.specs.Numbers.{max_book_bytes}
use Rattle.book.specs.Control.{when◌then◌else◌, both, either}
use Rattle.book.specs.Refusals.{order_fault, count_fault, range_fault, name_fault, or_refuse}
use Rattle.writing.specs.declared.entries.Entry.{Entry}
use Rattle.writing.specs.declared.laying.Pen.{Pen}
use Rattle.rows.specs.Rows.{BookTables, Row, rows, bytes_of, total, block_row_in, step_row_in, step_row, rows_from, block_rows, packed_rows}
use Rattle.rows.specs.Write.{unknown_fault, spare_fault, earlier}

-- the first bytes of an entry are the row's record
pub record Enters (e : Entry) (r : Row) : Type 0 where
  pub long : length e.bytes ≡ 8
  pub fits : e.length ≤ 8
  pub bytes : take e.length e.bytes ≡ r.bytes
  pub known : e.known ≡ r.known
  pub spare : e.spare ≡ r.spare

-- a field behind the first n bytes of a step other than put is not 0; whether its number is not is known
unfoldable pub behind : ℕ → ℕ → ℕ → Bool → Bool
behind n y z number = either number (either (both (ltb n 4) (not (eqb z 0))) (both (ltb n 3) (not (eqb y 0))))

-- the first fault, with a row at an offset that may be at fault behind it
unfoldable pub noted : Fault → Bool → ℕ → Fault
noted (Some o) bad at = Some o
noted None bad at = elim bad [ true ↦ Some at | false ↦ None ]

abbrev pub penned : Pen → Entry → Pen
penned p e =
    record { at = p.at + e.length; strange = noted p.strange (not e.known) p.at; spare = noted p.spare e.spare p.at }

-- before the first row
abbrev pub clear_pen : Pen
clear_pen = record { at = 0; strange = None; spare = None }

-- Of all rows some stand in the draft, as the pen says. Where 8 bytes are left behind the pen, those that do not are the rest.
pub record Laid (all rest : List Row) (draft : List ℕ) (p : Pen) : Type 0 where
  pub done : List Row
  pub todo : List Row
  pub split : done ++ todo ≡ all
  pub at : p.at ≡ length (packed_rows done)
  pub drafted : take p.at draft ≡ packed_rows done
  pub strange : p.strange ≡ unknown_fault done
  pub spare : p.spare ≡ spare_fault done
  pub reached : p.at + 8 ≤ length draft → todo ≡ rest

-- these rows are laid, whatever was laid before and is to follow
pub record Lays (rs : List Row) (before : List ℕ) (p : Pen) (after : List ℕ) (q : Pen) : Type 0 where
  pub on : (all rest : List Row) → Laid all (rs ++ rest) before p → Laid all rest after q
  pub long : length after ≡ length before

-- n rows are laid by the entries that a relation gives, one for each index, whatever rows they stand for
pub record LaysEach (gives : ℕ → Entry → Type 0) (n : ℕ) (before : List ℕ) (p : Pen) (after : List ℕ) (q : Pen) : Type 0 where
  pub laid : (f : ℕ → Row) → ((i : ℕ) (e : Entry) → i < n → gives i e → Enters e (f i)) → Lays (rows_from f n 0) before p after q

-- n step rows from the i-th on
unfoldable pub steps_laid : List ℕ → ℕ → ℕ → List Row
steps_laid t n i = rows_from (λ i. step_row (step_row_in t (i * 8))) n i

-- n blocks from the i-th on, with m step rows from the j-th on
unfoldable pub blocks_laid : List ℕ → List ℕ → ℕ → ℕ → ℕ → ℕ → List Row
blocks_laid b t n i m j = block_rows (rows_from (λ i. block_row_in b (i * 5)) n i) (rows_from (λ i. step_row_in t (i * 8)) m j)

-- the draft is the book of the tables, and the pen has its rows' first faults
pub record Drafted (t : BookTables) (s : List ℕ) (p : Pen) : Type 0 where
  pub bytes : s ≡ bytes_of t
  pub short : length s ≤ max_book_bytes
  pub strange : p.strange ≡ unknown_fault (rows t)
  pub spare : p.spare ≡ spare_fault (rows t)

-- the place of refusal 5, where the reader refuses by n, not before 5, at p, and the first spare field stands at o
unfoldable pub earlier_of : ℕ → ℕ → ℕ → ℕ
earlier_of n p o = when eqb n 5 then min o p else o

-- the reader's refusal, with the first spare field
unfoldable pub joined : Refusal → Fault → Refusal
joined r None = r
joined Passed (Some o) = Refused 5 o
joined (Refused n p) (Some o) = when ltb n 5 then Refused n p else Refused 5 (earlier_of n p o)

-- refusals 3 to 6 of what would be written
unfoldable pub judged : List ℕ → Fault → Refusal
judged s spare =
    or_refuse 3 (order_fault s)
    (or_refuse 4 (count_fault s)
    (or_refuse 5 (earlier spare (range_fault s))
    (or_refuse 6 (name_fault s) Passed)))

-- refusals 2 to 6 of tables
unfoldable pub unsound : BookTables → Refusal
unsound t =
    when not (eqb (total t.blocks) (length t.steps)) then Refused 2 0
    else or_refuse 2 (unknown_fault (rows t)) (judged (bytes_of t) (spare_fault (rows t)))

-- and 13, where so many bytes have to go into so much room
unfoldable pub roomed : Refusal → ℕ → ℕ → Refusal
roomed (Refused n o) size room = Refused n o
roomed Passed size room = when ltb room size then Refused 13 0 else Passed
