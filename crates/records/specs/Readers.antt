-- A reader of a lent book: "A book is read record by record from its first byte."
--     reader_at      what it holds at an offset
--     records_left   the records from there on
--     read_past      where it stands once it gave a record
--     ReadsOn        one call of its `next`
-- Assumes nothing.
use Rattle.std.specs.Prelude.{◌≡◌, ℕ, ◌<◌, ◌≤◌, List, [], ◌∷◌, length, eqb, Option, MatchOption}
use Rattle.std.specs.Borrow.{Bor}
use Rattle.book.specs.Control.{when◌then◌else◌}
use Rattle.book.specs.Records.{next, records_from}
use Rattle.records.specs.declared.reader.Reader.{Reader}

-- "read record by record from its first byte": what a reader of the lent book b holds at the offset o; it begins at 0
abbrev pub reader_at : Bor (List ℕ) → ℕ → Reader
reader_at b o = record { book = b; at = o }

-- the records from its offset on, up to one that refusal 2 holds of
abbrev pub records_left : Reader → List ℕ
records_left r = records_from r.book.now r.at

-- past the record at o; at the end where its kind is none, so that refusal 2 holds of it and it is the last
abbrev pub read_past : List ℕ → ℕ → ℕ
read_past s o = when eqb (next s o) o then length s else next s o

-- it gave the first of them, which stands where the reader was, and stands past it; none where none is left, and then it stays
abbrev pub ReadsOn : Reader → Option ℕ → Reader → Type 0
ReadsOn r x t =
    (t.book ≡ r.book)
    × MatchOption x
    ((records_left r ≡ []) × (length r.book.now ≤ r.at) × (t.at ≡ r.at))
    (λ o. (o ≡ r.at) × (o < length r.book.now) × (records_left r ≡ o ∷ records_left t) × (t.at ≡ read_past r.book.now o))
