-- The records of a book, by their offsets: "A book is read record by record from its first byte."
--     number_at, number_bytes    a number, read and written; `byte_at` is that of `Spans`
--     next, cut                the offset past a record; refusal 2 holds of it
--     records_from, records     the records from an offset on, up to one that refusal 2 holds of
--     in_group                  the group of a record
-- Assumes nothing.
use Rattle.std.specs.Prelude.{ℕ, ◌+◌, ◌*◌, ◌%◌, ◌/◌, Bool, List, [], ◌∷◌, eqb}
use Rattle.book.specs.Kinds.{span, group}
use Rattle.book.specs.Spans.{next_by, cut_by, offsets_by}
pub use Rattle.book.specs.Spans.{byte_at}

-- "a number is 4 bytes, little-endian"
unfoldable pub number_at : List ℕ → ℕ → ℕ
number_at s o = byte_at s o + 256 * byte_at s (o + 1) + 65536 * byte_at s (o + 2) + 16777216 * byte_at s (o + 3)

abbrev pub number_bytes : ℕ → List ℕ
number_bytes n = n % 256 ∷ n / 256 % 256 ∷ n / 65536 % 256 ∷ n / 16777216 % 256 ∷ []

abbrev pub next : List ℕ → ℕ → ℕ
next s o = next_by span s o

-- refusal 2: "A kind is none of the above, or the book ends inside a body."
abbrev pub cut : List ℕ → ℕ → Bool
cut s o = cut_by span s o

-- "record by record", from o on
abbrev pub records_from : List ℕ → ℕ → List ℕ
records_from s o = offsets_by span s o

abbrev pub records : List ℕ → List ℕ
records s = records_from s 0

-- the record at o is of group g
abbrev pub in_group : List ℕ → ℕ → ℕ → Bool
in_group s g o = eqb (group (byte_at s o)) g
