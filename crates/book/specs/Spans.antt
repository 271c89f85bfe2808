-- Bytes laid out in records: "A record is one byte of kind, then a body whose length the kind fixes." The records of a book are, and
-- "Events, laid out as records are". A span is how many bytes a record of a kind has, its kind byte too; 0 for a kind that is none.
--     byte_at, Bytes              a byte; a list of bytes
--     next_by, cut_by              by a span: the offset past a record; the record is cut
--     offsets_in, offsets_by       the offsets of the records from one on, up to one that is cut
--     packed                     records one after the other
-- Assumes nothing.
use Rattle.std.specs.Prelude.{ℕ, zero, suc, ◌+◌, ◌<◌, Bool, true, false, List, [], ◌∷◌, ◌++◌, length, get_or, ltb, eqb}
use Rattle.book.specs.Control.{either}

-- a byte; 0 past the end
abbrev pub byte_at : List ℕ → ℕ → ℕ
byte_at s i = get_or s i 0

-- a list whose members are bytes, as every book and every event list is
abbrev pub Bytes : List ℕ → Type 0
Bytes l = (i : ℕ) → byte_at l i < 256

module _ (span : ℕ → ℕ) where
  -- "one byte of kind, then a body whose length the kind fixes": the offset past the record at o
  abbrev pub next_by : List ℕ → ℕ → ℕ
  next_by s o = o + span (byte_at s o)

  -- the record at o "has an unknown kind or a cut body"
  unfoldable pub cut_by : List ℕ → ℕ → Bool
  cut_by s o = either (eqb (span (byte_at s o)) 0) (ltb (length s) (next_by s o))

  -- "record by record": at most n from o on
  unfoldable pub offsets_in : ℕ → List ℕ → ℕ → List ℕ
  offsets_in zero s o = []
  offsets_in (suc n) s o =
      elim (ltb o (length s)) [ false ↦ [] | true ↦ elim (cut_by s o) [ true ↦ o ∷ [] | false ↦ o ∷ offsets_in n s (next_by s o) ] ]

  -- there are no more records than bytes
  unfoldable pub offsets_by : List ℕ → ℕ → List ℕ
  offsets_by s o = offsets_in (length s) s o

-- the records one after the other
module _ {A : Type 0} (bytes : A → List ℕ) where
  abbrev pub packed : List A → List ℕ
  packed [] = []
  packed (x ∷ xs) = bytes x ++ packed xs
