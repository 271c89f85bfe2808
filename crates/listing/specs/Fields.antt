-- The record or the event at an offset, by its fields: 01, "Fields are one byte unless noted; a number is 4 bytes, little-endian", and
-- "Events, laid out as records are (kind byte, then one-byte fields, a number of 4)".
--     field_at, fields_end, number_if       the fields of one byte, where they end, and the number behind them
--     no_fields, fields_to, fields_by       what is told where nothing whole stands, of what does, and of any offset
--     has_number, record_fields            the record at an offset of a book
--     event_has_number, event_fields        the event at an offset of a list
-- Assumes nothing.
use Rattle.std.specs.Prelude.{ℕ, ◌+◌, ◌-◌, Bool, List, ltb, eqb}
use Rattle.book.specs.Control.{when◌then◌else◌, either}
use Rattle.book.specs.Numbers.{cell_kind, put_kind}
use Rattle.book.specs.Kinds.{span}
use Rattle.book.specs.Spans.{byte_at, next_by, cut_by}
use Rattle.book.specs.Records.{number_at}
use Rattle.events.specs.Bytes.{write_event, new_event, event_span}
use Rattle.listing.specs.declared.Fields.{Fields}

-- the field of one byte at i, where these fields end at e: "absent ones 0"
unfoldable pub field_at : List ℕ → ℕ → ℕ → ℕ
field_at s i e = when ltb i e then byte_at s i else 0

-- where the fields of one byte end, if the next record is at n: "a number is 4 bytes", and stands behind them
unfoldable pub fields_end : ℕ → Bool → ℕ
fields_end n numbered = when numbered then n - 4 else n

unfoldable pub number_if : Bool → List ℕ → ℕ → ℕ
number_if numbered s e = when numbered then number_at s e else 0

-- "a kind of 0 where no whole record stands", and all else 0 too
abbrev pub no_fields : Fields
no_fields = record { kind = 0; first = 0; second = 0; third = 0; number = 0; next = 0 }

-- "the kind, the fields in their order (absent ones 0), the number, and the offset of the next": what stands from o up to n
unfoldable pub fields_to : List ℕ → ℕ → ℕ → Bool → Fields
fields_to s o n numbered =
    let e = fields_end n numbered in
    record {
      kind = byte_at s o;
      first = field_at s (o + 1) e;
      second = field_at s (o + 2) e;
      third = field_at s (o + 3) e;
      number = number_if numbered s e;
      next = n;
    }

-- by a span, and by which kinds have a number: what stands at o if a record begins there. Past the end the byte is 0, which is no kind.
unfoldable pub fields_by : (ℕ → ℕ) → (ℕ → Bool) → List ℕ → ℕ → Fields
fields_by span numbered s o = when cut_by span s o then no_fields else fields_to s o (next_by span s o) (numbered (byte_at s o))

-- "32 cell: shape, label, value kind .., number"; "64 put r, number". No other record has a number.
unfoldable pub has_number : ℕ → Bool
has_number k = either (eqb k cell_kind) (eqb k put_kind)

abbrev pub record_fields : List ℕ → ℕ → Fields
record_fields book o = fields_by span has_number book o

-- "81 write Q, cell, value kind, number"; "83 new Q, shape, value kind, number". No other event has a number.
unfoldable pub event_has_number : ℕ → Bool
event_has_number k = either (eqb k write_event) (eqb k new_event)

abbrev pub event_fields : List ℕ → ℕ → Fields
event_fields list o = fields_by event_span event_has_number list o
