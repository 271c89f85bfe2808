-- What is told of each kind of record and event, settled by `proofs/Rows.antt`. All bytes of a record differ, so that none can stand for
-- another.
--     row                          what is told, as one line
--     every_record, every_event      the bytes of one of each
--     Rows                         what is told of them
-- Assumes nothing.
use Rattle.std.specs.Prelude.{ℕ, ◌≡◌, List, [], ◌∷◌, map}
use Rattle.book.specs.Records.{records}
use Rattle.events.specs.Bytes.{offsets_from}
use Rattle.listing.specs.declared.Fields.{Fields}
use Rattle.listing.specs.Fields.{no_fields, record_fields, event_fields}

abbrev pub row : ℕ → ℕ → ℕ → ℕ → ℕ → ℕ → Fields
row k x y z n o = record { kind = k; first = x; second = y; third = z; number = n; next = o }

-- "1: C", "16 plain shape, no body; 17 code shape: bound; 18 cell shape: content shape, trust", "32 cell: shape, label, value kind .., number",
-- "48 block: bound ..", and "64 put r, number; 65 name r, cell; 66 code r, block; 67 add r, a, b; 68 new r, shape, a; 69 read r, w; 70 write w, a;
-- 71 relabel w, label; 72 lower label; 73 start block; 74 exec w"; 02, Four: "Kind 75, choose r, block, block"
abbrev pub every_record : List ℕ
every_record =
    1 ∷ 2
    ∷ 16
    ∷ 17 ∷ 3
    ∷ 18 ∷ 4 ∷ 5
    ∷ 32 ∷ 6 ∷ 7 ∷ 8 ∷ 0x78 ∷ 0x56 ∷ 0x34 ∷ 0x12
    ∷ 48 ∷ 9
    ∷ 64 ∷ 10 ∷ 0xDD ∷ 0xCC ∷ 0xBB ∷ 0xAA
    ∷ 65 ∷ 11 ∷ 12
    ∷ 66 ∷ 13 ∷ 14
    ∷ 67 ∷ 15 ∷ 16 ∷ 17
    ∷ 68 ∷ 18 ∷ 19 ∷ 20
    ∷ 69 ∷ 21 ∷ 22
    ∷ 70 ∷ 23 ∷ 24
    ∷ 71 ∷ 25 ∷ 26
    ∷ 72 ∷ 27
    ∷ 73 ∷ 28
    ∷ 74 ∷ 29
    ∷ 75 ∷ 30 ∷ 31 ∷ 32
    ∷ []

-- "80 step job; by an outsider at label Q: 81 write Q, cell, value kind, number; 82 relabel Q, cell, label; 83 new Q, shape, value kind,
-- number; 84 exec Q, cell; 85 start Q, block"
abbrev pub every_event : List ℕ
every_event =
    80 ∷ 1
    ∷ 81 ∷ 2 ∷ 3 ∷ 4 ∷ 0x78 ∷ 0x56 ∷ 0x34 ∷ 0x12
    ∷ 82 ∷ 5 ∷ 6 ∷ 7
    ∷ 83 ∷ 8 ∷ 9 ∷ 10 ∷ 0xDD ∷ 0xCC ∷ 0xBB ∷ 0xAA
    ∷ 84 ∷ 11 ∷ 12
    ∷ 85 ∷ 13 ∷ 14
    ∷ []

pub record Rows : Type 0 where
  pub of_records : map (record_fields every_record) (records every_record)
      ≡ row 1 2 0 0 0 2
      ∷ row 16 0 0 0 0 3
      ∷ row 17 3 0 0 0 5
      ∷ row 18 4 5 0 0 8
      ∷ row 32 6 7 8 0x12345678 16
      ∷ row 48 9 0 0 0 18
      ∷ row 64 10 0 0 0xAABBCCDD 24
      ∷ row 65 11 12 0 0 27
      ∷ row 66 13 14 0 0 30
      ∷ row 67 15 16 17 0 34
      ∷ row 68 18 19 20 0 38
      ∷ row 69 21 22 0 0 41
      ∷ row 70 23 24 0 0 44
      ∷ row 71 25 26 0 0 47
      ∷ row 72 27 0 0 0 49
      ∷ row 73 28 0 0 0 51
      ∷ row 74 29 0 0 0 53
      ∷ row 75 30 31 32 0 57
      ∷ []
  pub of_events : map (event_fields every_event) (offsets_from every_event 0)
      ≡ row 80 1 0 0 0 2
      ∷ row 81 2 3 4 0x12345678 10
      ∷ row 82 5 6 7 0 14
      ∷ row 83 8 9 10 0xAABBCCDD 22
      ∷ row 84 11 12 0 0 25
      ∷ row 85 13 14 0 0 28
      ∷ []
  -- at the end, past it, and in nothing
  pub end : record_fields every_record 57 ≡ no_fields
  pub past : event_fields every_event 1000 ≡ no_fields
  pub empty : record_fields [] 0 ≡ no_fields
  -- no kind; a kind of events in a book, and of records in a list
  pub below : record_fields (15 ∷ 0 ∷ []) 0 ≡ no_fields
  pub above : record_fields (76 ∷ 0 ∷ 0 ∷ 0 ∷ 0 ∷ []) 0 ≡ no_fields
  pub other_record : record_fields every_event 0 ≡ no_fields
  pub other_event : event_fields every_record 0 ≡ no_fields
  -- all but the last byte
  pub cut_cell : record_fields (32 ∷ 1 ∷ 2 ∷ 3 ∷ 4 ∷ 5 ∷ 6 ∷ []) 0 ≡ no_fields
  pub cut_exec : record_fields (74 ∷ []) 0 ≡ no_fields
  pub cut_choose : record_fields (75 ∷ 1 ∷ 2 ∷ []) 0 ≡ no_fields
  pub cut_write : event_fields (81 ∷ 1 ∷ 2 ∷ 3 ∷ 4 ∷ 5 ∷ 6 ∷ []) 0 ≡ no_fields
  pub cut_start : event_fields (85 ∷ 13 ∷ []) 0 ≡ no_fields
  -- the largest number
  pub largest : record_fields (64 ∷ 255 ∷ 255 ∷ 255 ∷ 255 ∷ 255 ∷ []) 0 ≡ row 64 255 0 0 0xFFFFFFFF 6
