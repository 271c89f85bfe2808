-- What the writer answers of some tables, settled by proofs/WriterSamples.antt. Book A is that of 01, "Sample books"; the others are small.
--     tables_of_a             book A's tables, as lent bytes
--     WriterSamples         the answers
-- Assumes nothing.
use Rattle.std.specs.Prelude.{ℕ, ◌≡◌, List, [], ◌∷◌, ◌++◌, replicate}
use Rattle.labels.specs.Labels.{label}
use Rattle.book.specs.Outcome.{Passed, Refused}
use Rattle.book.specs.Book.{parse}
use Rattle.book.specs.Samples.{book_a, last_write}
use Rattle.rows.specs.Rows.{BookTables, tables_in}
use Rattle.rows.specs.Parsed.{tables_of}
use Rattle.rows.specs.Write.{unwritable, written}

abbrev pub bytes_of_a : List ℕ
bytes_of_a = book_a 0x09 0x09 0x0C last_write

-- plain, and cell of shape 0 with trust 9; a cell of shape 1, label 9, plain 5; a block of bound 12 with three steps: name 0, cell 0; put 1, 7;
-- write 0, 1
abbrev pub tables_of_a : BookTables
tables_of_a =
    tables_in (label 3) (16 ∷ 0 ∷ 0 ∷ 18 ∷ 0 ∷ 9 ∷ []) (1 ∷ 9 ∷ 0 ∷ 5 ∷ 0 ∷ 0 ∷ 0 ∷ []) (12 ∷ 3 ∷ 0 ∷ 0 ∷ 0 ∷ [])
    (65 ∷ 0 ∷ 0 ∷ 0 ∷ 0 ∷ 0 ∷ 0 ∷ 0 ∷ 64 ∷ 1 ∷ 0 ∷ 0 ∷ 7 ∷ 0 ∷ 0 ∷ 0 ∷ 70 ∷ 0 ∷ 1 ∷ 0 ∷ 0 ∷ 0 ∷ 0 ∷ 0 ∷ [])

-- a block of bound 12 with no step, and these shapes, with this C
abbrev pub small : ℕ → List ℕ → BookTables
small c shapes = tables_in (label c) shapes [] (12 ∷ 0 ∷ 0 ∷ 0 ∷ 0 ∷ []) []

pub record WriterSamples : Type 0 where
  -- book A, with two bytes behind it that are kept; and read again
  pub of_book_a : written tables_of_a (replicate 30 165) ≡ record { refusal = Passed; length = 28; out = bytes_of_a ++ (165 ∷ 165 ∷ []) }
  pub read_again : tables_of (parse bytes_of_a) ≡ tables_of_a
  -- "13, after 6, when the output buffer is too short"
  pub too_short : written tables_of_a (replicate 27 165) ≡ record { refusal = Refused 13 0; length = 0; out = replicate 27 165 }
  -- "Counts that don't add up to the step rows get refusal 2 at 0": one too many, one too few, and ahead of a kind that is none
  pub one_missing : unwritable (tables_in (label 3) [] [] (12 ∷ 1 ∷ 0 ∷ 0 ∷ 0 ∷ []) []) 100 ≡ Refused 2 0
  pub one_over : unwritable (tables_in (label 3) [] [] (12 ∷ 0 ∷ 0 ∷ 0 ∷ 0 ∷ []) (72 ∷ 3 ∷ 0 ∷ 0 ∷ 0 ∷ 0 ∷ 0 ∷ 0 ∷ [])) 100 ≡ Refused 2 0
  pub counts_first : unwritable (tables_in (label 3) (64 ∷ 0 ∷ 0 ∷ []) [] (12 ∷ 1 ∷ 0 ∷ 0 ∷ 0 ∷ []) []) 100 ≡ Refused 2 0
  -- "A shape row whose kind is no shape kind .. gets refusal 2 at its place and counts as one byte of length"
  pub no_shape : unwritable (small 3 (16 ∷ 0 ∷ 0 ∷ 64 ∷ 0 ∷ 0 ∷ [])) 100 ≡ Refused 2 3
  pub one_byte : unwritable (tables_in (label 3) [] [] (12 ∷ 2 ∷ 0 ∷ 0 ∷ 0 ∷ []) (64 ∷ 0 ∷ 0 ∷ 0 ∷ 0 ∷ 0 ∷ 0 ∷ 0 ∷ 32 ∷ 0 ∷ 0 ∷ 0 ∷ 0 ∷ 0 ∷ 0 ∷ 0 ∷ [])) 100
      ≡ Refused 2 10
  -- no block stands: 3 at the length
  pub no_block : unwritable (tables_in (label 3) (16 ∷ 0 ∷ 0 ∷ []) [] [] []) 100 ≡ Refused 3 3
  -- "A nonzero field that its kind doesn't use gets refusal 5": of a shape, of a step its number, behind C above 14 and before a bound above 15
  pub spare_field : unwritable (small 3 (16 ∷ 0 ∷ 7 ∷ [])) 100 ≡ Refused 5 2
  pub spare_number : unwritable (tables_in (label 3) [] [] (12 ∷ 1 ∷ 0 ∷ 0 ∷ 0 ∷ []) (72 ∷ 3 ∷ 0 ∷ 0 ∷ 0 ∷ 0 ∷ 0 ∷ 1 ∷ [])) 100 ≡ Refused 5 4
  pub range_before : unwritable (small 15 (16 ∷ 0 ∷ 7 ∷ [])) 100 ≡ Refused 5 0
  pub spare_before : unwritable (tables_in (label 3) (16 ∷ 1 ∷ 0 ∷ []) [] (16 ∷ 0 ∷ 0 ∷ 0 ∷ 0 ∷ []) []) 100 ≡ Refused 5 2
  -- a content shape that is not lower-numbered: 6, ahead of 13
  pub own_content : unwritable (small 3 (18 ∷ 0 ∷ 9 ∷ [])) 0 ≡ Refused 6 2
